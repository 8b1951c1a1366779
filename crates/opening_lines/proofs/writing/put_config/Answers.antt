use Rattle.std.proofs.Common.{◌∙◌, refl, subst}
use Rattle.hex.specs.Hex.{IsBytes}
use Rattle.std.proofs.lemmas.Result.{on_ok_weaker}
use Rattle.opening_lines.proofs.writing.put_config.Goals as goal

pub returns-clause-has_record : goal.returns-clause-has_record
returns-clause-has_record c =
    on_ok_weaker c.put_bytes.result (λ line. (
      c.in_ok-bytes.ensures.fits refl,
      subst IsBytes (c.as_slice.ensures ∙ c.in_ok-bytes.ensures.bytes) c.bytes_fit.ensures,
    )) c.put_bytes.ensures
