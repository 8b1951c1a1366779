use Rattle.std.proofs.Common.{refl}
use Rattle.std.proofs.lemmas.Option.{IfSome_then}
use Rattle.step_code.specs.Reading.{change2_at, info_at, n8_at}
use Rattle.step_code.proofs.Passed.{onward}
use Rattle.step_code.proofs.requests_passed.after_change2.Goals as goal

pub returns : goal.returns
unfolding change2_at
returns c =
    IfSome_then c.after_info.result c.after_info.ensures (λ rest has.
    onward (n8_at c.args.bytes.now) _ c.in_ok-info.info.now rest.now c.in_ok-info.ensures (λ handle.
    onward (info_at c.in_ok-info.info.now) _ rest.now rest.now has (λ info. (_, refl))))
