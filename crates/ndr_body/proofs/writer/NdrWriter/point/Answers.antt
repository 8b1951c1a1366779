use Rattle.std.proofs.Common.{◌≡◌, ◌+◌, ◌≤◌, length, ap, arith}
use Rattle.ndr_body.specs.Writing.{Draft, put_referent}
use Rattle.ndr_body.proofs.Lengths.{length_put_referent, on_ok}
use Rattle.ndr_body.proofs.writer.NdrWriter.point.Goals as goal

pub returns-clause-room : goal.returns-clause-room
returns-clause-room c =
    let same = ap (λ (d : Draft). length d.bytes) c.reserve.ensures.draft in
    let law : c.referent.new.self.draft ≡ put_referent c.reserve.new.self.draft → length c.referent.new.self.draft.bytes
    + c.args.size ≤ c.referent.new.self.space = λ put.
    omega (
      arith,
      same,
      ap (λ (d : Draft). length d.bytes) put,
      length_put_referent c.reserve.new.self.draft,
      c.in_ok-reserve.ensures.ok,
      c.referent.ensures.space,
      c.aligned.ensures,
      c.length-length.ensures.length,
    ) in
    on_ok _ _ c.referent.result law c.referent.ensures.ok

pub returns-clause-enough : goal.returns-clause-enough
returns-clause-enough c =
    let same = ap (λ (d : Draft). length d.bytes) c.reserve.ensures.draft in
    λ le. c.referent.ensures.enough (omega (
      arith,
      same,
      length_put_referent c.reserve.new.self.draft,
      c.in_ok-reserve.ensures.ok,
      c.aligned.ensures,
      c.length-length.ensures.length,
    ))
