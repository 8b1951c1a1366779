use Rattle.std.proofs.Common.{refl}
use Rattle.std.proofs.lemmas.Option.{IfSome_then}
use Rattle.step_code.specs.Reading.{n8_at, set_status_at, status_at}
use Rattle.step_code.proofs.Passed.{onward}
use Rattle.step_code.proofs.requests_passed.after_set_status.Goals as goal

pub returns : goal.returns
unfolding set_status_at
returns c =
    IfSome_then c.after_status.result c.after_status.ensures (λ rest has.
    onward (n8_at c.args.bytes.now) _ c.in_ok-status.status.now rest.now c.in_ok-status.ensures (λ handle.
    onward (status_at c.in_ok-status.status.now) _ rest.now rest.now has (λ status. (_, refl))))
