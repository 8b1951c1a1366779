use Rattle.std.proofs.Common.{refl}
use Rattle.std.proofs.lemmas.Option.{IfSome_then}
use Rattle.step_code.specs.Reading.{action_at, failure_at, list_at, n4_at, some_at, text_at}
use Rattle.step_code.proofs.Passed.{onward}
use Rattle.step_code.proofs.requests_passed.after_failure.Goals as goal

pub returns : goal.returns
unfolding failure_at
returns c =
    IfSome_then c.after_some_actions.result c.after_some_actions.ensures (λ rest has.
    onward (n4_at c.args.bytes.now) _ c.in_ok-command.command.now rest.now c.in_ok-command.ensures (λ reset.
    onward (some_at text_at c.in_ok-command.command.now) _ c.in_ok-actions.actions.now rest.now c.in_ok-actions.ensures (λ command.
    onward (some_at (list_at action_at) c.in_ok-actions.actions.now) _ rest.now rest.now has (λ actions. (_, refl)))))
