use Rattle.std.proofs.lemmas.Option.{IfSome_then}
use Rattle.step_code.specs.Reading.{action_at, list_at}
use Rattle.step_code.proofs.Passed.{none_left, some_left}
use Rattle.step_code.proofs.fields_passed.after_some_actions.Goals as goal

pub returns-then-present : goal.returns-then-present
returns-then-present c =
    IfSome_then c.after_counted_actions.result c.after_counted_actions.ensures
    (λ rest has. some_left (list_at action_at) c.args.bytes.now c.in-Ok.rest.now rest.now c.in-Ok.present c.in-Ok.ensures c.if-present.true has)

pub returns-else-present : goal.returns-else-present
returns-else-present c = none_left (list_at action_at) c.args.bytes.now c.in-Ok.rest.now c.in-Ok.present c.in-Ok.ensures c.if-present.false
