use Rattle.std.proofs.lemmas.Option.{IfSome_then}
use Rattle.step_code.specs.Reading.{action_at}
use Rattle.step_code.proofs.Passed.{list_left}
use Rattle.step_code.proofs.fields_passed.after_counted_actions.Goals as goal

pub returns : goal.returns
returns c =
    IfSome_then c.after_actions.result c.after_actions.ensures
    (λ rest has. list_left action_at c.args.bytes.now c.in-Ok.rest.now rest.now c.in-Ok.count c.in-Ok.ensures has)
