use Rattle.std.proofs.lemmas.Option.{IfSome_then}
use Rattle.step_code.specs.Reading.{trigger_at}
use Rattle.step_code.proofs.Passed.{list_left}
use Rattle.step_code.proofs.fields_passed.after_counted_triggers.Goals as goal

pub returns : goal.returns
returns c =
    IfSome_then c.after_triggers.result c.after_triggers.ensures
    (λ rest has. list_left trigger_at c.args.bytes.now c.in-Ok.rest.now rest.now c.in-Ok.count c.in-Ok.ensures has)
