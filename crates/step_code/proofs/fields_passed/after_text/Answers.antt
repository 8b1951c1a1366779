use Rattle.std.proofs.lemmas.Option.{IfSome_then}
use Rattle.step_code.proofs.Passed.{text_left}
use Rattle.step_code.proofs.fields_passed.after_text.Goals as goal

pub returns : goal.returns
returns c =
    IfSome_then c.after_units.result c.after_units.ensures
    (λ rest has. text_left c.args.bytes.now c.in-Ok.rest.now rest.now c.in-Ok.count c.in-Ok.ensures has)
