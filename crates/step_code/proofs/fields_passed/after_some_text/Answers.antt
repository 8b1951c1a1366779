use Rattle.std.proofs.lemmas.Option.{IfSome_then}
use Rattle.step_code.specs.Reading.{text_at}
use Rattle.step_code.proofs.Passed.{none_left, some_left}
use Rattle.step_code.proofs.fields_passed.after_some_text.Goals as goal

pub returns-then-present : goal.returns-then-present
returns-then-present c =
    IfSome_then c.after_text.result c.after_text.ensures
    (λ rest has. some_left text_at c.args.bytes.now c.in-Ok.rest.now rest.now c.in-Ok.present c.in-Ok.ensures c.if-present.true has)

pub returns-else-present : goal.returns-else-present
returns-else-present c = none_left text_at c.args.bytes.now c.in-Ok.rest.now c.in-Ok.present c.in-Ok.ensures c.if-present.false
