use Rattle.std.proofs.lemmas.Option.{IfSome_then}
use Rattle.step_code.specs.Reading.{list_at, text_at}
use Rattle.step_code.proofs.Passed.{none_left, some_left}
use Rattle.step_code.proofs.fields_passed.after_some_words.Goals as goal

pub returns-then-present : goal.returns-then-present
returns-then-present c =
    IfSome_then c.after_counted_words.result c.after_counted_words.ensures
    (λ rest has. some_left (list_at text_at) c.args.bytes.now c.in-Ok.rest.now rest.now c.in-Ok.present c.in-Ok.ensures c.if-present.true has)

pub returns-else-present : goal.returns-else-present
returns-else-present c = none_left (list_at text_at) c.args.bytes.now c.in-Ok.rest.now c.in-Ok.present c.in-Ok.ensures c.if-present.false
