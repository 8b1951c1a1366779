use Rattle.std.proofs.lemmas.Option.{IfSome_then}
use Rattle.step_code.specs.Reading.{text_at}
use Rattle.step_code.proofs.Passed.{list_left}
use Rattle.step_code.proofs.fields_passed.after_counted_words.Goals as goal

pub returns : goal.returns
returns c =
    IfSome_then c.after_words.result c.after_words.ensures
    (λ rest has. list_left text_at c.args.bytes.now c.in-Ok.rest.now rest.now c.in-Ok.count c.in-Ok.ensures has)
