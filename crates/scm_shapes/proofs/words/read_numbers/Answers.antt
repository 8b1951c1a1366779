use Rattle.std.proofs.Common.{◌≡◌, ◌∷◌, ◌++◌, [], ◌∙◌}
use Rattle.std.proofs.lemmas.Result.{err_from_is_err_and}
use Rattle.ndr_body.specs.Reading.{number_at}
use Rattle.scm_shapes.specs.Each.{each_at}
use Rattle.scm_shapes.proofs.Loop.{goes_on, ends, is_done, pushed}
use Rattle.scm_shapes.proofs.words.read_numbers.Goals as goal

pub returns-in_err-number-clause-value : goal.returns-in_err-number-clause-value
returns-in_err-number-clause-value c =
    let p = err_from_is_err_and c.from_residual.result c.from_residual.ensures.1 in
    rw (p.1, p.2) (ends number_at c.in_err-number.field-0.0 c.loop.numbers c.args.count c.loop.counter c.loop.reader.body
    c.loop.reader.place (each_at number_at c.args.count c.args.reader.now.body c.args.reader.now.place) c.loop-test.true
    c.in_err-number.ensures.value c.loop.invariant.so_far)

pub loop-preserved : goal.loop-preserved
loop-preserved c =
    let longer = pushed (c.push.new.self ≡ c.loop.numbers ++ c.in_ok-number.number ∷ []) c.push.result c.if-is_err.ensures.value
    c.push.ensures.ok in
    let read = goes_on number_at c.loop.numbers c.args.count c.loop.counter c.loop.reader.body c.loop.reader.place c.in_ok-number.number
    c.number.new.self.place (each_at number_at c.args.count c.args.reader.now.body c.args.reader.now.place) c.loop-test.true
    c.in_ok-number.ensures.value c.loop.invariant.so_far in
    record { so_far = rw (longer, c.in_ok-number.ensures.body) read; body = c.in_ok-number.ensures.body ∙ c.loop.invariant.body }

pub returns-clause-value : goal.returns-clause-value
returns-clause-value c = is_done number_at c.loop.numbers c.args.count c.loop.counter c.loop.reader.body c.loop.reader.place
    (each_at number_at c.args.count c.args.reader.now.body c.args.reader.now.place) c.loop-test.false c.loop.invariant.so_far
