use Rattle.std.proofs.Common.{◌≡◌, ◌∷◌, ◌++◌, [], ◌∙◌}
use Rattle.std.proofs.lemmas.Result.{err_from_is_err_and}
use Rattle.ndr_body.specs.Reading.{text_at}
use Rattle.scm_shapes.specs.Each.{each_at}
use Rattle.scm_shapes.proofs.Loop.{goes_on, ends, is_done, pushed}
use Rattle.scm_shapes.proofs.words.read_texts.Goals as goal

pub returns-in_err-text-clause-value : goal.returns-in_err-text-clause-value
returns-in_err-text-clause-value c =
    let p = err_from_is_err_and c.from_residual.result c.from_residual.ensures.1 in
    rw (p.1, p.2) (ends text_at c.in_err-text.field-0.0 c.loop.texts c.args.count c.loop.counter c.loop.reader.body c.loop.reader.place
    (each_at text_at c.args.count c.args.reader.now.body c.args.reader.now.place) c.loop-test.true c.in_err-text.ensures.value
    c.loop.invariant.so_far)

pub loop-preserved : goal.loop-preserved
loop-preserved c =
    let longer = pushed (c.push.new.self ≡ c.loop.texts ++ c.in_ok-text.text ∷ []) c.push.result c.if-is_err.ensures.value c.push.ensures.ok
    in
    let read = goes_on text_at c.loop.texts c.args.count c.loop.counter c.loop.reader.body c.loop.reader.place c.in_ok-text.text
    c.text.new.self.place (each_at text_at c.args.count c.args.reader.now.body c.args.reader.now.place) c.loop-test.true
    c.in_ok-text.ensures.value c.loop.invariant.so_far in
    record { so_far = rw (longer, c.in_ok-text.ensures.body) read; body = c.in_ok-text.ensures.body ∙ c.loop.invariant.body }

pub returns-clause-value : goal.returns-clause-value
returns-clause-value c = is_done text_at c.loop.texts c.args.count c.loop.counter c.loop.reader.body c.loop.reader.place
    (each_at text_at c.args.count c.args.reader.now.body c.args.reader.now.place) c.loop-test.false c.loop.invariant.so_far
