use Rattle.std.proofs.Common.{arith}
use Rattle.std.proofs.lemmas.List.Sums.{sum_by-take-le}
use Rattle.step_code.specs.Sizes.{text_size}
use Rattle.step_code.proofs.Words.{each_within, size_at}
use Rattle.step_code.proofs.length.words_length.Goals as goal

pub text_length-size-requires : goal.text_length-size-requires
text_length-size-requires c =
    let within = size_at c.args.words.now c.loop-word.word-index c.word-item.result c.loop-word-test.true c.word-item.is in
    omega (arith, c.requires, within)

pub overflow_add-size : goal.overflow_add-size
overflow_add-size c =
    let within = size_at c.args.words.now c.loop-word.word-index c.word-item.result c.loop-word-test.true c.word-item.is in
    omega (arith, c.requires, c.loop-word.invariant, c.text_length-size.ensures, within)

pub returns-clause-small : goal.returns-clause-small
returns-clause-small c =
    let far = sum_by-take-le text_size c.args.words.now c.loop-word.word-index in
    omega (arith, c.loop-word.invariant, far, each_within c.args.words.now)
