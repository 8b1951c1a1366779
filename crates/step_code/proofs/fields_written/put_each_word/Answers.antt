use Rattle.std.proofs.Common.{ap, arith, subst}
use Rattle.std.proofs.lemmas.Grind.{common_steps}
use Rattle.std.proofs.lemmas.List.Elements.{All-more}
use Rattle.std.proofs.lemmas.List.Sums.{sum_by_more_le}
use Rattle.step_code.specs.Fits.{IsText}
use Rattle.step_code.specs.Sizes.{text_size}
use Rattle.step_code.proofs.Words.{size_at}
use Rattle.step_code.proofs.fields_written.put_each_word.Goals as goal

pub put_text-requires : goal.put_text-requires
put_text-requires c =
    let i = c.loop-word.word-index in
    let word = c.word-item.result in
    let more = sum_by_more_le text_size c.args.words.now i word c.loop-word-test.true in
    let same = ap text_size c.word-item.is in
    record {
      room = omega (arith, c.requires.room, c.loop-word.invariant.room, more, same);
      short = omega (arith, c.requires.short, size_at c.args.words.now i word c.loop-word-test.true c.word-item.is);
    }

pub loop-word-preserved : goal.loop-word-preserved
loop-word-preserved c = record {
  bytes = grind (arith, common_steps);
  room = grind (arith, common_steps);
  fit = All-more IsText c.args.words.now c.loop-word.word-index c.word-item.result c.loop-word-test.true c.loop-word.invariant.fit
      (subst IsText c.word-item.is c.put_text.ensures.fits);
}
