use Rattle.std.proofs.Common.{add-one, arith}
use Rattle.scm_model.proofs.Worded.{texts_more}
use Rattle.scm_model.proofs.texts.text_of_words.Goals as goal

pub loop-word-preserved : goal.loop-word-preserved
loop-word-preserved c =
    let more = texts_more c.args.words.now c.loop-word.word-index c.word-item.result (omega arith) c.word-item.is in
    rw add-one (omega (arith, more, c.loop-word.invariant, c.text_of_word.ensures, c.saturating_add-text.ensures))
