use Rattle.std.proofs.Common.{◌∙◌}
use Rattle.process_runner.proofs.Words.{all_read}
use Rattle.process_runner.proofs.commands.words_of.Goals as goal

pub returns : goal.returns
returns c =
    c.in_ok-keep_word.ensures.done
    ∙ all_read c.loop-unit.splitting c.args.line.now c.loop-unit.unit-index c.loop-unit-test.false c.loop-unit.invariant
