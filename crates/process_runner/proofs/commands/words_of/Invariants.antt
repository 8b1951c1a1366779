use Rattle.std.proofs.Common.{◌≡◌, false, [], map, drop}
use Rattle.process_runner.specs.Commands.{utf8_of}
use Rattle.process_runner.specs.Splitting.{words_after, all_words}
use Rattle.process_runner.proofs.commands.words_of.Given as goal

abbrev pub invariant-loop-unit : goal.invariant-loop-unit
invariant-loop-unit l = all_words l.splitting (drop l.unit-index l.line) ≡ map utf8_of (words_after false [] false l.line)
