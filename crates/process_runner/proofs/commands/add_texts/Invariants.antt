use Rattle.std.proofs.Common.{◌≡◌, ◌++◌, map, take}
use Rattle.process_runner.specs.Commands.{utf8_of}
use Rattle.process_runner.proofs.commands.add_texts.Given as goal

abbrev pub invariant-loop-text : goal.invariant-loop-text
invariant-loop-text l = l.texts ≡ l.fn.texts ++ map utf8_of (take l.text-index l.more)
