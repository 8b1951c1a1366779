use Rattle.std.proofs.Common.{◌≡◌, drop, false}
use Rattle.scmd_top.specs.Settings.{value_from}
use Rattle.scmd_top.proofs.settings.value_of.Given as goal

-- what is left has the value that all of the words have
abbrev pub invariant-loop-word : goal.invariant-loop-word
invariant-loop-word l = value_from l.option l.waits (drop l.word-index l.words) ≡ value_from l.option false l.words
