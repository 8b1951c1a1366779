use Rattle.std.proofs.Common.{◌≡◌, drop}
use Rattle.scmd_top.specs.Settings.{no_options, options_from}
use Rattle.scmd_top.proofs.settings.Settings.of.Given as goal

-- what is left says what all of the words say
abbrev pub invariant-loop-word : goal.invariant-loop-word
invariant-loop-word l = options_from l.settings (drop l.word-index l.words) ≡ options_from no_options l.words
