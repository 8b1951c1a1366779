use Rattle.std.proofs.Common.{◌≡◌, ◌-◌, length, drop}
use Rattle.sc_words.specs.Settings.{no_settings, settings_from}
use Rattle.sc_words.proofs.settings.settings_from.Given as goal

-- what is left gives what all of the words give
abbrev pub invariant-loop-place : goal.invariant-loop-place
invariant-loop-place l =
    settings_from l.verb l.place l.settings (drop l.place l.words) ≡ settings_from l.verb l.fn.place no_settings (drop l.fn.place l.words)

abbrev pub decreases-loop-place : goal.decreases-loop-place
decreases-loop-place l = length l.words - l.place
