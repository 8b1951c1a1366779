use Rattle.std.proofs.Common.{◌≡◌, drop}
use Rattle.std.specs.List.{list_any}
use Rattle.std.specs.Char.Utf16.{has_unpaired_surrogate}
use Rattle.scm_arms_start.proofs.starting.is_one_broken.Given as goal

-- the words that are left decide
abbrev pub invariant-loop-word : goal.invariant-loop-word
invariant-loop-word l = list_any has_unpaired_surrogate l.words ≡ list_any has_unpaired_surrogate (drop l.word-index l.words)
