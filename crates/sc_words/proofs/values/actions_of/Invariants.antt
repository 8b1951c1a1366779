use Rattle.std.proofs.Common.{◌≡◌, ◌-◌, length, drop, map}
use Rattle.sc_words.proofs.Lists.{behind}
use Rattle.sc_words.specs.Values.{actions_of}
use Rattle.sc_words.proofs.values.actions_of.Given as goal

-- the actions so far and those of what is left are the actions
abbrev pub invariant-loop-place : goal.invariant-loop-place
invariant-loop-place l = behind l.actions (actions_of (map (λ word. word.now) (drop l.place l.words))) ≡ actions_of
    (map (λ word. word.now) l.fn.words)

abbrev pub decreases-loop-place : goal.decreases-loop-place
decreases-loop-place l = length l.words - l.place
