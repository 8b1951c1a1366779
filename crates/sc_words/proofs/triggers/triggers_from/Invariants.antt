use Rattle.std.proofs.Common.{◌≡◌, drop}
use Rattle.sc_words.proofs.Lists.{before}
use Rattle.sc_words.specs.Places.{each_from}
use Rattle.sc_words.specs.Triggers.{trigger_named}
use Rattle.sc_words.proofs.triggers.triggers_from.Given as goal

-- the triggers so far and those of what is left are the triggers
abbrev pub invariant-loop-place : goal.invariant-loop-place
invariant-loop-place l =
    before l.triggers (each_from trigger_named l.place (drop l.place l.words))
    ≡ each_from trigger_named l.fn.start (drop l.fn.start l.words)
