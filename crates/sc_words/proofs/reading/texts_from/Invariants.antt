use Rattle.std.proofs.Common.{◌≡◌, drop}
use Rattle.sc_words.proofs.Lists.{before}
use Rattle.sc_words.specs.Words.{texts_from}
use Rattle.sc_words.proofs.reading.texts_from.Given as goal

-- the texts so far and those of what is left are the texts
abbrev pub invariant-loop-place : goal.invariant-loop-place
invariant-loop-place l =
    before l.texts (texts_from l.place (drop l.place l.words)) ≡ texts_from l.fn.start (drop l.fn.start l.words)
