use Rattle.std.proofs.Common.{◌≡◌, drop, map}
use Rattle.sc_words.proofs.Lists.{behind}
use Rattle.sc_words.specs.Values.{each, name_at}
use Rattle.sc_words.proofs.values.names_of.Given as goal

-- the names so far and those of what is left are the names
abbrev pub invariant-loop-word : goal.invariant-loop-word
invariant-loop-word l =
    behind l.names (each name_at (map (λ word. word.now) (drop l.word-index l.words))) ≡ each name_at (map (λ word. word.now) l.fn.words)
