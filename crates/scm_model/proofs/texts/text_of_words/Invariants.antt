use Rattle.std.proofs.Common.{◌≡◌, ◌-◌, ◌^◌, take}
use Rattle.std.specs.Prelude.{min}
use Rattle.scm_model.specs.Texts.{text_of_words}
use Rattle.scm_model.proofs.texts.text_of_words.Given as goal

-- the text of the words so far, as far as numbers go
abbrev pub invariant-loop-word : goal.invariant-loop-word
invariant-loop-word l = l.text ≡ min (text_of_words (take l.word-index l.words)) (2 ^ 128 - 1)
