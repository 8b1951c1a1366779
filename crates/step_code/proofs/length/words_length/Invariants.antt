use Rattle.std.proofs.Common.{◌≡◌, ◌+◌, sum_by, take}
use Rattle.step_code.specs.Sizes.{text_size}
use Rattle.step_code.proofs.length.words_length.Given as goal

-- the size of the words so far
abbrev pub invariant-loop-word : goal.invariant-loop-word
invariant-loop-word l = l.size ≡ 4 + sum_by text_size (take l.word-index l.words)
