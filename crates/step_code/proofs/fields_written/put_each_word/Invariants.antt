use Rattle.std.proofs.Common.{◌≡◌, ◌+◌, ◌++◌, All, take}
use Rattle.std.specs.List.{flat_map, sum_by}
use Rattle.step_code.specs.Codes.{text}
use Rattle.step_code.specs.Fits.{IsText}
use Rattle.step_code.specs.Sizes.{text_size}
use Rattle.step_code.proofs.fields_written.put_each_word.Given as goal

-- the words so far were appended
abbrev pub invariant-loop-word : goal.invariant-loop-word
invariant-loop-word l = record {
  bytes : l.out.items ≡ l.fn.out.items ++ flat_map text (take l.word-index l.words);
  room : l.out.room + sum_by text_size (take l.word-index l.words) ≡ l.fn.out.room;
  fit : All IsText (take l.word-index l.words);
}
