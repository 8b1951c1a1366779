use Rattle.std.proofs.Common.{◌≡◌, ◌++◌, take}
use Rattle.sddl.specs.Writing.{letters_text}
use Rattle.sddl.proofs.writing.put_letters.Given as goal

-- the letters of the rows so far were appended
abbrev pub invariant-loop-letters : goal.invariant-loop-letters
invariant-loop-letters l = l.out ≡ l.fn.out ++ letters_text (take l.letters-index l.table) l.bits
