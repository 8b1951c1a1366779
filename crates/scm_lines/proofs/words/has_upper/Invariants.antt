use Rattle.std.proofs.Common.{◌≡◌, take}
use Rattle.std.specs.List.{list_any}
use Rattle.scm_lines.specs.Words.{is_upper}
use Rattle.scm_lines.proofs.words.has_upper.Given as goal

-- one of the bytes so far is a letter in upper case
abbrev pub invariant-loop-b : goal.invariant-loop-b
invariant-loop-b l = l.found ≡ list_any is_upper (take l.b-index l.text)
