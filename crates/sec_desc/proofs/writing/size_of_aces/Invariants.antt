use Rattle.std.proofs.Common.{◌≡◌, ◌+◌, drop}
use Rattle.sec_desc.specs.Writing.{size_of_aces}
use Rattle.sec_desc.proofs.writing.size_of_aces.Given as goal

-- what was counted, and what is left
abbrev pub invariant-loop-ace : goal.invariant-loop-ace
invariant-loop-ace l = l.size + size_of_aces (drop l.ace-index l.aces) ≡ size_of_aces l.aces
