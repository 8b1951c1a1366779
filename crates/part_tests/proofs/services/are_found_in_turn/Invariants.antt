use Rattle.std.proofs.Common.{◌≡◌, []}
use Rattle.part_tests.proofs.services.are_found_in_turn.Given as goal

-- each service that came has left
abbrev pub invariant-loop-number : goal.invariant-loop-number
invariant-loop-number l = l.table.services ≡ []
