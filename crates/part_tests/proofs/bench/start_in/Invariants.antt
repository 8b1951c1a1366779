use Rattle.std.proofs.Common.{◌≡◌, ◌++◌, map, take, drop}
use Rattle.start_plan.specs.Entered.{started_if}
use Rattle.part_tests.proofs.bench.start_in.Given as goal

-- the rows so far are changed, and the others as they were
abbrev pub invariant-loop-row : goal.invariant-loop-row
invariant-loop-row l =
    l.row-items ≡ map (started_if l.number l.process) (take l.row-index l.initial.row-items) ++ drop l.row-index l.initial.row-items
