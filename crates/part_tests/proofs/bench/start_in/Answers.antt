use Rattle.std.proofs.Common.{arith}
use Rattle.std.proofs.lemmas.List.Edits.{map_over_more}
use Rattle.start_plan.specs.Entered.{started_if}
use Rattle.part_tests.proofs.bench.start_in.Goals as goal

pub loop-row-preserved : goal.loop-row-preserved
loop-row-preserved c =
    rw (c.start_row.ensures, ← c.row-item.is)
    (map_over_more (started_if c.args.number c.args.process) c.deref_mut-row-items.result.now c.loop-row.row-items c.loop-row.row-index
    c.row-item.result
    (omega arith) c.loop-row.invariant c.row-item.is)
