use Rattle.std.proofs.Common.{arith}
use Rattle.scm_tables.proofs.NeedRows.{before_below, next_above, rows_more}
use Rattle.scm_tables.proofs.needing.index_of.Goals as goal

pub set_needs-requires-clause-next : goal.set_needs-requires-clause-next
set_needs-requires-clause-next c =
    let row = c.row-item.result in
    let i = c.loop-row.row-index in
    rw (c.commit.ensures, c.in_ok-prepare.ensures.ok, c.loop-row.invariant) (λ fresh. next_above row.number _
    (before_below c.args.services.now i row c.requires (omega arith) c.row-item.is))

pub loop-row-preserved : goal.loop-row-preserved
loop-row-preserved c =
    rw (c.set_needs.ensures, c.commit.ensures, c.in_ok-prepare.ensures.ok, c.loop-row.invariant)
    (rows_more c.args.services.now c.loop-row.row-index c.row-item.result c.requires (omega arith) c.row-item.is)
