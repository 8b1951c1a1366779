use Rattle.std.proofs.Common.{arith}
use Rattle.record_journal.proofs.ByName.{next_above, none_above}
use Rattle.record_journal.proofs.configs.next_number.Goals as goal

pub returns-in-Some-checked_add-clause-above : goal.returns-in-Some-checked_add-clause-above
returns-in-Some-checked_add-clause-above c =
    next_above c.args.table.now.services c.saturating_sub.result c.in-Some-checked_add.number c.in-Some.last.now c.len.ensures.rising
    (omega (arith, c.saturating_sub.ensures, c.len.ensures.len)) c.in-Some.ensures
    (omega (arith, c.in-Some-checked_add.ensures.1))

pub returns-in-None-clause-above : goal.returns-in-None-clause-above
returns-in-None-clause-above c =
    none_above c.args.table.now.services c.saturating_sub.result 1
    (omega (arith, c.saturating_sub.ensures, c.len.ensures.len)) c.in-None.ensures
