use Rattle.std.proofs.Common.{arith, refl}
use Rattle.scm_tables.proofs.Keeping.{other_rooms}
use Rattle.scm_tables.proofs.tables.Tables.reserve_service.Goals as goal

pub invariant_of-self : goal.invariant_of-self
invariant_of-self c =
    let kept = c.self.invariant in
    other_rooms kept refl c.reserve.ensures.items
    (rw c.reserve.ensures.items (omega (arith, kept.marks, c.reserve.ensures.room))) kept.room kept.rooms

pub invariant_of-self-2 : goal.invariant_of-self-2
invariant_of-self-2 c =
    let kept = c.self.invariant in
    other_rooms kept refl c.reserve.ensures.items
    (rw c.reserve.ensures.items (omega (arith, kept.marks, c.reserve.ensures.room))) kept.room kept.rooms
