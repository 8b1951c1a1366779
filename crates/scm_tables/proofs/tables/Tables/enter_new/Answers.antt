use Rattle.std.proofs.Common.{◌∙◌, refl}
use Rattle.scm_tables.proofs.Keeping.{other_rooms}
use Rattle.scm_tables.proofs.tables.Tables.enter_new.Goals as goal

pub returns-clause-flat : goal.returns-clause-flat
returns-clause-flat c =
    c.start_by.ensures.flat
    ∙ rw (
      ← c.self.view_is,
      c.list.ensures,
      c.of_service.ensures,
      c.is_shared_by-shared.ensures,
      c.get.ensures,
      c.next-process.ensures.number,
    )
    refl

pub invariant_of-self : goal.invariant_of-self
invariant_of-self c =
    let kept = c.self.invariant in
    other_rooms kept refl refl kept.marks (rw c.list.ensures kept.room) kept.rooms
