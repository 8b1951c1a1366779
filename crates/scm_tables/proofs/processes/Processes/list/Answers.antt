use Rattle.std.proofs.Common.{arith, refl, ◌<◌, ◌^◌, length, rules, sym}
use Rattle.scm_tables.proofs.Changing.{number_of, numbered_push}
use Rattle.scm_tables.proofs.Counting.{owed_most, owed_push}
use Rattle.scm_tables.proofs.Rising.{ordered_push}
use Rattle.scm_tables.proofs.processes.Processes.list.Goals as goal

pub overflow_add-self-2 : goal.overflow_add-self-2
overflow_add-self-2 c =
    let short : length c.self.inside.rows.items < 2 ^ 64 = search rules in
    omega (arith, owed_most c.self.inside.rows.items, short, c.self.invariant.owed, c.owed_in_phase.ensures)

pub invariant_of-self : goal.invariant_of-self
invariant_of-self c =
    record {
      rising = rw c.push_reserved.ensures.items (ordered_push number_of _ _ _ c.self.invariant.rising refl);
      numbered = rw c.push_reserved.ensures.items (numbered_push _ _ _ c.self.invariant.numbered refl);
      owed = rw (c.push_reserved.ensures.items, c.self.invariant.owed, c.owed_in_phase.ensures) (sym (owed_push _ _));
    }
