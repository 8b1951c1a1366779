use Rattle.dependency_index.specs.Kept.{row_from}
use Rattle.dependency_index.proofs.Shelves.{rising_put, still_of}
use Rattle.dependency_index.proofs.index.DependencyIndex.set_needs.Goals as goal

pub invariant_of-self-2 : goal.invariant_of-self-2
invariant_of-self-2 c =
    let rows = c.self.inside.rows.items in
    let n = c.args.service in
    let new = row_from c.in-Some.spare n in
    let next = rw (← c.self.view_is) at c.requires.next in
    record {
      once = c.put.ensures.once;
      rising = rw c.put.ensures.rows (rising_put rows new c.self.invariant.rising next);
      lists = rw c.put.ensures.rows (still_of _ _ _ c.forget_room.ensures.numbers
          (still_of _ _ _ c.forget_texts.ensures (c.enter_lists.ensures rows c.self.invariant.rising next
          c.leave_lists-row.ensures.lists)));
      room = rw c.in-Some.ensures.after tt;
      next = rw c.take-2.ensures.after tt;
    }
