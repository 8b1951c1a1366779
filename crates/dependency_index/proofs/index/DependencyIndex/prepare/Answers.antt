use Rattle.std.proofs.Common.{◌≡◌, ◌∙◌, None, ap, sym}
use Rattle.dependency_index.specs.Indexed.{Indexed}
use Rattle.dependency_index.proofs.Shelves.{still_of}
use Rattle.dependency_index.proofs.Staying.{room_in, where_ok}
use Rattle.dependency_index.proofs.index.DependencyIndex.prepare.Goals as goal

pub invariant_of-self : goal.invariant_of-self
invariant_of-self c =
    let kept = c.self.invariant in
    let none : c.self.inside.next ≡ None = ap (λ (index : Indexed). index.next) (c.self.view_is ∙ c.discard.ensures) in
    record {
      once = rw c.make_room.ensures.rows kept.once;
      rising = rw c.make_room.ensures.rows kept.rising;
      lists = rw c.make_room.ensures.rows (still_of _ _ _ c.make_room.ensures.numbers kept.lists);
      room = room_in c.self.inside.spare c.self.inside _ c.make_room.ensures.more_rows c.make_room.ensures.kept kept.room;
      next = rw none tt;
    }

pub invariant_of-self-2 : goal.invariant_of-self-2
invariant_of-self-2 c =
    let kept = c.self.invariant in
    let room = where_ok c.make_room.result c.make_room.ensures.ok (sym c.if-is_err.ensures.value) in
    record {
      once = rw c.make_room.ensures.rows kept.once;
      rising = rw c.make_room.ensures.rows kept.rising;
      lists = rw c.make_room.ensures.rows (still_of _ _ _ c.make_room.ensures.numbers kept.lists);
      room = room_in c.self.inside.spare c.self.inside _ c.make_room.ensures.more_rows c.make_room.ensures.kept kept.room;
      next = record { rows = room.0; texts = room.1 };
    }
