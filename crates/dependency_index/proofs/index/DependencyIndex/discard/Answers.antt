use Rattle.dependency_index.proofs.Staying.{room_in}
use Rattle.dependency_index.proofs.Shelves.{still_of}
use Rattle.dependency_index.proofs.index.DependencyIndex.discard.Goals as goal

pub invariant_of-self : goal.invariant_of-self
invariant_of-self c =
    let kept = c.self.invariant in
    record {
      once = kept.once;
      rising = kept.rising;
      lists = still_of _ _ _ c.forget_room.ensures.numbers kept.lists;
      room = room_in c.self.inside.spare c.self.inside (record c.self.inside { lists = c.forget_room.new.lists; next = c.take.new.self })
          (λ more. more) c.forget_room.ensures.kept kept.room;
      next = rw c.take.ensures.after tt;
    }
