use Rattle.dependency_index.proofs.Shelves.{still_of}
use Rattle.dependency_index.proofs.Staying.{room_in}
use Rattle.dependency_index.proofs.index.DependencyIndex.commit.Goals as goal

pub invariant_of-self-then-is_some-2 : goal.invariant_of-self-then-is_some-2
invariant_of-self-then-is_some-2 c =
    let kept = c.self.invariant in
    record {
      once = kept.once;
      rising = kept.rising;
      lists = still_of _ _ _ c.forget_room.ensures.numbers kept.lists;
      room = rw c.take-then-is_some.ensures.value
          (room_in c.self.inside.next c.self.inside _ (λ more. more) c.forget_room.ensures.kept kept.next);
      next = rw c.take-then-is_some.ensures.after tt;
    }
