use Rattle.std.proofs.Common.{arith}
use Rattle.std.proofs.lemmas.List.Kept.{IsNonDecreasingBy-filter}
use Rattle.scm_model.specs.declared.flat.Registration.{Registration}
use Rattle.notify_queue.proofs.queue.NotifyQueue.close.Goals as goal

pub invariant_of-self : goal.invariant_of-self
invariant_of-self c =
    record {
      sorted = rw c.drop_number.ensures.rows (IsNonDecreasingBy-filter (λ (row : Registration). row.service) _ _ c.self.invariant.sorted);
      name = c.self.invariant.name;
      room = λ some. let was = c.self.invariant.room some in omega (arith, was, c.drop_number.ensures.len, c.drop_number.ensures.capacity);
    }
