use Rattle.std.proofs.Common.{arith}
use Rattle.scm_model.specs.Notices.{taken_once}
use Rattle.notify_queue.proofs.Ordered.{service_taken, sorted_map}
use Rattle.notify_queue.proofs.queue.NotifyQueue.take_results.Goals as goal

pub invariant_of-self : goal.invariant_of-self
invariant_of-self c =
    record {
      sorted = rw c.take_in.ensures.rows (sorted_map (taken_once c.args.number) (service_taken c.args.number) _ c.self.invariant.sorted);
      name = c.self.invariant.name;
      room = λ some. let was = c.self.invariant.room some in omega (arith, was, c.take_in.ensures.len, c.take_in.ensures.capacity);
    }
