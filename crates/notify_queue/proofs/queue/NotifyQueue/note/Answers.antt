use Rattle.std.proofs.Common.{arith}
use Rattle.scm_model.specs.Notices.{Event, notified}
use Rattle.notify_queue.proofs.Ordered.{service_noted, sorted_map}
use Rattle.notify_queue.proofs.queue.NotifyQueue.note.Goals as goal

pub invariant_of-self : goal.invariant_of-self
invariant_of-self c =
    let event : Event = record { service = c.args.service; bit = c.args.bit; status = c.args.status; name = c.args.name.now } in
    record {
      sorted = rw c.note_in.ensures.rows (sorted_map (notified event) (service_noted event) _ c.self.invariant.sorted);
      name = c.self.invariant.name;
      room = λ some. let was = c.self.invariant.room some in omega (arith, was, c.note_in.ensures.len, c.note_in.ensures.capacity);
    }
