use Rattle.std.proofs.Common.{◌≤◌}
use Rattle.scm_book.specs.Passes.{IsOf, KeepsAll}
use Rattle.child_runner.specs.Sending.{GoesOn}
use Rattle.child_runner.proofs.sending.Sender.write_each.Given as goal

-- nothing ended it yet
abbrev pub invariant-loop : goal.invariant-loop
invariant-loop g l = record {
  book : IsOf l.self.book.now l.pass;
  room : 256 ≤ l.room.name.room;
  goes : GoesOn (g.C.Clock.tells l.self.clock.now) l.self.book.now.opening l.self.process
      l.fn.pass (g.F.Sink.held l.fn.feed) (g.F.Sink.held l.feed)
      (g.F.Sink.faults l.fn.feed) (g.F.Sink.faults l.feed) l.pass;
  keeps : KeepsAll l.self.book.now.opening l.fn.pass l.pass;
}
