use Rattle.std.proofs.Common.{◌≡◌}
use Rattle.scm_server.specs.Acceptors.{IsAt, stand_of}
use Rattle.scm_server.specs.Serving.{GoesOn}
use Rattle.scm_server.proofs.acceptor.Acceptor.accept_all.Given as goal

-- those that came so far are past or at work
abbrev pub invariant-loop : goal.invariant-loop
invariant-loop g l =
    let stand = stand_of g.N.Listener.left g.N.Listener.accepted g.N.Listener.noted g.N.Listener.listened g.N.Listener.faults
    g.I.Source.left g.O.Sink.held g.I.Source.faults g.O.Sink.faults in
    record {
      at : IsAt l.host.book.now l.host.clock.now l.self;
      goes : GoesOn (g.C.Clock.tells l.host.clock.now) l.host.book.now.opening l.host.principal (stand l.fn.self) (stand l.self);
      faults : g.N.Listener.faults l.self.listener ≡ g.N.Listener.faults l.fn.self.listener;
    }
