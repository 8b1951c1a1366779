use Rattle.scm_server.specs.Acceptors.{TakesBack}
use Rattle.scm_server.proofs.acceptor.Acceptor.reap_until_next.Given as goal

-- those that were joined so far are taken back
abbrev pub invariant-loop : goal.invariant-loop
invariant-loop g l = TakesBack g.N.Listener.left g.N.Listener.accepted g.N.Listener.noted g.N.Listener.listened g.N.Listener.faults
    g.N.In.Source.left g.N.Out.Sink.held g.N.In.Source.faults g.N.Out.Sink.faults (g.C.Clock.tells l.clock) l.book l.clock l.fn.self l.self
