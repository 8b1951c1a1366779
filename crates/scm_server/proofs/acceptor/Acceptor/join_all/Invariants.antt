use Rattle.std.proofs.Common.{length}
use Rattle.scm_server.specs.Acceptors.{TakesBack}
use Rattle.scm_server.proofs.acceptor.Acceptor.join_all.Given as goal

-- those that were joined so far are taken back
abbrev pub invariant-loop-self : goal.invariant-loop-self
invariant-loop-self g l = TakesBack g.N.Listener.left g.N.Listener.accepted g.N.Listener.noted g.N.Listener.listened g.N.Listener.faults
    g.N.In.Source.left g.N.Out.Sink.held g.N.In.Source.faults g.N.Out.Sink.faults (g.C.Clock.tells l.clock) l.book l.clock l.fn.self l.self

-- fewer are at work
abbrev pub decreases-loop-self : goal.decreases-loop-self
decreases-loop-self g l = length l.self.workers.items
