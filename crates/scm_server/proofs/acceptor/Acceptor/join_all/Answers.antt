use Rattle.scm_server.proofs.Acceptors.{takes_none, takes_trans}
use Rattle.scm_server.proofs.acceptor.Acceptor.join_all.Goals as goal

pub loop-self-init : goal.loop-self-init
loop-self-init g c = takes_none g.N.Listener.left g.N.Listener.accepted g.N.Listener.noted g.N.Listener.listened g.N.Listener.faults
    g.N.In.Source.left g.N.Out.Sink.held g.N.In.Source.faults g.N.Out.Sink.faults (g.C.Clock.tells c.args.clock.now) c.args.book.now
    c.args.clock.now c.args.self.now c.requires

pub join_at-requires-clause-stands : goal.join_at-requires-clause-stands
join_at-requires-clause-stands g c = c.loop-self.invariant.at

pub loop-self-preserved : goal.loop-self-preserved
loop-self-preserved g c = takes_trans g.N.Listener.left g.N.Listener.accepted g.N.Listener.noted g.N.Listener.listened g.N.Listener.faults
    g.N.In.Source.left g.N.Out.Sink.held g.N.In.Source.faults g.N.Out.Sink.faults (g.C.Clock.tells c.args.clock.now) c.args.book.now
    c.args.clock.now _ _ _ c.loop-self.invariant c.join_at.ensures.takes
