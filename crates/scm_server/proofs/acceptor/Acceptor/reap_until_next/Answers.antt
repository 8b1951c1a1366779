use Rattle.scm_server.proofs.Acceptors.{takes_none, takes_then}
use Rattle.scm_server.proofs.acceptor.Acceptor.reap_until_next.Goals as goal

pub loop-init : goal.loop-init
loop-init g c = takes_none g.N.Listener.left g.N.Listener.accepted g.N.Listener.noted g.N.Listener.listened g.N.Listener.faults
    g.N.In.Source.left g.N.Out.Sink.held g.N.In.Source.faults g.N.Out.Sink.faults (g.C.Clock.tells c.args.clock.now) c.args.book.now
    c.args.clock.now c.args.self.now c.requires

pub reap-requires : goal.reap-requires
reap-requires g c = c.loop.invariant.at

pub returns-then-is_next : goal.returns-then-is_next
returns-then-is_next g c = takes_then g.N.Listener.left g.N.Listener.accepted g.N.Listener.noted g.N.Listener.listened g.N.Listener.faults
    g.N.In.Source.left g.N.Out.Sink.held g.N.In.Source.faults g.N.Out.Sink.faults (g.C.Clock.tells c.args.clock.now) c.args.book.now
    c.args.clock.now _ _ _ c.is_next.new.listener c.loop.invariant c.reap.ensures c.is_next.ensures.same

pub loop-preserved : goal.loop-preserved
loop-preserved g c = takes_then g.N.Listener.left g.N.Listener.accepted g.N.Listener.noted g.N.Listener.listened g.N.Listener.faults
    g.N.In.Source.left g.N.Out.Sink.held g.N.In.Source.faults g.N.Out.Sink.faults (g.C.Clock.tells c.args.clock.now) c.args.book.now
    c.args.clock.now _ _ _ c.is_next.new.listener c.loop.invariant c.reap.ensures c.is_next.ensures.same
