use Rattle.std.proofs.Common.{◌≡◌, length}
use Rattle.conn_desk.proofs.Walking.{Stretch}
use Rattle.conn_desk.proofs.serving.drain.Given as goal

-- the items so far are answered
abbrev pub invariant-loop-item : goal.invariant-loop-item
invariant-loop-item g l = record {
  ready : g.D.RequestHandler.ready l.desk;
  on : Stretch g.D.RequestHandler.called
      (record { session = l.fn.session; desk = l.fn.desk; held = g.O.Sink.held l.fn.output })
      (record { session = l.session; desk = l.desk; held = g.O.Sink.held l.output });
  faults : g.O.Sink.faults l.output ≡ g.O.Sink.faults l.fn.output;
}

-- for each item a byte at least was taken
abbrev pub decreases-loop-item : goal.decreases-loop-item
decreases-loop-item g l = length l.session.held.rest
