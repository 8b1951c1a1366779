use Rattle.std.proofs.Common.{length, ◌≤◌, ◌-◌, ◌≡◌}
use Rattle.outside.proofs.Sending.{Sent}
use Rattle.rpc_session.specs.Replies.{fragments, reply_fragments}
use Rattle.rpc_session.proofs.replies.write_reply.Given as goal

abbrev pub invariant-loop : goal.invariant-loop
invariant-loop g l =
    Sent (g.T.Sink.held l.fn.sink) (g.T.Sink.held l.sink) (reply_fragments l.fn.transmit l.fn.call l.fn.context l.fn.body)
    (fragments (length l.fn.body - l.counter) l.fn.transmit l.fn.call l.fn.context l.first l.rest)
    × (g.T.Sink.faults l.sink ≡ g.T.Sink.faults l.fn.sink)
    × (length l.rest ≤ length l.fn.body)
