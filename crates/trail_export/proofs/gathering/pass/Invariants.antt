use Rattle.std.proofs.Common.{◌≡◌, ◌-◌, ◌≤◌, drop, length}
use Rattle.std.specs.Io.KnownBytes.{Keeps, append_known}
use Rattle.trail_export.specs.Gathered.{held_size}
use Rattle.trail_export.proofs.gathering.pass.Given as goal

-- the sink took the bytes so far
abbrev pub invariant-loop-count : goal.invariant-loop-count
invariant-loop-count g l = record {
  bound : l.count ≤ length l.bytes;
  kept : Keeps (append_known (g.T.Sink.held l.fn.sink) l.bytes) (append_known (g.T.Sink.held l.sink) (drop l.count l.bytes));
  longer : held_size (g.T.Sink.held l.fn.sink) ≤ held_size (g.T.Sink.held l.sink);
  faults : g.T.Sink.faults l.sink ≡ g.T.Sink.faults l.fn.sink;
}

abbrev pub decreases-loop-count : goal.decreases-loop-count
decreases-loop-count g l = length l.bytes - l.count
