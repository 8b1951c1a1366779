use Rattle.std.proofs.Common.{◌≡◌, ◌≤◌, length}
use Rattle.std.specs.Io.KnownBytes.{append_known}
use Rattle.trail_text.specs.Histories.{ended, entry_lines}
use Rattle.trail_export.proofs.Parts.{IsUnderWay}
use Rattle.trail_export.specs.Gathered.{held_size}
use Rattle.trail_export.proofs.entries.write_entries.Given as goal

abbrev pub invariant-loop-moment : goal.invariant-loop-moment
invariant-loop-moment g l = record {
  way : IsUnderWay (ended (entry_lines l.fn.manager.limits l.fn.manager.flat l.trail.entries))
      (append_known (g.T.Sink.held l.fn.sink) l.fn.buffer.items) (append_known (g.T.Sink.held l.sink) l.buffer.items) l.manager l.entries;
  faults : g.T.Sink.faults l.sink ≡ g.T.Sink.faults l.fn.sink;
  longer : held_size (g.T.Sink.held l.fn.sink) ≤ held_size (g.T.Sink.held l.sink);
}

abbrev pub decreases-loop-moment : goal.decreases-loop-moment
decreases-loop-moment g l = length l.entries
