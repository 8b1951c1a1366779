use Rattle.std.proofs.Common.{All, ◌≡◌, ◌≤◌, drop, map, take}
use Rattle.std.specs.Io.KnownBytes.{append_known}
use Rattle.outside.proofs.Sending.{Sent}
use Rattle.service_record.specs.Spelling.{IsUnit}
use Rattle.opening_lines.specs.Heads.{group_line}
use Rattle.trail_text.specs.Histories.{ended}
use Rattle.trail_export.specs.Gathered.{held_size}
use Rattle.trail_export.proofs.head.write_groups.Given as goal

-- the lines so far were written
abbrev pub invariant-loop-group : goal.invariant-loop-group
invariant-loop-group g l = record {
  sent : Sent (append_known (g.T.Sink.held l.fn.sink) l.fn.buffer.items) (append_known (g.T.Sink.held l.sink) l.buffer.items)
      (ended (map group_line l.groups)) (ended (map group_line (drop l.group-index l.groups)));
  faults : g.T.Sink.faults l.sink ≡ g.T.Sink.faults l.fn.sink;
  longer : held_size (g.T.Sink.held l.fn.sink) ≤ held_size (g.T.Sink.held l.sink);
  fit : All (All IsUnit) (take l.group-index l.groups);
}
