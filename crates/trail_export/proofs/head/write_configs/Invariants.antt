use Rattle.std.proofs.Common.{All, ◌≡◌, ◌≤◌, drop, map, take}
use Rattle.std.specs.Io.KnownBytes.{append_known}
use Rattle.outside.proofs.Sending.{Sent}
use Rattle.opening_lines.specs.Heads.{HasRecord, config_line}
use Rattle.trail_text.specs.Histories.{ended}
use Rattle.trail_export.specs.Gathered.{held_size}
use Rattle.trail_export.proofs.head.write_configs.Given as goal

-- the lines so far were written
abbrev pub invariant-loop-config : goal.invariant-loop-config
invariant-loop-config g l = record {
  sent : Sent (append_known (g.T.Sink.held l.fn.sink) l.fn.buffer.items) (append_known (g.T.Sink.held l.sink) l.buffer.items)
      (ended (map config_line l.configs)) (ended (map config_line (drop l.config-index l.configs)));
  faults : g.T.Sink.faults l.sink ≡ g.T.Sink.faults l.fn.sink;
  longer : held_size (g.T.Sink.held l.fn.sink) ≤ held_size (g.T.Sink.held l.sink);
  fit : All HasRecord (take l.config-index l.configs);
}
