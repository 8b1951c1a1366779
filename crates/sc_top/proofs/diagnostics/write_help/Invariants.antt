use Rattle.std.proofs.Common.{◌≡◌, drop}
use Rattle.std.specs.List.{flat_map}
use Rattle.outside.proofs.Sending.{Sent}
use Rattle.sc_top.specs.Usage.{usage_line}
use Rattle.sc_top.proofs.diagnostics.write_help.Given as goal

-- the lines so far were written
abbrev pub invariant-loop-verb : goal.invariant-loop-verb
invariant-loop-verb g l =
    Sent (g.E.Sink.held l.fn.errors) (g.E.Sink.held l.errors) (flat_map usage_line l.verbs)
    (flat_map usage_line (drop l.verb-index l.verbs))
    × (g.E.Sink.faults l.errors ≡ g.E.Sink.faults l.fn.errors)
