use Rattle.std.proofs.Common.{◌≡◌, drop}
use Rattle.std.specs.List.{flat_map}
use Rattle.outside.proofs.Sending.{Sent}
use Rattle.sc_top.proofs.diagnostics.write_parts.Given as goal

-- the parts so far were written
abbrev pub invariant-loop-part : goal.invariant-loop-part
invariant-loop-part g l =
    Sent (g.E.Sink.held l.fn.errors) (g.E.Sink.held l.errors) (flat_map (λ part. part.now) l.parts)
    (flat_map (λ part. part.now) (drop l.part-index l.parts))
    × (g.E.Sink.faults l.errors ≡ g.E.Sink.faults l.fn.errors)
