use Rattle.std.proofs.Common.{ap, subst}
use Rattle.std.specs.Prelude.{None}
use Rattle.outside.specs.Written.{Writes}
use Rattle.sc_top.specs.Diagnostics.{joined, misfit}
use Rattle.sc_top.proofs.diagnostics.write_missing.Goals as goal

pub returns-clause-written : goal.returns-clause-written
unfolding joined
returns-clause-written g c =
    subst (λ text. Writes (g.E.Sink.held c.args.errors.now) (g.E.Sink.held c.write_parts.new.errors) c.write_parts.result text)
    (ap (misfit None) c.as_bytes.ensures.value) c.write_parts.ensures.written
