use Rattle.std.proofs.Common.{ap, subst, ◌∙◌}
use Rattle.std.specs.Prelude.{Some}
use Rattle.outside.specs.Written.{Writes}
use Rattle.sc_top.specs.Diagnostics.{joined, misfit}
use Rattle.sc_top.proofs.diagnostics.write_wrong.Goals as goal

pub returns-clause-written : goal.returns-clause-written
unfolding joined
returns-clause-written g c =
    let e = ap (λ word. misfit (Some word) c.as_bytes-2.result.now) c.as_bytes.ensures.value
    ∙ ap (misfit (Some c.args.word.now)) c.as_bytes-2.ensures.value in
    subst (λ text. Writes (g.E.Sink.held c.args.errors.now) (g.E.Sink.held c.write_parts.new.errors) c.write_parts.result text) e
    c.write_parts.ensures.written
