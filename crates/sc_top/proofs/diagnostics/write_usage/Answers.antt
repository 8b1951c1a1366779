use Rattle.std.proofs.Common.{◌++◌, ap, subst, ◌∙◌}
use Rattle.std.specs.Prelude.{codes}
use Rattle.outside.specs.Written.{Writes}
use Rattle.sc_top.specs.Diagnostics.{joined}
use Rattle.sc_top.proofs.diagnostics.write_usage.Goals as goal

pub returns-clause-written : goal.returns-clause-written
unfolding joined
returns-clause-written g c =
    let e = ap (λ text. codes "sc ADDRESS " ++ (text ++ codes "\n")) (c.as_bytes.ensures.value ∙ c.usage.ensures) in
    subst (λ text. Writes (g.E.Sink.held c.args.errors.now) (g.E.Sink.held c.write_parts.new.errors) c.write_parts.result text) e
    c.write_parts.ensures.written
