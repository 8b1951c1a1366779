use Rattle.std.proofs.Common.{subst, arith}
use Rattle.ndr_body.specs.Reading.{Gives}
use Rattle.scm_shapes.proofs.Exact.{body_read, found_if}
use Rattle.scm_shapes.proofs.Back.{ranged_if}
use Rattle.scm_shapes.proofs.reading.read_body.Goals as goal

pub returns-clause-found : goal.returns-clause-found
returns-clause-found c = found_if c.args.shape.now c.args.body.now c.values_of.result
    (λ i. omega (arith, c.type_inv.body i)) c.values_of.ensures.values

pub returns-clause-only : goal.returns-clause-only
returns-clause-only c = λ vs holds. subst (λ read. Gives (λ s. s) c.values_of.result read)
    (body_read c.args.shape.now c.args.body.now vs (λ i. omega (arith, c.type_inv.body i)) holds) c.values_of.ensures.values

pub returns-clause-ranged : goal.returns-clause-ranged
returns-clause-ranged c = ranged_if c.args.shape.now c.args.body.now c.values_of.result
    (λ i. omega (arith, c.type_inv.body i)) c.values_of.ensures.values
