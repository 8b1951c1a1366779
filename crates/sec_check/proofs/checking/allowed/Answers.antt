use Rattle.std.proofs.Common.{◌∙◌, arith, sym}
use Rattle.sec_check.proofs.Secured.{is_granted, is_refused}
use Rattle.sec_check.proofs.checking.allowed.Goals as goal

pub returns-then-has_bits-2 : goal.returns-then-has_bits-2
returns-then-has_bits-2 c =
    is_granted c.args.security.now c.args.principal c.args.desired c.maximum_by-maximum.result (λ i. omega (arith, c.type_inv.security i))
    (omega arith) c.maximum_by-maximum.ensures
    (sym c.has_bits.ensures ∙ c.if-has_bits.false) (sym c.has_bits-else-has_bits.ensures ∙ c.if-has_bits-2.true)

pub returns-else-has_bits-2 : goal.returns-else-has_bits-2
returns-else-has_bits-2 c =
    is_refused c.args.security.now c.args.principal c.args.desired c.maximum_by-maximum.result (λ i. omega (arith, c.type_inv.security i))
    (omega arith) c.maximum_by-maximum.ensures
    (sym c.has_bits.ensures ∙ c.if-has_bits.false) (sym c.has_bits-else-has_bits.ensures ∙ c.if-has_bits-2.false)
