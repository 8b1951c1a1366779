use Rattle.std.proofs.Common.{arith}
use Rattle.scm_arms_secure.proofs.Bases.{given_read, none_given}
use Rattle.scm_arms_secure.proofs.descriptors.descriptor_in.Goals as goal

pub returns-in-Ok-clause-given : goal.returns-in-Ok-clause-given
returns-in-Ok-clause-given c =
    given_read c.args.bytes.now c.read_descriptor.result _ (λ i. omega (arith, c.type_inv.bytes i)) c.in-Ok.is
    c.read_descriptor.ensures.place

pub returns-in-Err-Bad-clause-given : goal.returns-in-Err-Bad-clause-given
returns-in-Err-Bad-clause-given c =
    none_given c.args.bytes.now c.read_descriptor.result c.in-Err-Bad.field-0 _ (λ i. omega (arith, c.type_inv.bytes i)) c.in-Err-Bad.is
    c.in-Err-Bad.field-0-is c.read_descriptor.ensures.place
