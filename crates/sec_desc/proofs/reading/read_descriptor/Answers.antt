use Rattle.std.proofs.Common.{arith, subst}
use Rattle.sec_desc.specs.Reading.{ReadsAs}
use Rattle.sec_desc.proofs.Descriptors.{described_again}
use Rattle.sec_desc.proofs.Fitting.{told_found, told_writable}
use Rattle.sec_desc.proofs.reading.read_descriptor.Goals as goal

pub returns-clause-found : goal.returns-clause-found
returns-clause-found c = told_found c.args.bytes.now c.described.result (λ i. omega (arith, c.type_inv.bytes i)) c.described.ensures

pub returns-clause-only : goal.returns-clause-only
returns-clause-only c = λ d h. subst (λ read. ReadsAs (λ x. x) c.described.result read)
    (described_again c.args.bytes.now d h) c.described.ensures

pub returns-clause-writable : goal.returns-clause-writable
returns-clause-writable c = told_writable c.args.bytes.now c.described.result (λ i. omega (arith, c.type_inv.bytes i)) c.described.ensures
