use Rattle.std.proofs.Common.{ap, subst, ◌∙◌, arith}
use Rattle.service_record.specs.Reading.{Tells, record_of, whole_of}
use Rattle.service_record.proofs.Records.{is_found, record_again}
use Rattle.service_record.proofs.reading.read_record.Goals as goal

pub returns-clause-found : goal.returns-clause-found
returns-clause-found c = is_found c.args.bytes.now c.placed.result (λ i. omega (arith, c.type_inv.bytes i))
    (c.placed.ensures (whole_of c.args.bytes.now) c.whole_of.ensures)

pub returns-clause-only : goal.returns-clause-only
returns-clause-only c = λ config fits e. subst (λ read. Tells c.placed.result read) (ap record_of e
    ∙ record_again config fits) (c.placed.ensures (whole_of c.args.bytes.now) c.whole_of.ensures)

pub returns-clause-place : goal.returns-clause-place
returns-clause-place c = c.placed.ensures (whole_of c.args.bytes.now) c.whole_of.ensures
