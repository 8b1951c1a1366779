use Rattle.std.proofs.Common.{arith}
use Rattle.sec_desc.proofs.Bytes.{IsBytes}
use Rattle.sec_desc.proofs.Descriptors.{acl_at_again, acl_at_read, described_again, is_described, sid_at_again, sid_at_read}
use Rattle.sec_desc.proofs.Lists.{ace_in_again, ace_in_read}
use Rattle.sec_desc.proofs.laws.reading_is_exact.Goals as goal

pub returns-clause-descriptors : goal.returns-clause-descriptors
returns-clause-descriptors c =
    let bytes = c.args.bytes.now in
    let fits : IsBytes bytes = λ i. omega (arith, c.type_inv.bytes i) in
    λ d. (is_described bytes d fits, described_again bytes d)

pub returns-clause-identities : goal.returns-clause-identities
returns-clause-identities c =
    let bytes = c.args.bytes.now in
    let fits : IsBytes bytes = λ i. omega (arith, c.type_inv.bytes i) in
    λ place sid. (sid_at_read bytes fits place sid, sid_at_again bytes place sid)

pub returns-clause-lists : goal.returns-clause-lists
returns-clause-lists c =
    let bytes = c.args.bytes.now in
    let fits : IsBytes bytes = λ i. omega (arith, c.type_inv.bytes i) in
    λ place aces. (acl_at_read bytes fits place aces, acl_at_again bytes place aces)

pub returns-clause-entries : goal.returns-clause-entries
returns-clause-entries c =
    let bytes = c.args.bytes.now in
    let fits : IsBytes bytes = λ i. omega (arith, c.type_inv.bytes i) in
    λ place ace size. (ace_in_read place bytes ace size fits, ace_in_again place bytes ace size)
