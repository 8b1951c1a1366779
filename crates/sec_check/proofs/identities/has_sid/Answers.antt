use Rattle.std.proofs.Common.{arith, ap, eqb, ◌∙◌}
use Rattle.std.specs.List.{starts_with}
use Rattle.sec_desc.specs.Layout.{sid_of}
use Rattle.sec_check.specs.Allowed.{everyone, group_of, same_sid}
use Rattle.sec_check.proofs.Sids.{everyone_known, first_holds, group_known, second_tells, told}
use Rattle.sec_check.proofs.identities.has_sid.Goals as goal

pub returns-then-starts_with : goal.returns-then-starts_with
returns-then-starts_with c =
    let bytes = c.args.bytes.now in
    let group = group_of c.args.principal in
    let first = told bytes group c.starts_with.result (λ i. omega (arith, c.type_inv.bytes i)) c.requires (group_known c.args.principal)
    (c.starts_with.ensures.value ∙ ap (starts_with eqb bytes) c.group_of-group.ensures) in
    first_holds c.starts_with.result (same_sid (sid_of bytes) group) (same_sid (sid_of bytes) everyone) c.if-starts_with.true first

pub returns-else-starts_with : goal.returns-else-starts_with
returns-else-starts_with c =
    let bytes = c.args.bytes.now in
    let group = group_of c.args.principal in
    let other = c.starts_with-else-starts_with in
    let first = told bytes group c.starts_with.result (λ i. omega (arith, c.type_inv.bytes i)) c.requires (group_known c.args.principal)
    (c.starts_with.ensures.value ∙ ap (starts_with eqb bytes) c.group_of-group.ensures) in
    let second = told bytes everyone other.result (λ i. omega (arith, c.type_inv.bytes i)) c.requires everyone_known
    (other.ensures.value ∙ ap (starts_with eqb bytes) c.everyone-everyone.ensures) in
    second_tells c.starts_with.result other.result (same_sid (sid_of bytes) group)
    (same_sid (sid_of bytes) everyone) c.if-starts_with.false first second
