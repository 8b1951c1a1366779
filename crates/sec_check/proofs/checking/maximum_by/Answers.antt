use Rattle.std.proofs.Common.{◌∙◌, arith, sym}
use Rattle.std.specs.Prelude.{slice_range}
use Rattle.sec_desc.specs.Reading.{aces_in}
use Rattle.sec_check.proofs.Secured.{acl_told, body_read, header_there, here, is_ok, never_missing, total, with_list, without_list}
use Rattle.sec_check.proofs.checking.maximum_by.Goals as goal

pub unreachable-requires : goal.unreachable-requires
unreachable-requires c = header_there c.args.security.now c.requires c.if-is_empty.ensures (sym c.in_default.is ∙ c.read_header.ensures)

pub returns-in_default-list : goal.returns-in_default-list
returns-in_default-list c = without_list c.args.security.now c.in-Some.header c.args.principal c.requires c.in-Some.ensures
    c.in_default-list.is

pub unreachable-requires-in_default-read_acl_header : goal.unreachable-requires-in_default-read_acl_header
unreachable-requires-in_default-read_acl_header c =
    let e = with_list c.args.security.now c.in-Some.header c.in-Some-list.place c.requires c.in-Some.ensures c.in-Some-list.is in
    let list = c.from_place-list.result.now in
    let h = here c.args.security.now list c.in-Some-list.place e (λ i. omega (arith, c.type_inv.security i)) c.from_place-list.ensures in
    never_missing list e.aces h (sym c.in_default-read_acl_header.is ∙ c.read_acl_header.ensures)

pub maximum-requires : goal.maximum-requires
maximum-requires c =
    let e = with_list c.args.security.now c.in-Some.header c.in-Some-list.place c.requires c.in-Some.ensures c.in-Some-list.is in
    let list = c.from_place-list.result.now in
    let h = here c.args.security.now list c.in-Some-list.place e (λ i. omega (arith, c.type_inv.security i)) c.from_place-list.ensures in
    let acl = c.in-Some-read_acl_header.acl in
    is_ok (aces_in acl.count 0 (slice_range list 8 acl.size)) e.aces
    (body_read list e.aces acl h (acl_told list acl c.in-Some-read_acl_header.ensures).1)

pub returns : goal.returns
returns c =
    let e = with_list c.args.security.now c.in-Some.header c.in-Some-list.place c.requires c.in-Some.ensures c.in-Some-list.is in
    let list = c.from_place-list.result.now in
    let h = here c.args.security.now list c.in-Some-list.place e (λ i. omega (arith, c.type_inv.security i)) c.from_place-list.ensures in
    let acl = c.in-Some-read_acl_header.acl in
    c.maximum.ensures ∙ total c.args.security.now c.in-Some-list.place c.args.principal e
    (aces_in acl.count 0 (slice_range list 8 acl.size))
    (body_read list e.aces acl h (acl_told list acl c.in-Some-read_acl_header.ensures).1)
