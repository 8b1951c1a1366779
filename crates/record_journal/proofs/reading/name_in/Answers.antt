use Rattle.std.proofs.Common.{◌∙◌, ◌==◌, Some, ap, sym}
use Rattle.std.specs.List.{list_any}
use Rattle.record_journal.proofs.Names.{has_a_zero, is_name, no_number, other_length}
use Rattle.record_journal.proofs.reading.name_in.Goals as goal

pub returns-in_default : goal.returns-in_default
returns-in_default c = no_number c.args.body.now c.in_default.ensures

pub returns-then-rest-count : goal.returns-then-rest-count
returns-then-rest-count c = other_length c.args.body.now c.in-Some.rest.now c.in-Some.count c.in-Some.ensures c.if-rest-count.true

pub returns-then-has_zero : goal.returns-then-has_zero
returns-then-has_zero c =
    has_a_zero c.args.body.now c.in-Some.rest.now c.in-Some.count c.in-Some.ensures
    (ap (list_any (λ u. u == 0)) (sym (c.as_slice.ensures.value ∙ c.in-Ok.ensures)) ∙ sym c.if-has_zero.ensures.value)

pub returns : goal.returns
returns c =
    ap Some (c.from_vec.ensures ∙ c.in-Ok.ensures)
    ∙ is_name c.args.body.now c.in-Some.rest.now c.in-Some.count c.in-Some.ensures c.if-rest-count.false
    (ap (list_any (λ u. u == 0)) (sym (c.as_slice.ensures.value ∙ c.in-Ok.ensures)) ∙ sym c.if-has_zero.ensures.value)
