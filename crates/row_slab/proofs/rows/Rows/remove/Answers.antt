use Rattle.std.proofs.Common.{◌∙◌, sym, ap, None}
use Rattle.std.specs.Prelude.{slice_index_or}
use Rattle.row_slab.specs.declared.rows.Place.{Place}
use Rattle.row_slab.proofs.Keeping.{ordered, found, unfound, removed, kept_removed, stays}
use Rattle.row_slab.proofs.rows.Rows.remove.Goals as goal

pub find-requires : goal.find-requires
find-requires g c = ordered g.T.Numbered.number_of c.self.inside.slots.slots c.self.inside.places.items c.self.invariant

pub invariant_of-self-2 : goal.invariant_of-self-2
invariant_of-self-2 g c = rw c.in_ok-place.ensures.items
    (kept_removed g.T.Numbered.number_of c.self.inside.slots.slots c.try_remove.new.self.slots c.self.inside.places.items c.in_ok-i.i
    c.in_ok-place.place c.self.invariant c.in_ok-i.ensures.found.0
    (rw c.in_ok-place.ensures.value at c.try_remove.ensures.updates.others))

pub returns-clause-row : goal.returns-clause-row
returns-clause-row g c =
    let there = c.in_ok-i.ensures.found in
    rw (← c.self.view_is)
    (c.try_remove.ensures.value
    ∙ ap (λ (p : Place). slice_index_or c.self.inside.slots.slots p.key None) c.in_ok-place.ensures.value
    ∙ sym (found g.T.Numbered.number_of c.self.inside.slots.slots c.self.inside.places.items c.in_ok-i.i c.args.number
    c.in_ok-place.place c.self.invariant there.0 (there.1 c.in_ok-place.place)))

pub returns-clause-items : goal.returns-clause-items
returns-clause-items g c =
    let there = c.in_ok-i.ensures.found in
    rw (c.in_ok-place.ensures.items, ← c.self.view_is)
    (removed g.T.Numbered.number_of c.self.inside.slots.slots c.try_remove.new.self.slots c.self.inside.places.items c.in_ok-i.i
    c.args.number c.in_ok-place.place c.self.invariant there.0 (there.1 c.in_ok-place.place)
    (rw c.in_ok-place.ensures.value at c.try_remove.ensures.updates.others))

pub returns-in_err-i-clause-row : goal.returns-in_err-i-clause-row
returns-in_err-i-clause-row g c = rw (← c.self.view_is)
    (c.from_residual.ensures ∙ sym (unfound g.T.Numbered.number_of c.self.inside.slots.slots c.self.inside.places.items c.args.number
    c.self.invariant c.in_err-i.ensures.none))

pub returns-in_err-i-clause-items : goal.returns-in_err-i-clause-items
returns-in_err-i-clause-items g c = rw (← c.self.view_is) (sym (stays g.T.Numbered.number_of c.self.inside.slots.slots
    c.self.inside.places.items c.args.number c.self.invariant c.in_err-i.ensures.none))
