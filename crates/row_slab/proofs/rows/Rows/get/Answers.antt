use Rattle.std.proofs.Common.{◌∙◌, sym, ap, None}
use Rattle.std.specs.Prelude.{slice_index_or}
use Rattle.row_slab.specs.declared.rows.Place.{Place}
use Rattle.row_slab.proofs.Keeping.{ordered, found, unfound}
use Rattle.row_slab.proofs.rows.Rows.get.Goals as goal

pub find-requires : goal.find-requires
find-requires g c = ordered g.T.Numbered.number_of c.self.inside.slots.slots c.self.inside.places.items
    c.self.invariant

pub returns-in-Some : goal.returns-in-Some
returns-in-Some g c =
    let there = c.in-Some.ensures.found in
    rw (← c.self.view_is)
    (c.get.ensures ∙ ap (λ (p : Place). slice_index_or c.self.inside.slots.slots p.key None) c.index.ensures
    ∙ sym (found g.T.Numbered.number_of c.self.inside.slots.slots c.self.inside.places.items c.in-Some.i c.args.number c.index.result.now
    c.self.invariant there.0 (there.1 c.index.result.now)))

pub returns-in-None : goal.returns-in-None
returns-in-None g c =
    rw (← c.self.view_is) (sym (unfound g.T.Numbered.number_of c.self.inside.slots.slots c.self.inside.places.items c.args.number
    c.self.invariant c.in-None.ensures.none))
