use Rattle.std.proofs.Common.{◌<◌, ◌∙◌, sym, ap, length, None, arith}
use Rattle.std.specs.Prelude.{slice_index_or}
use Rattle.row_slab.specs.declared.rows.Place.{Place}
use Rattle.std.proofs.lemmas.Option.{slice_get_past}
use Rattle.row_slab.proofs.Keeping.{row_at, as_many}
use Rattle.row_slab.proofs.rows.Rows.at.Goals as goal

pub returns-then-place-len : goal.returns-then-place-len
returns-then-place-len g c =
    let lt : c.args.place < length c.self.inside.places.items = omega arith in
    rw (← c.self.view_is)
    (c.get.ensures ∙ ap (λ (p : Place). slice_index_or c.self.inside.slots.slots p.key None) c.index.ensures
    ∙ sym (row_at g.T.Numbered.number_of c.self.inside.slots.slots c.self.inside.places.items c.args.place c.index.result.now
    c.self.invariant lt))

pub returns-else-place-len : goal.returns-else-place-len
returns-else-place-len g c =
    let many = as_many g.T.Numbered.number_of c.self.inside.slots.slots c.self.inside.places.items c.self.invariant in
    rw (← c.self.view_is) (sym (slice_get_past _ c.args.place (omega (arith, many))))
