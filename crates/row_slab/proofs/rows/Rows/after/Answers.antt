use Rattle.std.proofs.Common.{ℕ, ◌<◌, ◌∙◌, sym, ap, length, Some, arith}
use Rattle.std.specs.Prelude.{option_map}
use Rattle.row_slab.specs.declared.rows.Place.{Place}
use Rattle.row_slab.proofs.Keeping.{ordered, next_is, no_next}
use Rattle.row_slab.proofs.rows.Rows.after.Goals as goal

pub above-i-requires : goal.above-i-requires
above-i-requires g c = ordered g.T.Numbered.number_of c.self.inside.slots.slots c.self.inside.places.items
    c.self.invariant

pub returns-then-i-len : goal.returns-then-i-len
returns-then-i-len g c =
    let lt : c.above-i.result < length c.self.inside.places.items = omega arith in
    let d = c.index.result.now in
    rw (← c.self.view_is)
    (ap (λ (p : Place). Some p.number) c.index.ensures
    ∙ sym (next_is g.T.Numbered.number_of c.self.inside.slots.slots c.self.inside.places.items c.above-i.result c.args.number d
    c.self.invariant lt c.above-i.ensures.below (c.above-i.ensures.rest c.above-i.result d (omega arith) lt)))

pub returns-else-i-len : goal.returns-else-i-len
returns-else-i-len g c =
    rw (← c.self.view_is)
    (ap (option_map g.T.Numbered.number_of) (sym (no_next g.T.Numbered.number_of c.self.inside.slots.slots c.self.inside.places.items
    c.args.number c.self.invariant (λ (k : ℕ) (e : Place) lt. c.above-i.ensures.below k e (omega arith)))))
