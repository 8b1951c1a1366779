use Rattle.std.proofs.Common.{sym}
use Rattle.row_slab.proofs.Keeping.{pushed, kept_pushed, apart_none, below_places}
use Rattle.row_slab.proofs.rows.Rows.push.Goals as goal

pub invariant_of-self : goal.invariant_of-self
invariant_of-self g c =
    let number_of = g.T.Numbered.number_of in
    let slots = c.self.inside.slots.slots in
    let places = c.self.inside.places.items in
    let apart = apart_none number_of slots c.insert_reserved-key.result places c.insert_reserved-key.ensures.was_vacant c.self.invariant in
    let above = rw (← c.self.view_is, ← c.number-number.ensures) at c.requires.above in
    rw c.push_back_reserved.ensures.items
    (kept_pushed number_of slots c.insert_reserved-key.new.self.slots places
    (record { number = c.number-number.result; key = c.insert_reserved-key.result }) c.args.row c.self.invariant apart
    c.insert_reserved-key.ensures.updates.others c.insert_reserved-key.ensures.updates.changed (sym c.number-number.ensures)
    (below_places number_of slots places c.number-number.result c.self.invariant above))

pub returns-clause-items : goal.returns-clause-items
returns-clause-items g c =
    let number_of = g.T.Numbered.number_of in
    let slots = c.self.inside.slots.slots in
    let places = c.self.inside.places.items in
    let apart = apart_none number_of slots c.insert_reserved-key.result places c.insert_reserved-key.ensures.was_vacant c.self.invariant in
    rw (c.push_back_reserved.ensures.items, ← c.self.view_is)
    (pushed number_of slots c.insert_reserved-key.new.self.slots places
    (record { number = c.number-number.result; key = c.insert_reserved-key.result }) c.args.row c.self.invariant apart
    c.insert_reserved-key.ensures.updates.others c.insert_reserved-key.ensures.updates.changed)
