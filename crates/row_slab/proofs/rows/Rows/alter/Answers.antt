use Rattle.std.proofs.Common.{◌∙◌, sym, ap, is_some}
use Rattle.row_slab.proofs.Keeping.{IsWritten, ordered, unfound, unaltered, written}
use Rattle.row_slab.proofs.rows.Rows.alter.Goals as goal

pub find-requires : goal.find-requires
find-requires g c = ordered g.T.Numbered.number_of c.self.inside.slots.slots c.self.inside.places.items
    c.self.invariant

-- the row was altered
row_written : (g : _) (c : goal.After-change_at g) → IsWritten g.T.Numbered.number_of c.self.inside.slots c.change_at.new.slots
    c.self.inside.places.items c.index.result.now.key c.args.number (g.C.Change.changed c.args.change.now)
row_written g c = written g.T.Numbered.number_of c.self.inside.slots c.change_at.new.slots c.self.inside.places.items c.in-Some.i
    c.args.number c.index.result.now (g.C.Change.changed c.args.change.now) c.self.invariant
    c.in-Some.ensures.found c.index.ensures c.change_at.ensures.updates
    (λ row. g.met.C.Change.keeps c.args.change.now row)

pub invariant_of-self : goal.invariant_of-self
invariant_of-self g c = (row_written g c).kept

pub returns-in-Some-clause-found : goal.returns-in-Some-clause-found
returns-in-Some-clause-found g c = rw (← c.self.view_is) (sym (ap is_some (row_written g c).found ∙ (row_written g c).some))

pub returns-in-Some-clause-items : goal.returns-in-Some-clause-items
returns-in-Some-clause-items g c = rw (← c.self.view_is) (row_written g c).items

pub returns-in-None-clause-found : goal.returns-in-None-clause-found
returns-in-None-clause-found g c = rw (← c.self.view_is)
    (sym (ap is_some (unfound g.T.Numbered.number_of c.self.inside.slots.slots c.self.inside.places.items c.args.number c.self.invariant
    c.in-None.ensures.none)))

pub returns-in-None-clause-items : goal.returns-in-None-clause-items
returns-in-None-clause-items g c =
    rw (← c.self.view_is) (sym (unaltered g.T.Numbered.number_of c.self.inside.slots.slots c.self.inside.places.items c.args.number
    (g.C.Change.changed c.args.change.now) c.self.invariant c.in-None.ensures.none))
