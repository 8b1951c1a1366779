use Rattle.std.proofs.Common.{arith}
use Rattle.row_slab.proofs.Keeping.{as_many, rising}
use Rattle.row_slab.proofs.rows.Rows.len.Goals as goal

pub returns-clause-len : goal.returns-clause-len
returns-clause-len g c =
    let many = as_many g.T.Numbered.number_of c.self.inside.slots.slots c.self.inside.places.items c.self.invariant in
    rw (← c.self.view_is) (omega (arith, many, c.len.ensures))

pub returns-clause-rising : goal.returns-clause-rising
returns-clause-rising g c = rw (← c.self.view_is) (rising g.T.Numbered.number_of c.self.inside.slots.slots c.self.inside.places.items
    c.self.invariant)
