use Rattle.std.proofs.Common.{◌-◌, ap, arith, deque_len}
use Rattle.row_slab.specs.declared.rows.Place.{Place}
use Rattle.row_slab.proofs.Searching.{rises_to}
use Rattle.row_slab.proofs.rows.floor_of.Goals as goal

pub returns-then-last-number-clause-below : goal.returns-then-last-number-clause-below
returns-then-last-number-clause-below c = λ k d before.
    omega (
      arith,
      rises_to c.args.places.now.items k (deque_len c.args.places.now - 1) d c.in-Some.last.now c.requires (omega arith)
          (omega arith),
      ap (λ (p : Place). p.number) c.in-Some.ensures.lookup,
      c.if-last-number.true,
    )

pub returns-clause-below : goal.returns-clause-below
returns-clause-below c = λ k d before.
    omega (
      arith,
      rises_to c.args.places.now.items k (deque_len c.args.places.now - 1) d c.in-Some.last.now c.requires (omega arith)
          (omega arith),
      ap (λ (p : Place). p.number) c.in-Some.ensures.lookup,
      c.if-last-number.false,
      c.saturating_sub.ensures,
      before,
    )
