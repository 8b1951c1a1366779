use Rattle.std.proofs.Common.{ap, arith}
use Rattle.row_slab.specs.declared.rows.Place.{Place}
use Rattle.row_slab.proofs.Searching.{rises_to}
use Rattle.row_slab.proofs.rows.ceiling_of.Goals as goal

pub returns-clause-rest : goal.returns-clause-rest
returns-clause-rest c = λ k d from within.
    omega (
      arith,
      rises_to c.args.places.now.items 0 k c.in-Some.first.now d c.requires (omega arith) within,
      ap (λ (p : Place). p.number) c.in-Some.ensures.lookup,
      from,
      within,
      c.min.ensures,
      c.saturating_sub.ensures,
      c.len.ensures,
    )
