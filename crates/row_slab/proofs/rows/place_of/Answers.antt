use Rattle.std.proofs.Common.{ap, arith}
use Rattle.row_slab.specs.declared.rows.Place.{Place}
use Rattle.row_slab.proofs.Searching.{below_middle, from_middle}
use Rattle.row_slab.proofs.rows.place_of.Goals as goal
use Rattle.row_slab.proofs.rows.place_of.Goals.{then-index-number, else-index-number}

pub loop-low-preserved : goal.loop-low-preserved
loop-low-preserved c =
    let item = ap (λ (p : Place). p.number) c.index.ensures in
    let inside = c.loop-low.invariant.to_high c.loop-low-test.true in
    elim c.if-index-number.branch [
      | then-index-number w ↦ record {
        low_within = omega (arith, w.low-is, inside, c.loop-low.invariant.high_within);
        high_within = omega (arith, w.high-is, c.loop-low.invariant.high_within);
        from_low = omega arith;
        to_high = λ less. omega (arith, less);
        below = λ k d before. below_middle c.args.places.now.items c.loop-low.middle c.args.number d c.index.result.now c.requires
            (omega (arith, inside, c.loop-low.invariant.high_within)) (omega (arith, item, w.if-index-number.true)) k
            (omega (arith, before, w.low-is));
        rest = λ k d from within. c.loop-low.invariant.rest k d (omega (arith, w.high-is, from)) within;
      }
      | else-index-number w ↦ record {
        low_within = omega (arith, w.low-is, c.loop-low.invariant.low_within);
        high_within = omega (arith, w.high-is, inside, c.loop-low.invariant.high_within);
        from_low = omega arith;
        to_high = λ less. omega (arith, less);
        below = λ k d before. c.loop-low.invariant.below k d (omega (arith, w.low-is, before));
        rest = λ k d from within. from_middle c.args.places.now.items c.loop-low.middle c.args.number d c.index.result.now c.requires
            (omega (arith, item, w.if-index-number.false)) k (omega (arith, w.high-is, from)) within;
      }
    ]
