use Rattle.std.proofs.Common.{◌≡◌}
use Rattle.std.specs.Prelude.{vec_len, vec_capacity}
use Rattle.ndr_body.specs.Units.{le_units}
use Rattle.ndr_body.proofs.units.units_of.Given as goal

abbrev pub invariant-loop-i : goal.invariant-loop-i
invariant-loop-i l = record {
  units : l.units.items ≡ le_units l.i l.bytes;
  len : vec_len l.units ≡ l.i;
  capacity : vec_capacity l.units ≡ l.count;
}
