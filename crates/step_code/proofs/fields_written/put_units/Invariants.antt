use Rattle.std.proofs.Common.{◌≡◌, ◌+◌, ◌*◌, ◌++◌, take}
use Rattle.std.specs.List.{flat_map}
use Rattle.step_code.specs.Codes.{n2}
use Rattle.step_code.proofs.fields_written.put_units.Given as goal

-- the units so far were appended
abbrev pub invariant-loop-unit : goal.invariant-loop-unit
invariant-loop-unit l = record {
  bytes : l.out.items ≡ l.fn.out.items ++ flat_map n2 (take l.unit-index l.units);
  room : l.out.room + 2 * l.unit-index ≡ l.fn.out.room;
}
