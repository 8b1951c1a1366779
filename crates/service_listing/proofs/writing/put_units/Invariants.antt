use Rattle.std.proofs.Common.{◌≡◌, ◌++◌, drop}
use Rattle.std.specs.List.{flat_map}
use Rattle.std.specs.Int.{w16, to_le_bytes}
use Rattle.service_listing.proofs.writing.put_units.Given as goal

-- with the units that are left they are all units
abbrev pub invariant-loop-unit : goal.invariant-loop-unit
invariant-loop-unit l = l.out ++ flat_map (to_le_bytes w16) (drop l.unit-index l.units) ≡ l.initial.out
    ++ flat_map (to_le_bytes w16) l.units
