use Rattle.std.proofs.Common.{◌≡◌, false, drop}
use Rattle.service_record.proofs.Halves.{is_unpaired}
use Rattle.service_record.proofs.lines.is_broken.Given as goal

-- the units that are left decide, and whether a second half has to come
abbrev pub invariant-loop-unit : goal.invariant-loop-unit
invariant-loop-unit l = is_unpaired false l.units ≡ is_unpaired l.pending (drop l.unit-index l.units)
