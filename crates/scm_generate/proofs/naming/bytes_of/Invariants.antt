use Rattle.std.proofs.Common.{◌≡◌, take}
use Rattle.scm_generate.specs.Listed.{wide_bytes}
use Rattle.scm_generate.proofs.naming.bytes_of.Given as goal

abbrev pub invariant-loop-unit : goal.invariant-loop-unit
invariant-loop-unit l = l.bytes ≡ wide_bytes (take l.unit-index l.fn.units)
