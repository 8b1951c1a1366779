use Rattle.std.proofs.Common.{◌-◌, List, ℕ}
use Rattle.step_code.specs.Fronts.{HasUnits}
use Rattle.step_code.proofs.fields_passed.after_units.Given as goal

abbrev pub invariant-loop : goal.invariant-loop
invariant-loop l = (rest : List ℕ) → HasUnits (l.count - l.counter) l.rest rest → HasUnits l.count l.bytes rest
