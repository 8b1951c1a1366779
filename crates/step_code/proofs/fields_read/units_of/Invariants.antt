use Rattle.std.proofs.Common.{◌≡◌, ◌-◌}
use Rattle.step_code.specs.Reading.{items_at, n2_at}
use Rattle.step_code.proofs.Loop.{with_front}
use Rattle.step_code.proofs.fields_read.units_of.Given as goal

abbrev pub invariant-loop : goal.invariant-loop
invariant-loop l = with_front l.units.items (items_at n2_at (l.count - l.counter) l.rest) ≡ items_at n2_at l.count l.bytes
