use Rattle.std.proofs.Common.{◌≡◌, ◌-◌}
use Rattle.service_record.specs.Reading.{take_items, take_trigger}
use Rattle.service_record.proofs.Loop.{with_front}
use Rattle.service_record.proofs.reading.triggers_of.Given as goal

abbrev pub invariant-loop : goal.invariant-loop
invariant-loop l =
    with_front l.triggers.items (take_items take_trigger (l.count - l.counter) l.rest) ≡ take_items take_trigger l.count l.bytes
