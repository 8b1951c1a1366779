use Rattle.std.proofs.Common.{◌≡◌, ◌-◌}
use Rattle.service_record.specs.Reading.{take_items, take_need}
use Rattle.service_record.proofs.Loop.{with_front}
use Rattle.service_record.proofs.reading.needs_of.Given as goal

abbrev pub invariant-loop : goal.invariant-loop
invariant-loop l = with_front l.needs.items (take_items take_need (l.count - l.counter) l.rest) ≡ take_items take_need l.count l.bytes
