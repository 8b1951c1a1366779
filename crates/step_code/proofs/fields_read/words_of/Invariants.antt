use Rattle.std.proofs.Common.{◌≡◌, ◌-◌}
use Rattle.step_code.specs.Reading.{items_at, text_at}
use Rattle.step_code.proofs.Loop.{with_front}
use Rattle.step_code.proofs.fields_read.words_of.Given as goal

abbrev pub invariant-loop : goal.invariant-loop
invariant-loop l = with_front l.words.items (items_at text_at (l.count - l.counter) l.rest) ≡ items_at text_at l.count l.bytes
