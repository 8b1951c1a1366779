use Rattle.std.proofs.Common.{◌-◌, List, ℕ}
use Rattle.step_code.specs.Fronts.{Leaves}
use Rattle.step_code.specs.Reading.{items_at, text_at}
use Rattle.step_code.proofs.fields_passed.after_words.Given as goal

abbrev pub invariant-loop : goal.invariant-loop
invariant-loop l =
    (rest : List ℕ) → Leaves (items_at text_at (l.count - l.counter) l.rest) rest → Leaves (items_at text_at l.count l.bytes) rest
