-- The lines that answer lines.
use Rattle.std.specs.Prelude.{ℕ, List, [], codes, decimal}
use Rattle.scm_lines.specs.Answers.{line_with, order_line, told_line}
use Rattle.scm_replay.specs.declared.missed.Missed.{Missed}
use Rattle.scm_replay.specs.declared.missed.Missed.TheVariants.{Again, Empty, Over, Idle}
use Rattle.scm_replay.specs.declared.outcome.Outcome.{Outcome}
use Rattle.scm_replay.specs.declared.outcome.Outcome.TheVariants.{Answered, Handed, InVain, TooMany, Full, Bad}

abbrev pub missed_word : Missed → List ℕ
missed_word Again = codes "again"
missed_word Empty = codes "empty"
missed_word Over = codes "over"
missed_word Idle = codes "idle"

-- the line that answers the line of this number
abbrev pub answer_line : ℕ → Outcome → List ℕ
answer_line number (Answered answer) = told_line answer
answer_line number (Handed order shared) = order_line order shared
answer_line number (InVain missed) = line_with (missed_word missed) []
answer_line number TooMany = line_with (codes "toomany") []
answer_line number Full = line_with (codes "full") []
answer_line number Bad = line_with (codes "bad line ") (decimal number)
