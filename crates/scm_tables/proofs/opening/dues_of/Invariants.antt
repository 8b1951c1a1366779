use Rattle.std.proofs.Common.{◌≡◌, ◌+◌, ◌++◌, ◌<◌, ◌≤◌, ◌^◌, drop, length}
use Rattle.scm_tables.specs.Started.{dues_from}
use Rattle.scm_tables.proofs.opening.dues_of.Given as goal

-- the rows so far, and those of the starts that are left, with the numbers behind
abbrev pub invariant-loop-start : goal.invariant-loop-start
invariant-loop-start l = record {
  rows : l.dues.rows ++ dues_from (l.start-index + 1) l.moment (drop l.start-index l.starts) ≡ dues_from 1 l.moment l.starts;
  next : l.dues.next ≡ l.start-index + 1;
  count : length l.dues.rows ≡ l.start-index;
  room : length l.starts + l.more ≤ l.dues.capacity;
  small : length l.starts < 2 ^ 63;
}
