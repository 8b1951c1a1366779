use Rattle.std.proofs.Common.{◌≡◌, ◌-◌, length}
use Rattle.record_journal.specs.Entries.{all_from, entries_from, replay_of}
use Rattle.record_journal.specs.Opening.{CanBegin}
use Rattle.record_journal.proofs.replaying.replay_over.Given as goal

-- what is left comes to what all comes to
abbrev pub invariant-loop : goal.invariant-loop
invariant-loop l =
    record {
      begins : CanBegin l.configs;
      left : replay_of l.size l.configs (entries_from (length l.entries - l.counter) l.now l.configs l.rest)
          ≡ replay_of l.size l.fn.configs (all_from l.fn.form l.fn.configs l.entries);
    }
