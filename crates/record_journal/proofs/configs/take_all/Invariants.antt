use Rattle.std.proofs.Common.{◌≡◌, ◌-◌, ◌++◌, length}
use Rattle.record_journal.specs.Services.{configs_of}
use Rattle.record_journal.proofs.configs.take_all.Given as goal

-- those that were moved, and as many more as turns are left
abbrev pub invariant-loop : goal.invariant-loop
invariant-loop l =
    record {
      moved : l.configs.items ++ configs_of l.table.services ≡ configs_of l.fn.table.services;
      left : length (configs_of l.table.services) ≡ l.end - l.counter;
    }
