use Rattle.std.proofs.Common.{◌≡◌, ◌++◌, take}
use Rattle.std.specs.List.{flat_map}
use Rattle.journal_compact.specs.Compact.{HaveEntries, created_entry}
use Rattle.journal_compact.proofs.writing.put_all.Given as goal

-- the entries so far were appended
abbrev pub invariant-loop-config : goal.invariant-loop-config
invariant-loop-config l = record {
  bytes : l.out ≡ l.fn.out ++ flat_map created_entry (take l.config-index l.configs);
  fits : HaveEntries (take l.config-index l.configs);
}
