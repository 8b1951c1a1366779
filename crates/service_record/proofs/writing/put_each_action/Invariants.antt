use Rattle.std.proofs.Common.{◌≡◌, ◌++◌, All, take}
use Rattle.std.specs.List.{flat_map}
use Rattle.service_record.specs.Spelling.{action, IsAction}
use Rattle.service_record.proofs.writing.put_each_action.Given as goal

-- the actions so far were appended
abbrev pub invariant-loop-value : goal.invariant-loop-value
invariant-loop-value l = record {
  bytes : l.out ≡ l.fn.out ++ flat_map action (take l.value-index l.actions);
  fit : All IsAction (take l.value-index l.actions);
}
