use Rattle.std.proofs.Common.{◌≡◌, ◌++◌, All, take}
use Rattle.std.specs.List.{flat_map}
use Rattle.service_record.specs.Spelling.{trigger_bytes, IsTrigger}
use Rattle.service_record.proofs.writing.put_each_trigger.Given as goal

-- the triggers so far were appended
abbrev pub invariant-loop-value : goal.invariant-loop-value
invariant-loop-value l = record {
  bytes : l.out ≡ l.fn.out ++ flat_map trigger_bytes (take l.value-index l.triggers);
  fit : All IsTrigger (take l.value-index l.triggers);
}
