use Rattle.std.proofs.Common.{◌≡◌, ◌+◌, ◌++◌, All, take}
use Rattle.std.specs.List.{flat_map, sum_by}
use Rattle.step_code.specs.Codes.{trigger}
use Rattle.step_code.specs.Fits.{IsTrigger}
use Rattle.step_code.specs.Sizes.{trigger_size}
use Rattle.step_code.proofs.fields_written.put_each_trigger.Given as goal

-- the triggers so far were appended
abbrev pub invariant-loop-value : goal.invariant-loop-value
invariant-loop-value l = record {
  bytes : l.out.items ≡ l.fn.out.items ++ flat_map trigger (take l.value-index l.triggers);
  room : l.out.room + sum_by trigger_size (take l.value-index l.triggers) ≡ l.fn.out.room;
  fit : All IsTrigger (take l.value-index l.triggers);
}
