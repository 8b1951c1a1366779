use Rattle.std.proofs.Common.{◌≡◌, ◌+◌, ◌*◌, ◌≤◌, sum_by, take}
use Rattle.step_code.specs.Sizes.{trigger_size}
use Rattle.step_code.proofs.length.triggers_length.Given as goal

-- the size of the triggers so far
abbrev pub invariant-loop-trigger : goal.invariant-loop-trigger
invariant-loop-trigger l = record {
  size : l.size ≡ 4 + sum_by trigger_size (take l.trigger-index l.triggers);
  small : l.size ≤ 4 + 29 * l.trigger-index;
}
