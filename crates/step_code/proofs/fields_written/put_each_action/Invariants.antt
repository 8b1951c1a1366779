use Rattle.std.proofs.Common.{◌≡◌, ◌+◌, ◌*◌, ◌++◌, All, take}
use Rattle.std.specs.List.{flat_map}
use Rattle.step_code.specs.Codes.{action}
use Rattle.step_code.specs.Fits.{IsAction}
use Rattle.step_code.proofs.fields_written.put_each_action.Given as goal

-- the actions so far were appended
abbrev pub invariant-loop-value : goal.invariant-loop-value
invariant-loop-value l = record {
  bytes : l.out.items ≡ l.fn.out.items ++ flat_map action (take l.value-index l.actions);
  room : l.out.room + 8 * l.value-index ≡ l.fn.out.room;
  fit : All IsAction (take l.value-index l.actions);
}
