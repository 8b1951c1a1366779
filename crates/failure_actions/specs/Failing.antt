-- What a failure of a service makes of the count of its failures, and what is done then.
use Rattle.std.specs.Prelude.{ℕ, Bool, not, ◌+◌, ◌-◌, ◌*◌, ◌&&◌, ◌||◌, ◌==◌, nat_le, min, List, length, Option, None, Some, slice_get}
use Rattle.std.specs.Prelude.{if◌then◌else◌}
use Rattle.scm_model.specs.declared.flat.Action.{Action}
use Rattle.scm_model.specs.declared.flat.Config.{Config}
use Rattle.scm_model.specs.declared.flat.DueKind.{DueKind}
use Rattle.scm_model.specs.declared.flat.DueKind.TheVariants.{Start, Command, Reboot}
use Rattle.scm_model.specs.declared.codes.TheConstants.{INFINITE, SC_ACTION_NONE, SC_ACTION_REBOOT, SC_ACTION_RESTART}
use Rattle.failure_actions.specs.declared.Failure.{Failure}

-- whether the reset period, which is in seconds, has passed since the last failure
abbrev pub is_forgotten : Config → ℕ → ℕ → Bool
is_forgotten config last moment = not (config.reset == INFINITE) && nat_le (last + config.reset * 1000) moment

-- the count: 1 where none counts so far, and else one more, in 32 bits
abbrev pub failure_count : Config → ℕ → ℕ → ℕ → ℕ
failure_count config failures last moment = if failures == 0 || is_forgotten config last moment then 1 else min (failures + 1) 0xFFFFFFFF

-- the action of a number, counted from 1, or the last one where there are fewer
abbrev pub nth_action : List Action → ℕ → Option Action
nth_action actions number = slice_get actions (min number (length actions) - 1)

abbrev pub counted_failure : Config → ℕ → Failure
counted_failure config failures = record { failures = failures; action = nth_action config.actions failures }

abbrev pub on_failure : Config → ℕ → ℕ → ℕ → Failure
on_failure config failures last moment = counted_failure config (failure_count config failures last moment)

-- what becomes due by an action of a service
abbrev pub due_action : ℕ → Action → Option DueKind
due_action service action =
    if action.what == SC_ACTION_NONE then None
    else if action.what == SC_ACTION_RESTART then Some (Start service)
    else if action.what == SC_ACTION_REBOOT then Some (Reboot service)
    else Some (Command service)
