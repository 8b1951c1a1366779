-- Failures of services: how they are counted, and what becomes due by them.
use Rattle.std.specs.Prelude.{ℕ, Bool, not, ◌&&◌, ◌==◌, ◌+◌, ◌-◌, ◌^◌, min, List, [], ◌∷◌, Option, None, Some, map, option_and_then}
use Rattle.std.specs.Prelude.{if◌then◌else◌}
use Rattle.scm_model.specs.declared.flat.Action.{Action}
use Rattle.scm_model.specs.declared.flat.DueKind.{DueKind}
use Rattle.scm_model.specs.declared.flat.Flat.{Flat}
use Rattle.scm_model.specs.declared.flat.Service.{Service}
use Rattle.scm_model.specs.declared.flat.Status.{Status}
use Rattle.scm_model.specs.declared.codes.TheConstants.{SERVICE_STOPPED}
use Rattle.scm_model.specs.Found.{if_found}
use Rattle.failure_actions.specs.Failing.{due_action, on_failure}
use Rattle.status_machine.specs.Moves.{takes}
use Rattle.scm_rules.specs.Due.{with_due}

-- the moment so many milliseconds after another, as far as numbers go
abbrev pub moment_after : ℕ → ℕ → ℕ
moment_after moment millis = min (moment + millis) (2 ^ 64 - 1)

-- a failure of the service at a moment is counted
abbrev pub counted_if : ℕ → ℕ → Service → Service
counted_if number moment row =
    if row.number == number
    then record row { failures = (on_failure row.config row.failures row.last_failure moment).failures; last_failure = moment }
    else row

-- a row becomes due so many milliseconds from now
abbrev pub with_due_after : ℕ → DueKind → Flat → Flat
with_due_after millis kind f = with_due f (moment_after f.moment millis) kind

-- an action of a service becomes due after its delay; it takes the place of an earlier one, unless nothing is to be done
abbrev pub with_action : ℕ → Action → Flat → Flat
with_action service action f = if_found (with_due_after action.delay) (due_action service action) f

-- a service, as it stood before, failed at the present moment: that is counted, and what is to be done becomes due
abbrev pub with_failure : Service → Flat → Flat
with_failure row f =
    if_found (with_action row.number) (on_failure row.config row.failures row.last_failure f.moment).action
    (record f { services = map (counted_if row.number f.moment) f.services })

-- one failure after another, each of a service as it stood before
abbrev pub all_failed : List Service → Flat → Flat
all_failed [] f = f
all_failed (row ∷ rows) f = all_failed rows (with_failure row f)

-- whether a report that is taken is a failure of the service: it stops with an error, which counts with this service
abbrev pub is_failure : Status → Service → Bool
is_failure report row = row.config.on_exit && takes row.status report && report.state == SERVICE_STOPPED && not (report.win32 == 0)

-- the service, where the report is a failure of it
abbrev pub failed_by : Status → Option Service → Option Service
failed_by report service = option_and_then (λ row. if is_failure report row then Some row else None) service
