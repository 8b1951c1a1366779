-- What a raise takes.
use Rattle.std.specs.Prelude.{ℕ, ◌==◌, List, Option, None, Some, filter, length, option_and_then, option_to_list, slice_get, if◌then◌else◌}
use Rattle.scm_model.specs.declared.flat.Flat.{Flat}
use Rattle.scm_model.specs.declared.flat.Limits.{Limits}
use Rattle.scm_model.specs.declared.flat.Service.{Service}
use Rattle.scm_model.specs.declared.codes.TheConstants.{SERVICE_CONTROL_STOP, SERVICE_TRIGGER_ACTION_SERVICE_START}
use Rattle.scm_model.specs.Found.{if_found}
use Rattle.scm_rules.specs.Controls.{order_to}
use Rattle.scm_rules.specs.Raise.{gets_stop, raise_verdict, triggered}
use Rattle.scm_rules.specs.Room.{is_started_at}
use Rattle.scm_tables.specs.Firing.{one_if}
use Rattle.start_triggers.specs.Triggers.{matching}
use Rattle.scm_arms_process.specs.declared.raising.Addressed.{Addressed}

-- how many of some services it starts
abbrev pub started_among : List ℕ → List Service → ℕ
started_among subtype rows = length (filter (is_started_at subtype) rows)

-- how many plans it may begin; none where it is refused
abbrev pub raise_starts : Flat → ℕ → List ℕ → ℕ
raise_starts f caller subtype = if raise_verdict f caller == 0 then started_among subtype f.services else 0

-- the STOP of a service that gets one
abbrev pub stopped_by : Limits → Flat → Service → Option Addressed
stopped_by l f row =
    if gets_stop l f row then Some (record { process = row.process; order = order_to row.number SERVICE_CONTROL_STOP }) else None

-- the action of a service's trigger, if it has one
abbrev pub action_in : List ℕ → Option Service → Option ℕ
action_in subtype service = option_and_then (λ row. matching row.config subtype) service

-- how many plans an action begins
abbrev pub starts_by : ℕ → ℕ
starts_by action = one_if (action == SERVICE_TRIGGER_ACTION_SERVICE_START)

-- what it does to a service
abbrev pub acted : Limits → ℕ → Service → Flat → Flat
acted l action row f = triggered l row action f

-- how many plans the service at a place may begin
abbrev pub started_at : List ℕ → List Service → ℕ → ℕ
started_at subtype services place = started_among subtype (option_to_list (slice_get services place))

-- a service that has a trigger starts or gets a STOP
abbrev pub triggered_if : Limits → List ℕ → Service → Flat → Flat
triggered_if l subtype row f = if_found (triggered l row) (matching row.config subtype) f
