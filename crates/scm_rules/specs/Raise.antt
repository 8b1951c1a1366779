-- A trigger is raised: services that have it start or stop.
use Rattle.std.specs.Prelude.{ℕ, Bool, true, false, not, ◌==◌, List, [], ◌∷◌, Some, map, if◌then◌else◌}
use Rattle.scm_model.specs.declared.flat.Flat.{Flat}
use Rattle.scm_model.specs.declared.flat.Limits.{Limits}
use Rattle.scm_model.specs.declared.flat.Principal.{Principal}
use Rattle.scm_model.specs.declared.flat.Principal.TheVariants.{Admin, User}
use Rattle.scm_model.specs.declared.flat.Service.{Service}
use Rattle.scm_model.specs.declared.codes.TheConstants.{ERROR_ACCESS_DENIED, SERVICE_CONTROL_STOP, SERVICE_STOP}
use Rattle.scm_model.specs.declared.codes.TheConstants.{SERVICE_TRIGGER_ACTION_SERVICE_START}
use Rattle.scm_model.specs.Found.{if_found}
use Rattle.scm_model.specs.Rows.{principal_of}
use Rattle.scm_model.specs.Refused.{first_refusal, Refusals}
use Rattle.control_dispatch.specs.Judging.{judge}
use Rattle.start_triggers.specs.Triggers.{matching}
use Rattle.scm_rules.specs.Controls.{active_among, order_to, waiting_for, with_control}
use Rattle.scm_rules.specs.Ticks.{with_restart}

-- ## Refusals

abbrev pub is_admin : Principal → Bool
is_admin Admin = true
is_admin User = false

abbrev pub raise_refusals : Flat → ℕ → Refusals
raise_refusals f caller = (not (is_admin (principal_of f caller)), ERROR_ACCESS_DENIED) ∷ []

abbrev pub raise_verdict : Flat → ℕ → ℕ
raise_verdict f caller = first_refusal (raise_refusals f caller)

-- ## Effect

-- whether a service gets a STOP from a caller with the right to stop it
abbrev pub gets_stop : Limits → Flat → Service → Bool
gets_stop l f row =
    judge (Some SERVICE_STOP) SERVICE_CONTROL_STOP row.status (active_among f.services (Some row))
    (waiting_for f (Some row)) l.controls == 0

-- a STOP waits for the service's process, where it gets one
abbrev pub with_stop : Limits → Service → Flat → Flat
with_stop l row f =
    if gets_stop l f row then with_control l f row.process (order_to row.number SERVICE_CONTROL_STOP) else f

-- the action of a service's trigger: it starts as one that is due does, or gets a STOP
abbrev pub triggered : Limits → Service → ℕ → Flat → Flat
triggered l row action f = if action == SERVICE_TRIGGER_ACTION_SERVICE_START then with_restart row f else with_stop l row f

-- each of some services that has a trigger with the subtype, in order
abbrev pub all_triggered : Limits → List ℕ → List Service → Flat → Flat
all_triggered l subtype [] f = f
all_triggered l subtype (row ∷ rows) f = all_triggered l subtype rows (if_found (triggered l row) (matching row.config subtype) f)

-- the state that a raise results in
abbrev pub raised : Limits → Flat → ℕ → List ℕ → Flat
raised l f caller subtype = if raise_verdict f caller == 0 then all_triggered l subtype f.services f else f
