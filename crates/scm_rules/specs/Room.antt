-- The room that a step needs: for itself and for what it makes owed.
use Rattle.std.specs.Prelude.{ℕ, Bool, true, false, ◌+◌, ◌*◌, ◌&&◌, ◌==◌, nat_le, List, Option, None, Some, filter, is_some, length}
use Rattle.std.specs.Prelude.{if◌then◌else◌}
use Rattle.scm_model.specs.declared.codes.TheConstants.{SERVICE_TRIGGER_ACTION_SERVICE_START}
use Rattle.scm_model.specs.declared.flat.Due.{Due}
use Rattle.scm_model.specs.declared.flat.DueKind.{DueKind}
use Rattle.scm_model.specs.declared.flat.DueKind.TheVariants as dues
use Rattle.scm_model.specs.declared.flat.Service.{Service}
use Rattle.scm_model.specs.Rows.{service_of}
use Rattle.start_plan.specs.Owed.{total}
use Rattle.start_triggers.specs.Triggers.{matching}
use Rattle.scm_model.specs.declared.flat.Flat.{Flat}
use Rattle.scm_model.specs.declared.flat.Limits.{Limits}
use Rattle.scm_model.specs.declared.calls.Request.{Request}
use Rattle.scm_model.specs.declared.calls.Request.TheVariants as request
use Rattle.scm_model.specs.declared.steps.Step.{Step}
use Rattle.scm_model.specs.declared.steps.Step.TheVariants.{Joined, Call, EndStart, LaunchTaken, Launched, LaunchFailed, Ended, Tick}
use Rattle.scm_model.specs.declared.steps.Step.TheVariants.{Raised, Gone}
use Rattle.scm_model.specs.Texts.{text_of}
use Rattle.scm_rules.specs.Owed.{owed}

-- a start may bring a process for each of so many services, and is ended
abbrev pub need_of_start : ℕ → ℕ
need_of_start services = 3 * services + 2

abbrev pub need_of_call : ℕ → Request → ℕ
need_of_call services (request.Start handle words) = need_of_start services
need_of_call services asked = 1

-- what is due, or is raised, may begin a start of each service
abbrev pub need_of_starts : ℕ → ℕ
need_of_starts services = (3 * services + 1) * services + 1

-- who joins will be gone
abbrev pub need_with : ℕ → Step → ℕ
need_with services (Joined principal) = 2
need_with services (Call caller asked append) = need_of_call services asked
need_with services Tick = need_of_starts services
need_with services (Raised caller subtype) = need_of_starts services
need_with services step = 1

abbrev pub need : Flat → Step → ℕ
need f step = need_with (length f.services) step

-- the steps that are owed: each was counted when it came to be owed
abbrev pub is_owed : Step → Bool
is_owed (EndStart caller plan) = true
is_owed LaunchTaken = true
is_owed (Launched process pid) = true
is_owed (LaunchFailed process code) = true
is_owed (Ended process) = true
is_owed (Gone caller) = true
is_owed step = false

-- what a step costs beyond what was owed
abbrev pub cost : Flat → Step → ℕ
cost f step = if is_owed step then 0 else need f step

-- after so many steps with so much text there is room for one more, with all that is owed and all that it makes owed
abbrev pub has_room : Limits → Flat → (steps text : ℕ) → Step → Bool
has_room l f steps text step = nat_le (steps + owed f + need f step) l.steps && nat_le (text + text_of step) l.text

-- what a row may make owed once it is due: a start a process for each service, a command its own
abbrev pub owed_by_kind : Flat → DueKind → ℕ
owed_by_kind f (dues.Deadline plan) = 0
owed_by_kind f (dues.Start service) = if is_some (service_of f service) then 3 * length f.services else 0
owed_by_kind f (dues.Command service) = if is_some (service_of f service) then 3 else 0
owed_by_kind f (dues.Reboot service) = 0

abbrev pub owed_by_due : Flat → Due → ℕ
owed_by_due f due = owed_by_kind f due.kind

abbrev pub starts : Option ℕ → Bool
starts None = false
starts (Some action) = action == SERVICE_TRIGGER_ACTION_SERVICE_START

-- whether a trigger of a service starts it
abbrev pub is_started_at : List ℕ → Service → Bool
is_started_at subtype row = starts (matching row.config subtype)

-- what a raise may make owed: for each service that it starts a process for each
abbrev pub owed_by_raise : Flat → List ℕ → ℕ
owed_by_raise f subtype = 3 * length f.services * length (filter (is_started_at subtype) f.services)

-- how many entries a step may add and leave owed: of a tick and a raise no more than what they begin
abbrev pub debt : Flat → Step → ℕ
debt f Tick = total (owed_by_due f) f.dues + 1
debt f (Raised caller subtype) = owed_by_raise f subtype + 1
debt f step = cost f step
