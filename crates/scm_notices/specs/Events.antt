-- The events of a step, and which registrations are notified of them.
use Rattle.std.specs.Prelude.{◌≡◌, ℕ, Bool, true, false, not, ◌&&◌, ◌==◌, ◌++◌, List, [], ◌∷◌, Option, None, Some, filter, find, map}
use Rattle.std.specs.Prelude.{if◌then◌else◌}
use Rattle.scm_history.specs.Once.{has_service}
use Rattle.scm_model.specs.Entries.{Entry}
use Rattle.scm_model.specs.Found.{if_found}
use Rattle.scm_model.specs.Notices.{Event, event_of_creation, event_of_leaving, event_of_mark, event_of_state, notified, pid_of}
use Rattle.scm_model.specs.Notices.{takes_event}
use Rattle.scm_model.specs.Rows.{service_of}
use Rattle.scm_model.specs.declared.calls.Request.{Request}
use Rattle.scm_model.specs.declared.calls.Request.TheVariants as request
use Rattle.scm_model.specs.declared.flat.Flat.{Flat}
use Rattle.scm_model.specs.declared.flat.Limits.{Limits}
use Rattle.scm_model.specs.declared.flat.Process.{Process}
use Rattle.scm_model.specs.declared.flat.Registration.{Registration}
use Rattle.scm_model.specs.declared.flat.Service.{Service}
use Rattle.scm_model.specs.declared.steps.Answer.{Answer}
use Rattle.scm_model.specs.declared.steps.Step.{Step}
use Rattle.scm_model.specs.declared.steps.Step.TheVariants.{Call, Gone}
use Rattle.scm_rules.specs.Steps.{Stages, stages_of}

-- ## Events between two states

-- whether a service came to another state
abbrev pub has_moved : Service → Service → Bool
has_moved old new = not (old.status.state == new.status.state)

-- whether a service was marked
abbrev pub was_marked : Service → Service → Bool
was_marked old new = not old.marked && new.marked

-- the events of a service, with its status and name after them
abbrev pub events_of_change : List Process → Service → Service → List Event
events_of_change processes old new =
    (if has_moved old new then event_of_state (pid_of processes new) new ∷ [] else [])
    ++ (if was_marked old new then event_of_mark (pid_of processes new) new ∷ [] else [])

-- a service that comes or leaves has none: those are events of the manager
abbrev pub events_of_service : List Process → Option Service → Option Service → List Event
events_of_service processes None new = []
events_of_service processes (Some old) None = []
events_of_service processes (Some old) (Some new) = events_of_change processes old new

abbrev pub event_of_arrival : Service → Event
event_of_arrival row = event_of_creation row.config.name row.status

-- the services that came, and then those that left
abbrev pub events_of_manager : Flat → Flat → List Event
events_of_manager before after =
    map event_of_arrival (filter (λ (row : Service). not (has_service row.number before)) after.services)
    ++ map event_of_leaving (filter (λ (row : Service). not (has_service row.number after)) before.services)

-- the events of a service, or of the manager as 0
abbrev pub events_between : Flat → Flat → ℕ → List Event
events_between before after service =
    if service == 0 then events_of_manager before after
    else events_of_service after.processes (service_of before service) (service_of after service)

-- ## Registrations

-- a registration is notified of the first event that it waits for
abbrev pub notified_first : List Event → Registration → Registration
notified_first events row = if_found notified (find (λ event. takes_event event row) events) row

abbrev pub notified_between : Flat → Flat → Registration → Registration
notified_between before after row = notified_first (events_between before after row.service) row

-- each registration is notified of the first event of its service between two states, and no other comes or leaves
abbrev pub Notifies : Flat → Flat → Type 0
Notifies before after = after.registrations ≡ map (notified_between before after) before.registrations

-- ## A step

-- whether a call makes a registration, takes what one was told or closes one
abbrev pub is_about_registrations : Request → Bool
is_about_registrations (request.Notify handle mask) = true
is_about_registrations (request.GetNotify handle) = true
is_about_registrations (request.CloseNotify handle) = true
is_about_registrations asked = false

-- the steps of which registrations come, change or leave by themselves
abbrev pub changes_registrations : Step → Bool
changes_registrations (Call caller asked append) = is_about_registrations asked
changes_registrations (Gone caller) = true
changes_registrations step = false

-- the events of a step, in order: of its effect, of settling, and of the purge
abbrev pub events_in : Flat → Stages → ℕ → List Event
events_in before s service =
    events_between before s.effect service ++ events_between s.effect s.settled service ++ events_between s.settled s.purged service

abbrev pub events_of_step : Limits → Flat → Entry → ℕ → List Event
events_of_step l before e service = events_in before (stages_of l before e.0 e.1) service

-- each stage of a step notifies the registrations that it finds; a step that changes registrations by itself changes no service in its
-- effect
pub record NotifiesEach (before : Flat) (step : Step) (s : Stages) : Type 0 where
  pub effect : changes_registrations step ≡ false → Notifies before s.effect
  pub services : changes_registrations step ≡ true → s.effect.services ≡ before.services
  pub settled : Notifies s.effect s.settled
  pub purged : Notifies s.settled s.purged

abbrev pub LawOfEvents : Limits → Flat → Entry → Answer → Flat → Type 0
LawOfEvents l before e told after = NotifiesEach before e.1 (stages_of l before e.0 e.1)
