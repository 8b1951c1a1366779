-- RDeleteService: a service is marked.
use Rattle.std.specs.Prelude.{ℕ, Bool, true, false, List, [], ◌∷◌, Option, None, Some, is_none, map, option_map}
use Rattle.scm_model.specs.declared.flat.Flat.{Flat}
use Rattle.scm_model.specs.declared.flat.Process.{Process}
use Rattle.scm_model.specs.declared.flat.Registration.{Registration}
use Rattle.scm_model.specs.declared.flat.Service.{Service}
use Rattle.scm_model.specs.declared.steps.Change.{Change}
use Rattle.scm_model.specs.declared.steps.Change.TheVariants.{Removed}
use Rattle.scm_model.specs.declared.steps.Kept.{Kept}
use Rattle.scm_model.specs.declared.steps.Kept.TheVariants as appended
use Rattle.scm_model.specs.declared.calls.Reply.TheVariants as reply
use Rattle.scm_model.specs.Found.{if_found}
use Rattle.scm_model.specs.Notices.{event_of_mark, noted, pid_of}
use Rattle.scm_model.specs.Rows.{held_service, opened}
use Rattle.scm_model.specs.Changes.{marked_if}
use Rattle.scm_model.specs.Refused.{first_refusal, Refusals, outcome}
use Rattle.scm_model.specs.Outcomes.{CallResult}
use Rattle.scm_model.specs.declared.codes.TheConstants.{DELETE, ERROR_ACCESS_DENIED, ERROR_CANTWRITE, ERROR_INVALID_HANDLE}
use Rattle.scm_model.specs.declared.codes.TheConstants.{ERROR_SERVICE_MARKED_FOR_DELETE}
use Rattle.scm_rules.specs.Rights.{lacks}
use Rattle.scm_model.specs.declared.calls.Request.TheVariants as request

abbrev pub is_marked : Option Service → Bool
is_marked None = false
is_marked (Some row) = row.marked

-- whether the change could not be kept
abbrev pub is_failed : Kept → Bool
is_failed appended.NotAsked = false
is_failed appended.Kept = false
is_failed appended.Failed = true

-- whatever makes a change is refused at last where that could not be kept
abbrev pub keeping_refusals : Kept → Refusals
keeping_refusals append = (is_failed append, ERROR_CANTWRITE) ∷ []

-- what it is refused with, in this order
abbrev pub delete_refusals : Flat → ℕ → ℕ → Kept → Refusals
delete_refusals f caller handle append =
    (is_none (opened f caller handle), ERROR_INVALID_HANDLE)
    ∷ (lacks (opened f caller handle) DELETE, ERROR_ACCESS_DENIED)
    ∷ (is_marked (held_service f caller handle), ERROR_SERVICE_MARKED_FOR_DELETE)
    ∷ (is_failed append, ERROR_CANTWRITE)
    ∷ []

abbrev pub delete_verdict : Flat → ℕ → ℕ → Kept → ℕ
delete_verdict f caller handle append = first_refusal (delete_refusals f caller handle append)

-- the services with a mark on the one that was found
abbrev pub marked_in : Option Service → List Service → List Service
marked_in = if_found (λ row. map (marked_if row.number))

-- registrations are notified of the mark
abbrev pub told_of_mark : List Process → Option Service → List Registration → List Registration
told_of_mark processes = if_found (λ row. noted (event_of_mark (pid_of processes row) row))

abbrev pub delete_done : Flat → ℕ → ℕ → CallResult
delete_done f caller handle = record {
  reply = reply.Code 0;
  flat = record f {
    services = marked_in (held_service f caller handle) f.services;
    registrations = told_of_mark f.processes (held_service f caller handle) f.registrations;
  };
}

-- the change that the removal of a service is
abbrev pub removal_of : Service → Change
removal_of row = Removed row.config.name

-- the change of a Delete that is not refused
abbrev pub delete_change : Flat → ℕ → ℕ → Option Change
delete_change f caller handle = option_map removal_of (held_service f caller handle)

abbrev pub delete_outcome : Flat → ℕ → ℕ → Kept → CallResult
delete_outcome f caller handle append = outcome (delete_verdict f caller handle append) (request.Delete handle) f
    (delete_done f caller handle)
