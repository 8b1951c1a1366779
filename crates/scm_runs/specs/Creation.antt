-- The service that a creation adds, and no other.
use Rattle.std.specs.Prelude.{Bool, ◌≡◌, true, false, List, [], ◌∷◌, filter, is_none}
use Rattle.scm_model.specs.declared.codes.TheConstants.{ERROR_SERVICE_NEVER_STARTED, SERVICE_STOPPED}
use Rattle.scm_model.specs.declared.flat.Flat.{Flat}
use Rattle.scm_model.specs.declared.flat.Service.{Service}
use Rattle.scm_model.specs.declared.calls.NewService.{NewService}
use Rattle.scm_model.specs.declared.calls.Request.TheVariants as request
use Rattle.scm_model.specs.declared.steps.Answer.{Answer}
use Rattle.scm_model.specs.declared.steps.Step.{Step}
use Rattle.scm_model.specs.declared.steps.Step.TheVariants.{Call}
use Rattle.scm_model.specs.Changes.{new_service}
use Rattle.scm_model.specs.Entries.{Entry}
use Rattle.scm_model.specs.Rows.{service_of}
use Rattle.scm_rules.specs.Create.{created_config, new_status}
use Rattle.scm_runs.specs.Leaving.{succeeds}

-- whether no service had this one's number before
abbrev pub is_new : Flat → Service → Bool
is_new before row = is_none (service_of before row.number)

abbrev pub new_services : Flat → Flat → List Service
new_services before after = filter (is_new before) after.services

-- the service that was asked for: it has its name and its configuration, and was never started
pub record IsAskedFor (before : Flat) (new : NewService) (row : Service) : Type 0 where
  pub is : row ≡ new_service before.next.service (created_config before new) (new_status new.kind)
  pub name : row.config.name ≡ new.name
  pub state : row.status.state ≡ SERVICE_STOPPED
  pub code : row.status.win32 ≡ ERROR_SERVICE_NEVER_STARTED

-- one service is new, the one that was asked for
pub record AddsOne (before : Flat) (new : NewService) (after : Flat) : Type 0 where
  pub row : Service
  pub alone : new_services before after ≡ row ∷ []
  pub asked : IsAskedFor before new row

-- a creation adds that service where it has code 0, and none where it is refused
pub record IsCreation (before : Flat) (new : NewService) (told : Answer) (after : Flat)
    : Type 0 where
  pub adds : succeeds told ≡ true → AddsOne before new after
  pub refused : succeeds told ≡ false → new_services before after ≡ []

-- any other step adds no service
abbrev pub AddsAsked : Flat → Step → Answer → Flat → Type 0
AddsAsked before (Call caller (request.Create new) append) told after =
    IsCreation before new told after
AddsAsked before step told after = new_services before after ≡ []

abbrev pub LawOfCreation : Flat → Entry → Answer → Flat → Type 0
LawOfCreation before e told after = AddsAsked before e.1 told after
