-- The room of a step stays while room is made for another.
use Rattle.std.proofs.Common.{ℕ, ◌≡◌, ◌≤◌, ◌∙◌, length, List, Option, None, Some, ap, arith, subst, sym}
use Rattle.std.specs.Prelude.{IfSome}
use Rattle.scm_model.specs.declared.calls.Request.{Request}
use Rattle.scm_model.specs.declared.calls.Request.TheVariants as request
use Rattle.scm_model.specs.declared.flat.Config.{Config}
use Rattle.scm_model.specs.declared.flat.Flat.{Flat}
use Rattle.scm_model.specs.declared.steps.Step.{Step}
use Rattle.scm_model.specs.declared.steps.Step.TheVariants.{Joined, Call, Raised, Tick}
use Rattle.scm_rules.specs.Change.{asked_config}
use Rattle.scm_rules.specs.Change2.{asked_level}
use Rattle.scm_rules.specs.Create.{created_config}
use Rattle.scm_arms_process.specs.Raised.{raise_starts}
use Rattle.scm_arms_start.specs.Entries.{start_entries}
use Rattle.scm_tables.specs.Firing.{HasStarts}
use Rattle.scm_tables.specs.Promised.{KeepsRooms}
use Rattle.scm_tables.specs.Tabled.{NeedRoom, Tabled, need_room}
use Rattle.scm_tables.proofs.Promising.{keeps_all, keeps_both, keeps_fires, keeps_starts}
use Rattle.scm_core.specs.Inside.{KeepsRoom}
use Rattle.scm_core.specs.Room.{HasRoomForStep, HasRoomForCall}

-- what the tables keep, for the functions that make several rooms
pub all_stay : (t : Tabled) → KeepsRooms t t
all_stay t = keeps_all t

pub both_stay : (a b c : Tabled) → b.flat ≡ a.flat → KeepsRooms a b → KeepsRooms b c → KeepsRooms a c
both_stay a b c flat first then = keeps_both a b c flat first then

-- room for a configuration that there may be
abbrev HasNeeds : Option Config → NeedRoom → Type 0
HasNeeds config needs = IfSome config (λ (c : Config). needs ≡ need_room c)

module _ (old new : Tabled) (flat : new.flat ≡ old.flat) (keeps : KeepsRooms old new) (needs : new.spare.needs ≡ old.spare.needs) where
  has_needs : (config_in : Flat → Option Config) → HasNeeds (config_in old.flat) old.spare.needs
      → HasNeeds (config_in new.flat) new.spare.needs
  has_needs config_in has =
      subst (λ (f : Flat). HasNeeds (config_in f) new.spare.needs) (sym flat)
      (subst (HasNeeds (config_in old.flat)) (sym needs) has)

  of_call : (caller : ℕ) (asked : Request) → HasRoomForCall old caller asked → HasRoomForCall new caller asked
  of_call caller (request.Lock handle) has = omega (arith, has, keeps.handles)
  of_call caller (request.Create created) has = (
    omega (arith, has.0, keeps.handles),
    omega (arith, has.1, keeps.services),
    needs ∙ has.2 ∙ ap (λ (f : Flat). need_room (created_config f created)) (sym flat),
  )
  of_call caller (request.Change change) has = has_needs (λ f. asked_config f caller change) has
  of_call caller (request.Change2 handle asked) has = has_needs (λ f. asked_level f caller handle asked) has
  of_call caller (request.OpenManager database access) has = omega (arith, has, keeps.handles)
  of_call caller (request.OpenService handle name access) has = omega (arith, has, keeps.handles)
  of_call caller (request.Start handle words) has = (
    omega (arith, has.0, keeps.plans),
    omega (arith, has.1, keeps.dues),
    subst (λ (f : Flat). length (start_entries f caller handle words) ≤ new.spare.tried) (sym flat)
        (omega (arith, has.2, keeps.tried)),
  )
  of_call caller (request.Notify handle mask) has = (omega (arith, has.0, keeps.handles), keeps.registrations has.1)
  of_call caller asked has = tt

  of_step : (step : Step) → HasRoomForStep old step → HasRoomForStep new step
  of_step (Joined principal) has = omega (arith, has, keeps.callers)
  of_step (Call caller asked append) has = of_call caller asked has
  of_step Tick has = keeps_fires old new flat keeps has
  of_step (Raised caller subtype) has =
      subst (λ (f : Flat). HasStarts (raise_starts f caller subtype) new) (sym flat)
      (keeps_starts old new (raise_starts old.flat caller subtype) flat keeps has)
  of_step step has = tt

  pub room_stays : (room : Option Step) → KeepsRoom old room → KeepsRoom new room
  room_stays None has = tt
  room_stays (Some step) has = of_step step has
