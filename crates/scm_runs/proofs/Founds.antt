-- What holds of the effects of calls on services that were found.
use Rattle.std.proofs.Common.{ℕ, ◌≡◌, List, [], Option, None, Some, eqb-true, get_or, map, sym, ap, refl, true, ◌==◌, ◌+◌}
use Rattle.std.specs.Prelude.{All, unwrap_or, IfSome}
use Rattle.std.proofs.lemmas.List.Elements.{All-map}
use Rattle.scm_model.specs.declared.flat.Order.{Order}
use Rattle.scm_model.specs.declared.flat.Flat.{Flat}
use Rattle.scm_model.specs.declared.flat.Registration.{Registration}
use Rattle.scm_model.specs.declared.flat.Service.{Service}
use Rattle.scm_model.specs.Rows.{held_service, named}
use Rattle.scm_model.specs.Found.{if_found}
use Rattle.scm_model.proofs.Found.{found_keeps}
use Rattle.scm_rules.specs.OpenService.{open_service_done, open_service_rights, with_opened}
use Rattle.scm_rules.specs.Security.{secured_if, secured_in}
use Rattle.scm_rules.specs.Start.{start_done, with_start}
use Rattle.scm_rules.proofs.Secured.{secured_or}
use Rattle.scm_rules.specs.Named.{is_it, plan_made}
use Rattle.scm_rules.specs.Launches.{launch_told}
use Rattle.scm_rules.specs.Controls.{control_sent}
use Rattle.scm_rules.specs.Steps.{finished}
use Rattle.scm_model.specs.declared.steps.Answer.TheVariants as answer
use Rattle.scm_model.specs.Ready.{state_in}
use Rattle.scm_model.specs.Changes.{with_handle}
use Rattle.scm_model.specs.declared.flat.HandleKind.TheVariants as kinds
use Rattle.scm_model.specs.declared.flat.Opened.{Opened}
use Rattle.scm_rules.specs.Notify.{notify_done, registered, watched}

-- what holds where nothing was found, and of whatever was found
pub found_all : {A : Type 0} (P : Option A → Type 0) (found : Option A) → P None → ((one : A) → found ≡ Some one → P (Some one)) → P found
found_all P None none some = none
found_all P (Some one) none some = some one refl

-- of an OpenService what holds as it was, and with a handle of a service of that name
pub opened_keeps : (P : Flat → Type 0) (f : Flat) (caller : ℕ) (name : List ℕ) (access : ℕ) → P f
    → ((row : Service) → named f name ≡ Some row → P (with_opened caller (open_service_rights f caller name access) row f))
    → P (open_service_done f caller name access).flat
opened_keeps P f caller name access was by = found_keeps P (with_opened caller (open_service_rights f caller name access))
    (named f name) f was by

-- of a SetSecurity what holds of the services as they were, and with a security descriptor for the one that the handle is of
pub secured_keeps : (P : List Service → Type 0) (found : Option Service) (asked : Option (List ℕ)) (rows : List Service) → P rows
    → ((row : Service) (security : List ℕ) → found ≡ Some row → P (map (secured_if row.number security) rows))
    → P (if_found (secured_in found) asked rows)
secured_keeps P found None rows was by = was
secured_keeps P found (Some security) rows was by =
    found_keeps P (λ (row : Service). map (secured_if row.number security)) found rows was (λ row is. by row security is)

-- what holds of each service, and says nothing of its security descriptor
pub secured_rows : (P : Service → Type 0) → ((row : Service) (security : List ℕ) → P row → P (record row { security = security }))
    → (found : Option Service) (asked : Option (List ℕ)) (rows : List Service) → All P rows
    → All P (if_found (secured_in found) asked rows)
secured_rows P aside found asked rows all =
    secured_keeps (All P) found asked rows all
    (λ row security is. All-map P (secured_if row.number security) rows
    (λ k d lt. secured_or P row.number security (get_or rows k d) (aside (get_or rows k d) security (all k d lt)) (all k d lt)))

-- of a Start what holds as it was, and with a plan to start the service that the handle is of
pub started_keeps : (P : Flat → Type 0) (f : Flat) (caller handle : ℕ) (words : Option (List (List ℕ))) → P f
    → ((row : Service) → held_service f caller handle ≡ Some row → P (with_start caller (unwrap_or words []) row f))
    → P (start_done f caller handle words).flat
started_keeps P f caller handle words was by = found_keeps P (with_start caller (unwrap_or words []))
    (held_service f caller handle) f was by

-- of a Notify what holds with a handle more, whether or not there is what it is to watch
pub notify_keeps : (P : Flat → Type 0) (f : Flat) (caller handle mask : ℕ) → P (with_handle f caller (kinds.Notify f.next.registration) 0)
    → ((of : Opened) → watched f caller handle ≡ Some of → P (with_handle (registered f caller handle mask (Some of)) caller
    (kinds.Notify f.next.registration) 0)) → P (notify_done f caller handle mask).flat
notify_keeps P f caller handle mask without by =
    found_all (λ found. P (with_handle (registered f caller handle mask found) caller (kinds.Notify f.next.registration) 0))
    (watched f caller handle) without by

-- and what speaks of no registration
pub notify_apart : (P : Flat → Type 0) (f : Flat) (caller handle mask : ℕ)
    → ((rows : List Registration) (next : ℕ) → P (with_handle (record f {
      registrations = rows;
      next = record f.next { registration = next };
    }) caller (kinds.Notify f.next.registration) 0))
    → P (notify_done f caller handle mask).flat
notify_apart P f caller handle mask any =
    notify_keeps P f caller handle mask (any f.registrations f.next.registration)
    (λ of is. any (registered f caller handle mask (Some of)).registrations (f.next.registration + 1))

-- ## What was found

-- a number that is the one that was found
pub it_is : (number : ℕ) (found : Option ℕ) → is_it number found ≡ true → found ≡ Some number
it_is number None e = absurd cc
it_is number (Some of) e = ap (λ (n : ℕ). Some n) (sym (eqb-true number of e))

pub if_some : {A : Type 0} (P : A → Type 0) (found : Option A) → ((one : A) → found ≡ Some one → P one) → IfSome found P
if_some P None each = tt
if_some P (Some one) each = each one refl

-- ## Answers of what was taken

pub launch_is : (g : Flat) (found : Option ℕ) (number : ℕ) → found ≡ Some number
    → (finished g (launch_told found)).answer ≡ answer.Launch number
launch_is g None number e = absurd cc
launch_is g (Some one) number e = (let same : one ≡ number = cc in ap answer.Launch same)

-- taking a launch or a control begins no plan
pub launch_begins : (found : Option ℕ) → plan_made (launch_told found) ≡ None
launch_begins None = refl
launch_begins (Some process) = refl

pub control_begins : (found : Option Order) → plan_made (control_sent found) ≡ None
control_begins None = refl
control_begins (Some order) = refl

-- ## A start that is not refused

pub record IsHeld (f : Flat) (caller handle : ℕ) : Type 0 where
  pub row : Service
  pub is : held_service f caller handle ≡ Some row

pub stopped_there : (f : Flat) (caller handle : ℕ) (found : Option Service) → held_service f caller handle ≡ found
    → (state_in found == 1) ≡ true → IsHeld f caller handle
stopped_there f caller handle None e stopped = absurd cc
stopped_there f caller handle (Some row) e stopped = record { row = row; is = e }
