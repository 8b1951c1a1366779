-- Which calls go by what was made for them, and what those that only read come to.
use Rattle.std.proofs.Common.{ℕ, Bool, true, false, List, Option, ◌≡◌, ◌≢◌, ◌==◌, cond, refl}
use Rattle.std.proofs.lemmas.Bool.{false≢true}
use Rattle.std.specs.Prelude.{IsTrue}
use Rattle.scm_model.specs.declared.calls.ChangeService.{ChangeService}
use Rattle.scm_model.specs.declared.calls.Info.{Info}
use Rattle.scm_model.specs.declared.calls.NewService.{NewService}
use Rattle.scm_model.specs.declared.calls.Request.{Request}
use Rattle.scm_model.specs.declared.calls.Request.TheVariants as request
use Rattle.scm_model.specs.declared.calls.Reply.{Reply}
use Rattle.scm_model.specs.declared.flat.Flat.{Flat}
use Rattle.scm_model.specs.declared.flat.Limits.{Limits}
use Rattle.scm_model.specs.declared.flat.Status.{Status}
use Rattle.scm_model.specs.declared.steps.Kept.{Kept}
use Rattle.scm_model.specs.declared.steps.Step.TheVariants.{Call}
use Rattle.scm_model.specs.Outcomes.{CallResult}
use Rattle.scm_model.specs.Refused.{answered}
use Rattle.scm_rules.specs.EnumDependents.{enum_dependents_done, enum_dependents_told, enum_dependents_verdict}
use Rattle.scm_rules.specs.EnumServices.{enum_services_done, enum_services_told, enum_services_verdict}
use Rattle.scm_rules.specs.OtherName.{display_by_name, name_by_display, other_name_done, other_name_told, other_name_verdict}
use Rattle.scm_rules.specs.QueryConfig.{query_config_done, query_config_told, query_config_verdict}
use Rattle.scm_rules.specs.QueryConfig2.{query_config2_done, query_config2_told, query_config2_verdict}
use Rattle.scm_rules.specs.QueryStatusEx.{query_ex_done, query_ex_told, query_ex_verdict}
use Rattle.scm_rules.specs.Locks.{query_lock_done, query_lock_told, query_lock_verdict}
use Rattle.scm_rules.specs.Security.{query_security_done, query_security_told, query_security_verdict}
use Rattle.scm_rules.specs.Steps.{effect_of}
use Rattle.scm_core.specs.Room.{uses_made}

-- it is none of the calls that need nothing made
pub record IsNoPlain (asked : Request) : Type 0 where
  pub close : (handle : ℕ) → asked ≢ request.Close handle
  pub control : (handle : ℕ) (control : ℕ) → asked ≢ request.Control handle control
  pub delete : (handle : ℕ) → asked ≢ request.Delete handle
  pub lock : (handle : ℕ) → asked ≢ request.Lock handle
  pub query_status : (handle : ℕ) → asked ≢ request.QueryStatus handle
  pub set_status : (handle : ℕ) (status : Status) → asked ≢ request.SetStatus handle status
  pub unlock : (handle : ℕ) → asked ≢ request.Unlock handle
  pub open_manager : (database : Option (List ℕ)) (access : ℕ) → asked ≢ request.OpenManager database access
  pub open_service : (handle : ℕ) (name : List ℕ) (access : ℕ) → asked ≢ request.OpenService handle name access
  pub notify : (handle : ℕ) (mask : ℕ) → asked ≢ request.Notify handle mask
  pub get_notify : (handle : ℕ) → asked ≢ request.GetNotify handle
  pub close_notify : (handle : ℕ) → asked ≢ request.CloseNotify handle

pub uses : (asked : Request) → IsNoPlain asked → IsTrue (uses_made asked)
uses (request.Close handle) other = absurd (other.close handle refl)
uses (request.Control handle control) other = absurd (other.control handle control refl)
uses (request.Delete handle) other = absurd (other.delete handle refl)
uses (request.Lock handle) other = absurd (other.lock handle refl)
uses (request.QueryStatus handle) other = absurd (other.query_status handle refl)
uses (request.SetStatus handle status) other = absurd (other.set_status handle status refl)
uses (request.Unlock handle) other = absurd (other.unlock handle refl)
uses (request.OpenManager database access) other = absurd (other.open_manager database access refl)
uses (request.OpenService handle name access) other = absurd (other.open_service handle name access refl)
uses (request.Notify handle mask) other = absurd (other.notify handle mask refl)
uses (request.GetNotify handle) other = absurd (other.get_notify handle refl)
uses (request.CloseNotify handle) other = absurd (other.close_notify handle refl)
uses asked other = refl

-- it is none of the calls that go by what was made for them
pub record IsNoMade (asked : Request) : Type 0 where
  pub change : (change : ChangeService) → asked ≢ request.Change change
  pub change2 : (handle : ℕ) (info : Info) → asked ≢ request.Change2 handle info
  pub create : (new : NewService) → asked ≢ request.Create new
  pub query_lock : (handle : ℕ) (size : ℕ) → asked ≢ request.QueryLock handle size
  pub start : (handle : ℕ) (words : Option (List (List ℕ))) → asked ≢ request.Start handle words
  pub query_config : (handle : ℕ) (size : ℕ) → asked ≢ request.QueryConfig handle size
  pub display_name : (handle : ℕ) (name : List ℕ) (size : ℕ) → asked ≢ request.DisplayName handle name size
  pub key_name : (handle : ℕ) (name : List ℕ) (size : ℕ) → asked ≢ request.KeyName handle name size
  pub enum_dependents : (handle : ℕ) (states : ℕ) (size : ℕ) → asked ≢ request.EnumDependents handle states size
  pub enum_services : (handle : ℕ) (kinds : ℕ) (states : ℕ) (size : ℕ) (resume : Option ℕ)
      → asked ≢ request.EnumServices handle kinds states size resume
  pub query_config2 : (handle : ℕ) (level : ℕ) (size : ℕ) → asked ≢ request.QueryConfig2 handle level size
  pub query_status_ex : (handle : ℕ) (level : ℕ) (size : ℕ) → asked ≢ request.QueryStatusEx handle level size
  pub query_security : (handle : ℕ) (parts : ℕ) (size : ℕ) → asked ≢ request.QuerySecurity handle parts size
  pub set_security : (handle : ℕ) (parts : ℕ) (bytes : List ℕ) → asked ≢ request.SetSecurity handle parts bytes

pub no_other : (asked : Request) → IsTrue (uses_made asked) → IsNoMade asked → ⊥
no_other (request.Change change) made other = other.change change refl
no_other (request.Change2 handle info) made other = other.change2 handle info refl
no_other (request.Create new) made other = other.create new refl
no_other (request.QueryLock handle size) made other = other.query_lock handle size refl
no_other (request.Start handle words) made other = other.start handle words refl
no_other (request.QueryConfig handle size) made other = other.query_config handle size refl
no_other (request.DisplayName handle name size) made other = other.display_name handle name size refl
no_other (request.KeyName handle name size) made other = other.key_name handle name size refl
no_other (request.EnumDependents handle states size) made other = other.enum_dependents handle states size refl
no_other (request.EnumServices handle kinds states size resume) made other = other.enum_services handle kinds states size resume refl
no_other (request.QueryConfig2 handle level size) made other = other.query_config2 handle level size refl
no_other (request.QueryStatusEx handle level size) made other = other.query_status_ex handle level size refl
no_other (request.QuerySecurity handle parts size) made other = other.query_security handle parts size refl
no_other (request.SetSecurity handle parts bytes) made other = other.set_security handle parts bytes refl
no_other asked made other = false≢true made

-- ## The calls that only read

-- the state that a call which changes nothing leaves
pub stays : (code : ℕ) (told done : Reply) (f : Flat) → f ≡ (answered code told f (record { reply = done; flat = f })).flat
stays code told done f =
    elim (code == 0) as (λ b. f ≡ (cond {A = CallResult} b (record { reply = done; flat = f }) (record { reply = told; flat = f })).flat) [
      | true ↦ refl
      | false ↦ refl
    ]

-- the reply was made for it
abbrev pub only_reads : Request → Bool
only_reads (request.QueryConfig handle size) = true
only_reads (request.DisplayName handle name size) = true
only_reads (request.KeyName handle name size) = true
only_reads (request.EnumDependents handle states size) = true
only_reads (request.EnumServices handle kinds states size resume) = true
only_reads (request.QueryConfig2 handle level size) = true
only_reads (request.QueryStatusEx handle level size) = true
only_reads (request.QuerySecurity handle parts size) = true
only_reads asked = false

pub read_flat : (l : Limits) (f : Flat) (caller : ℕ) (asked : Request) (append : Kept) → IsTrue (only_reads asked)
    → f ≡ (effect_of l f (Call caller asked append)).flat
read_flat l f caller (request.QueryConfig handle size) append reads =
    let code = query_config_verdict f caller handle size in
    stays code (query_config_told f caller handle code) (query_config_done f caller handle).reply f
read_flat l f caller (request.DisplayName handle name size) append reads =
    let code = other_name_verdict f caller handle size (display_by_name f name) in
    stays code (other_name_told (display_by_name f name) code) (other_name_done f (display_by_name f name)).reply f
read_flat l f caller (request.KeyName handle name size) append reads =
    let code = other_name_verdict f caller handle size (name_by_display f name) in
    stays code (other_name_told (name_by_display f name) code) (other_name_done f (name_by_display f name)).reply f
read_flat l f caller (request.EnumDependents handle states size) append reads =
    let code = enum_dependents_verdict f caller handle states size in
    stays code (enum_dependents_told f caller handle states size code) (enum_dependents_done f caller handle states size).reply f
read_flat l f caller (request.EnumServices handle kinds states size resume) append reads =
    let code = enum_services_verdict f caller handle kinds states size resume in
    stays code (enum_services_told f kinds states size resume code) (enum_services_done f kinds states size resume).reply f
read_flat l f caller (request.QueryConfig2 handle level size) append reads =
    let code = query_config2_verdict f caller handle level size in
    stays code (query_config2_told f caller handle level size code) (query_config2_done f caller handle level size).reply f
read_flat l f caller (request.QueryStatusEx handle level size) append reads =
    let code = query_ex_verdict f caller handle level size in
    stays code (query_ex_told size code) (query_ex_done f caller handle size).reply f
read_flat l f caller (request.QuerySecurity handle parts size) append reads =
    let code = query_security_verdict f caller handle parts size in
    stays code (query_security_told f caller handle parts size code) (query_security_done f caller handle parts size).reply f
read_flat l f caller asked append reads = absurd (false≢true reads)

pub lock_flat : (l : Limits) (f : Flat) (caller handle size : ℕ) (append : Kept)
    → f ≡ (effect_of l f (Call caller (request.QueryLock handle size) append)).flat
lock_flat l f caller handle size append =
    let code = query_lock_verdict f caller handle size in
    stays code (query_lock_told f code) (query_lock_done f).reply f
