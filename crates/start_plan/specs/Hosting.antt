-- Services that enter launched hosts while plans are settled.
use Rattle.std.specs.Prelude.{ℕ, Bool, ◌≡◌, ◌⊎◌, ◌≤◌, ◌++◌, ◌&&◌, ◌==◌, not, true, List, [], ◌∷◌, None, is_some, map}
use Rattle.std.specs.List.{AllByRecursion, AllZip, list_any}
use Rattle.std.specs.Option.{option_to_list}
use Rattle.scm_model.specs.declared.flat.Flat.{Flat}
use Rattle.scm_model.specs.declared.flat.Limits.{Limits}
use Rattle.scm_model.specs.declared.flat.Plan.{Plan}
use Rattle.scm_model.specs.declared.flat.Service.{Service}
use Rattle.scm_model.specs.declared.codes.TheConstants.{SERVICE_STOPPED}
use Rattle.scm_model.specs.Processes.{process_of}
use Rattle.scm_text.specs.Numbers.{has}
use Rattle.start_plan.specs.Hosts.{is_sharing, offers}
use Rattle.start_plan.specs.Settle.{Turns, all_succeeded, settle_all, settle_from, settle_plan, settled, succeeded}
use Rattle.start_plan.specs.Started.{IsOnce}

-- a plan that aims at one of these services is decided
abbrev pub IsDecidedAmong : List ℕ → Plan → Type 0
IsDecidedAmong services plan = has services plan.target ≡ true → is_some plan.code ≡ true

-- each plan is decided that aims at a service that entered a launched host
abbrev pub DecidesTheHosted : Type 0
DecidesTheHosted = (l : Limits) (f : Flat) (plans : List Plan) →
    AllByRecursion (IsDecidedAmong (settle_all l f plans).hosted) (settle_all l f plans).plans

-- ## Whose process a service enters

-- whether another service of this one's path lives in its process, and offers it
abbrev pub is_beside : Flat → Service → Service → Bool
is_beside f row other = not (other.number == row.number) && other.process == row.process && offers f row.config.path other

-- a service lives in its host: in the shared process of another service of its path
pub record IsHosted (f : Flat) (row : Service) : Type 0 where
  pub sharing : is_sharing row ≡ true
  pub beside : list_any (is_beside f row) f.services ≡ true

-- a service is as it was, has a new process, from this number on, or is in its host
abbrev pub HasOwnOrHost : ℕ → Flat → Service → Service → Type 0
HasOwnOrHost next f before after = (after ≡ before) ⊎ ((next ≤ after.process) ⊎ IsHosted f after)

-- STOPPED services have no process, and no process has the number 0
pub record HaveNone (f : Flat) : Type 0 where
  pub stopped : AllByRecursion (λ (row : Service). row.status.state ≡ SERVICE_STOPPED → row.process ≡ 0) f.services
  pub zero : process_of f 0 ≡ None
  pub next : 1 ≤ f.next.process

-- settling enters a service by a new process or by its host
abbrev pub EntersItsHost : Type 0
EntersItsHost = (l : Limits) (f : Flat) → IsOnce f.services → HaveNone f
    → AllZip (HasOwnOrHost f.next.process (settled l f)) f.services (settled l f).services

-- ## Turn by turn

-- where settling these plans leads, after others had their turn
abbrev pub settle_rest : Limits → Flat → List Plan → List Plan → Turns
settle_rest l f done plans =
    let end = settle_from l f [] plans in all_succeeded (record { flat = end.flat; plans = done ++ end.plans; hosted = end.hosted })

-- the services that entered launched hosts before stand before those that settling the rest adds
abbrev pub after_those : List ℕ → Turns → Turns
after_those hosted end = record { flat = end.flat; plans = end.plans; hosted = hosted ++ end.hosted }

-- once a service enters a launched host in a plan's turn, all plans that aim at it succeed at once, those that had their turn too
abbrev pub DecidesAtOnce : Type 0
DecidesAtOnce = (l : Limits) (f : Flat) (done : List Plan) (plan : Plan) (plans : List Plan) →
    let turn = settle_plan l f plan in
    let hosted = option_to_list turn.hosted in
    settle_rest l f done (plan ∷ plans) ≡ after_those hosted
    (settle_rest l turn.flat (map (succeeded hosted) (done ++ turn.plan ∷ [])) (map (succeeded hosted) plans))
