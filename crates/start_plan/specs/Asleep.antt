-- Plans that sleep: each is left alone until the state of its front entry changes.
use Rattle.std.specs.Prelude.{ℕ, Bool, false, not, ◌&&◌, ◌≡◌, ◌==◌, ◌++◌, IsTrue, List, [], ◌∷◌, if◌then◌else◌, filter, find, map}
use Rattle.std.specs.Prelude.{set, take}
use Rattle.std.specs.List.{AllByRecursion}
use Rattle.std.specs.Option.{option_to_list}
use Rattle.scm_model.specs.declared.flat.Flat.{Flat}
use Rattle.scm_model.specs.declared.flat.Limits.{Limits}
use Rattle.scm_model.specs.declared.flat.Plan.{Plan}
use Rattle.scm_model.specs.declared.flat.Service.{Service}
use Rattle.scm_model.specs.Ready.{state_in}
use Rattle.start_plan.specs.Decided.{decided_if}
use Rattle.start_plan.specs.Moves.{is_pending}
use Rattle.start_plan.specs.Settle.{Turn, settle_plan, succeeded}
use Rattle.start_plan.specs.declared.slot.PlanSlot.{PlanSlot}
use Rattle.scm_text.specs.Numbers.{has}

abbrev pub plans_in : List PlanSlot → List Plan
plans_in slots = map (λ (slot : PlanSlot). slot.row) slots

-- the service that a plan sleeps for: its front entry
abbrev pub awaited_by : PlanSlot → List ℕ
awaited_by slot = if slot.is_blocked then take 1 slot.row.entries else []

-- the services that plans sleep for
abbrev pub awaited_in : List PlanSlot → List ℕ
awaited_in [] = []
awaited_in (slot ∷ slots) = awaited_by slot ++ awaited_in slots

-- the state of a service is about to change
abbrev pub IsPending : List Service → ℕ → Type 0
IsPending services number = IsTrue (is_pending (state_in (find (λ (row : Service). row.number == number) services)))

abbrev pub ArePending : List Service → List ℕ → Type 0
ArePending services numbers = AllByRecursion (IsPending services) numbers

-- each of some numbers is among others
abbrev pub AreAmong : List ℕ → List ℕ → Type 0
AreAmong others numbers = AllByRecursion (λ number. IsTrue (has others number)) numbers

abbrev pub all_but : ℕ → List ℕ → List ℕ
all_but service numbers = filter (λ number. not (number == service)) numbers

-- ## Changes

abbrev pub is_front : ℕ → List ℕ → Bool
is_front service [] = false
is_front service (entry ∷ entries) = entry == service

-- a plan that sleeps for this service is woken
abbrev pub woken : ℕ → PlanSlot → PlanSlot
woken service slot = record slot { is_blocked = slot.is_blocked && not (is_front service slot.row.entries) }

abbrev pub runnable : PlanSlot → PlanSlot
runnable slot = record slot { is_blocked = false }

abbrev pub decided_slot : (Plan → Bool) → ℕ → PlanSlot → PlanSlot
decided_slot test code slot = record slot { row = decided_if test code slot.row }

-- ## Turns

-- the plans after the turn of the one at a place: those succeed that aim at the service that it entered into a launched host
abbrev pub after_turn : Turn → ℕ → List Plan → List Plan
after_turn turn place plans = map (succeeded (option_to_list turn.hosted)) (set plans place turn.plan)

-- a plan had its turn
pub record TakesTurn (l : Limits) (before after : Flat) (place : ℕ) (old new : List Plan) (plan : Plan) : Type 0 where
  pub flat : after ≡ (settle_plan l before plan).flat
  pub plans : new ≡ after_turn (settle_plan l before plan) place old
