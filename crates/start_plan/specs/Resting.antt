-- Plans that settling leaves as they are, and what goes to the others alone.
use Rattle.std.specs.Prelude.{ℕ, Bool, true, false, ◌≡◌, ◌⊎◌, ◌++◌, List, [], ◌∷◌, is_some, if◌then◌else◌}
use Rattle.std.specs.List.{AllByRecursion}
use Rattle.std.specs.Option.{option_to_list}
use Rattle.scm_model.specs.declared.flat.Flat.{Flat}
use Rattle.scm_model.specs.declared.flat.Limits.{Limits}
use Rattle.scm_model.specs.declared.flat.Plan.{Plan}
use Rattle.scm_model.specs.Ready.{state_of}
use Rattle.start_plan.specs.Moves.{is_pending, move_of}
use Rattle.start_plan.specs.Settle.{Turn, Turns, all_succeeded, settle_plan, settled, succeeded, tidied, unmoved}
use Rattle.start_plan.specs.declared.settling.Move.TheVariants as moves

abbrev pub RestsAt : Limits → Flat → Plan → List ℕ → Type 0
RestsAt l f plan [] = Unit {0}
RestsAt l f plan (service ∷ rest) = move_of l f plan.tried service ≡ moves.Waits

-- a plan that is decided, has no entry left, or waits
abbrev pub Rests : Limits → Flat → Plan → Type 0
Rests l f plan = (is_some plan.code ≡ true) ⊎ RestsAt l f plan plan.entries

-- a plan rests as long as the state of its front entry is about to change, whatever else changes
abbrev pub PendingRests : Type 0
PendingRests = (l : Limits) (f : Flat) (plan : Plan) (front : ℕ) (rest : List ℕ) →
    plan.entries ≡ front ∷ rest → is_pending (state_of f front) ≡ true → Rests l f plan

-- a plan's turn, if it is picked, after these services entered launched hosts
abbrev pub picked_turn : (Plan → Bool) → Limits → Flat → List ℕ → Plan → Turn
picked_turn picked l f hosted plan = if picked plan then settle_plan l f (succeeded hosted plan) else unmoved f (succeeded hosted plan)

-- the plans in order; those that aren't picked have no turn
abbrev pub picked_from : (Plan → Bool) → Limits → Flat → List ℕ → List Plan → Turns
picked_from picked l f hosted [] = record { flat = f; plans = []; hosted = hosted }
picked_from picked l f hosted (plan ∷ plans) =
    let first = picked_turn picked l f hosted plan in
    let rest = picked_from picked l first.flat (hosted ++ option_to_list first.hosted) plans in
    record { flat = rest.flat; plans = first.plan ∷ rest.plans; hosted = rest.hosted }

abbrev pub settle_picked : (Plan → Bool) → Limits → Flat → List Plan → Turns
settle_picked picked l f plans = all_succeeded (picked_from picked l f [] plans)

-- if all other plans rest, going to the picked ones has the same result as going to all
abbrev pub FewerAreEnough : Type 0
FewerAreEnough = (picked : Plan → Bool) (l : Limits) (f : Flat) →
    AllByRecursion (λ (plan : Plan). picked plan ≡ false → Rests l f plan) f.plans →
    tidied (settle_picked picked l f f.plans).flat (settle_picked picked l f f.plans).plans ≡ settled l f
