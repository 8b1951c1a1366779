-- Plans that rest need no visit.
use Rattle.std.proofs.Common.{ℕ, ◌≡◌, ◌∙◌, ◌++◌, Bool, true, false, List, [], ◌∷◌, refl, sym, ap, inl, inr, ◌==◌}
use Rattle.std.specs.List.{AllByRecursion}
use Rattle.std.specs.Option.{option_to_list}
use Rattle.std.proofs.lemmas.Bool.{cases_Bool, eqb-true}
use Rattle.scm_model.specs.declared.flat.Flat.{Flat}
use Rattle.scm_model.specs.declared.flat.Limits.{Limits}
use Rattle.scm_model.specs.declared.flat.Plan.{Plan}
use Rattle.scm_model.specs.Ready.{state_of}
use Rattle.start_plan.specs.Moves.{is_pending, move_of}
use Rattle.start_plan.specs.Resting.{Rests, picked_from, picked_turn, settle_picked}
use Rattle.start_plan.specs.Settle.{Turn, Turns, all_succeeded, settle_from, settle_plan, settled, succeeded, tidied}
use Rattle.start_plan.specs.declared.settling.Move.TheVariants as moves
use Rattle.start_plan.proofs.Keeps.{keeps_turn}
use Rattle.start_plan.proofs.Plain.{after_plan}
use Rattle.start_plan.proofs.Rests.{plan_still, rests_kept, rests_succeeded}

-- those that rest go on resting when another is settled
go_on : (picked : Plan → Bool) (l : Limits) (f : Flat) (plan : Plan) (plans : List Plan)
    → AllByRecursion (λ (other : Plan). picked other ≡ false → Rests l f other) plans
    → AllByRecursion (λ (other : Plan). picked other ≡ false → Rests l (settle_plan l f plan).flat other) plans
go_on picked l f plan [] rests = tt
go_on picked l f plan (other ∷ plans) rests = (
  (λ (skipped : picked other ≡ false). keeps_turn l (λ g. Rests l g other) (rests_kept l other) f plan (rests.0 skipped)),
  go_on picked l f plan plans rests.1,
)

-- a plan's turn is as if it were picked
one_turn : (picked : Plan → Bool) (l : Limits) (f : Flat) (hosted : List ℕ) (plan : Plan) → (picked plan ≡ false → Rests l f plan)
    → picked_turn picked l f hosted plan ≡ settle_plan l f (succeeded hosted plan)
one_turn picked l f hosted plan rests =
    elim (cases_Bool (picked plan)) [
      | inl goes ↦ rw goes refl
      | inr stays ↦ rw stays (sym (plan_still l f (succeeded hosted plan) (rests_succeeded l f hosted plan (rests stays))))
    ]

abbrev picked_turned : (Plan → Bool) → Limits → List ℕ → List Plan → Turn → Turns
picked_turned picked l hosted plans turn =
    after_plan turn.plan (picked_from picked l turn.flat (hosted ++ option_to_list turn.hosted) plans)

fewer : (picked : Plan → Bool) (l : Limits) (f : Flat) (hosted : List ℕ) (plans : List Plan)
    → AllByRecursion (λ (plan : Plan). picked plan ≡ false → Rests l f plan) plans
    → picked_from picked l f hosted plans ≡ settle_from l f hosted plans
fewer picked l f hosted [] rests = refl
fewer picked l f hosted (plan ∷ plans) rests =
    let turn = settle_plan l f (succeeded hosted plan) in
    ap (picked_turned picked l hosted plans) (one_turn picked l f hosted plan rests.0)
    ∙ ap (after_plan turn.plan) (fewer picked l turn.flat (hosted ++ option_to_list turn.hosted) plans
    (go_on picked l f (succeeded hosted plan) plans rests.1))

pub enough : (picked : Plan → Bool) (l : Limits) (f : Flat) → AllByRecursion (λ (plan : Plan). picked plan ≡ false → Rests l f plan) f.plans
    → tidied (settle_picked picked l f f.plans).flat (settle_picked picked l f f.plans).plans ≡ settled l f
enough picked l f rests =
    ap (λ (end : Turns). tidied end.flat (all_succeeded end).plans) (fewer picked l f [] f.plans rests)

waits : (l : Limits) (f : Flat) (tried : List ℕ) (front : ℕ) → is_pending (state_of f front) ≡ true → move_of l f tried front ≡ moves.Waits
waits l f tried front pending =
    elim (cases_Bool (state_of f front == 4)) [
      | inl running ↦ absurd (cc (sym (ap is_pending (eqb-true (state_of f front) 4 running)) ∙ pending))
      | inr other ↦ rw (other, pending) refl
    ]

pub pending_rests : (l : Limits) (f : Flat) (plan : Plan) (front : ℕ) (rest : List ℕ) → plan.entries ≡ front ∷ rest
    → is_pending (state_of f front) ≡ true → Rests l f plan
pending_rests l f plan front rest is pending = inr (rw is (waits l f plan.tried front pending))
