-- What was settled is settled: settling again changes nothing.
use Rattle.std.proofs.Common.{ℕ, ◌≡◌, ◌⊎◌, ◌∙◌, ◌==◌, ◌&&◌, Bool, true, false, cond, List, [], ◌∷◌, ◌++◌, Option, None, Some, refl, ap}
use Rattle.std.proofs.Common.{find}
use Rattle.std.proofs.Common.{map, filter, inl, inr, arith}
use Rattle.std.specs.Prelude.{is_none, is_some}
use Rattle.std.specs.List.{AllByRecursion}
use Rattle.std.specs.Option.{option_to_list}
use Rattle.std.proofs.lemmas.Bool.{eq-eqb}
use Rattle.scm_model.specs.declared.flat.Flat.{Flat}
use Rattle.scm_model.specs.declared.flat.Limits.{Limits}
use Rattle.scm_model.specs.declared.flat.Plan.{Plan}
use Rattle.scm_model.specs.declared.flat.Due.{Due}
use Rattle.scm_model.specs.declared.flat.Service.{Service}
use Rattle.start_plan.specs.Entered.{process_for, started_if, starting_in, with_entered}
use Rattle.start_plan.specs.Hosts.{host}
use Rattle.start_plan.specs.Moves.{cause_of, entering_at, is_pending, move_by, move_of}
use Rattle.scm_model.specs.Ready.{state_in, state_of}
use Rattle.start_plan.specs.Resting.{Rests, RestsAt}
use Rattle.start_plan.specs.Settle.{Turns, all_succeeded, dropped, is_due_still, move_code, moved, settle_all, settle_entries, settle_from}
use Rattle.start_plan.specs.Settle.{settle_plan, settled, stays, succeeded, tidied, unmoved, words_for}
use Rattle.start_plan.specs.declared.field.Entering.{Entering}
use Rattle.start_plan.specs.declared.field.Entering.TheVariants as entering
use Rattle.start_plan.specs.declared.settling.Move.TheVariants as moves
use Rattle.start_plan.proofs.Keeps.{Keeps, IsEntry, all_filter, all_succeed, is_entry, keeps_state, was_stopped}
use Rattle.start_plan.proofs.Rows.{same_number, started_or}
use Rattle.start_plan.proofs.Slots.{awaited_decided, plans_succeeded}
use Rattle.scm_text.specs.Numbers.{has}

-- ## States after an entering

pub state_after : (n p x : ℕ) (rows : List Service) → (state_in (find (λ (row : Service). row.number == x) rows) ≡ 1)
    ⊎ (state_in (find (λ (row : Service). row.number == x) (map (started_if n p) rows)) ≡ state_in
    (find (λ (row : Service). row.number == x) rows))
state_after n p x [] = inr refl
state_after n p x (row ∷ rows) =
    rw (same_number n p row) (elim (row.number == x) as (λ b. (state_in
    (cond b (Some row) (find (λ (row : Service). row.number == x) rows)) ≡ 1)
    ⊎ (state_in (cond b (Some (started_if n p row)) (find (λ (row : Service). row.number == x) (map (started_if n p) rows))) ≡ state_in
    (cond b (Some row) (find (λ (row : Service). row.number == x) rows)))) [
      | true ↦ started_or (λ new. (row.status.state ≡ 1) ⊎ (new.status.state ≡ row.status.state)) n p row (λ e. inl e) (inr refl)
      | false ↦ state_after n p x rows
    ])

entered_state : (n p : ℕ) (rows : List Service) → state_in (find (λ (row : Service). row.number == n) rows) ≡ 1
    → state_in (find (λ (row : Service). row.number == n) (map (started_if n p) rows)) ≡ 2
entered_state n p [] h = absurd (omega (arith, h))
entered_state n p (row ∷ rows) h =
    rw (same_number n p row) (elim (row.number == n) as (λ b. state_in (cond b (Some row)
    (find (λ (row : Service). row.number == n) rows)) ≡ 1
    → state_in (cond b (Some (cond (b && row.status.state == 1) (starting_in p row) row))
    (find (λ (row : Service). row.number == n) (map (started_if n p) rows))) ≡ 2) [
      | true ↦ λ h. rw (eq-eqb row.status.state 1 h) refl
      | false ↦ λ h. entered_state n p rows h
    ] h)

-- ## Waiting

-- the ways to wait
waits_by : (a b : Bool) (e : Entering) → cond a moves.Passes (cond b moves.Waits (move_by e)) ≡ moves.Waits → ((a ≡ false) × (b ≡ true))
    ⊎ (e ≡ entering.Locked)
waits_by true b e h = absurd cc
waits_by false true e h = inl (refl, refl)
waits_by false false entering.Yes h = absurd cc
waits_by false false entering.Locked h = inr refl
waits_by false false (entering.No cause) h = absurd cc

held_by : (z k : Bool) (cause : ℕ) → cond z (cond k entering.Locked entering.Yes) (entering.No cause) ≡ entering.Locked → k ≡ true
held_by true true cause h = refl
held_by true false cause h = absurd cc
held_by false k cause h = absurd cc

waits_kept : (l : Limits) (f : Flat) (n : ℕ) (words : List (List ℕ)) (tried tried' : List ℕ) (x : ℕ) → IsEntry l f tried' n
    → move_of l f tried x ≡ moves.Waits → move_of l (with_entered f n words) tried x ≡ moves.Waits
waits_kept l f n words tried tried' x entry waits =
    elim (waits_by (state_of f x == 4) (is_pending (state_of f x)) (entering_at (cause_of l f (has tried x) x) (is_some f.lock))
    waits) as (λ _. move_of l (with_entered f n words) tried x ≡ moves.Waits) [
      | inr locked ↦
          let yes = held_by (cause_of l f (has tried x) x == 0) (is_some f.lock) (cause_of l f (has tried x) x) locked in
          let no = entry.free in
          absurd cc
      | inl pending ↦
          elim (state_after n (process_for f (host f n)) x f.services) as (λ _. move_of l (with_entered f n words) tried x ≡ moves.Waits) [
            | inl stopped ↦ let yes : is_pending 1 ≡ true = rw stopped at pending.1 in absurd cc
            | inr same ↦ rw (same, pending.0, pending.1) refl
          ]
    ]

at_kept : (l : Limits) (f : Flat) (n : ℕ) (words : List (List ℕ)) (plan : Plan) (entries tried : List ℕ) → IsEntry l f tried n
    → RestsAt l f plan entries → RestsAt l (with_entered f n words) plan entries
at_kept l f n words plan [] tried entry rests = tt
at_kept l f n words plan (x ∷ xs) tried entry rests = waits_kept l f n words plan.tried tried x entry rests

-- a plan that rests goes on resting
pub rests_kept : (l : Limits) (plan : Plan) → Keeps l (λ f. Rests l f plan) (λ plan. Unit {0})
rests_kept l plan = record {
  enters = λ f other n words entry rests. elim rests as (λ _. Rests l (with_entered f n words) plan) [
    | inl decided ↦ inl decided
    | inr waits ↦ inr (at_kept l f n words plan plan.entries other.tried entry waits)
  ];
  tries = λ f plan n entry q. tt;
  drops = λ plan n rest code q. tt;
  meets = λ plan services q. tt;
}

-- ## A plan that was settled rests

now_waits : (l : Limits) (f : Flat) (n : ℕ) (words : List (List ℕ)) (tried : List ℕ) → state_of f n ≡ 1
    → move_of l (with_entered f n words) tried n ≡ moves.Waits
now_waits l f n words tried stopped = rw (entered_state n (process_for f (host f n)) f.services stopped) refl

entries_rest : (l : Limits) (f : Flat) (plan : Plan) (entries : List ℕ) → plan.entries ≡ entries
    → Rests l (settle_entries l f plan entries).flat (settle_entries l f plan entries).plan
entries_rest l f plan [] e = inr (rw e tt)
entries_rest l f plan (s ∷ rest) e =
    elim (is_some plan.code) as (λ b. is_some plan.code ≡ b → Rests l (cond b (unmoved f plan)
    (moved f plan s (settle_entries l f (dropped plan s rest (move_code (move_of l f plan.tried s))) rest)
    (move_of l f plan.tried s))).flat
    (cond b (unmoved f plan) (moved f plan s (settle_entries l f (dropped plan s rest (move_code (move_of l f plan.tried s))) rest)
    (move_of l f plan.tried s))).plan) [
      | true ↦ λ decided. inl decided
      | false ↦ λ undecided. elim (move_of l f plan.tried s) as (λ m. move_of l f plan.tried s ≡ m
          → Rests l (moved f plan s (settle_entries l f (dropped plan s rest (move_code m)) rest) m).flat
          (moved f plan s (settle_entries l f (dropped plan s rest (move_code m)) rest) m).plan) [
            | moves.Passes ↦ λ h. entries_rest l f (dropped plan s rest 0) rest refl
            | moves.Waits ↦ λ h. inr (rw e h)
            | moves.Enters ↦ λ h. inr (rw e (now_waits l f s (words_for plan s) (plan.tried ++ s ∷ [])
                (was_stopped l f plan.tried s (is_entry l f plan.tried s h))))
            | moves.Fails code ↦ λ h. entries_rest l f (dropped plan s rest code) rest refl
          ] refl
    ] refl

plan_rests : (l : Limits) (f : Flat) (plan : Plan) → Rests l (settle_plan l f plan).flat (settle_plan l f plan).plan
plan_rests l f plan = entries_rest l f plan plan.entries refl

from_rest : (l : Limits) (f : Flat) (hosted : List ℕ) (plans : List Plan)
    → AllByRecursion (Rests l (settle_from l f hosted plans).flat) (settle_from l f hosted plans).plans
from_rest l f hosted [] = tt
from_rest l f hosted (plan ∷ plans) =
    let turn = settle_plan l f (succeeded hosted plan) in
    let after = hosted ++ option_to_list turn.hosted in (
      keeps_state l (λ g. Rests l g turn.plan) (rests_kept l turn.plan) turn.flat after plans (plan_rests l f (succeeded hosted plan)),
      from_rest l turn.flat after plans,
    )

pub still_decided : (b : Bool) (code : Option ℕ) → is_some code ≡ true → is_some (cond (b && is_none code) (Some 0) code) ≡ true
still_decided b None e = absurd cc
still_decided true (Some c) e = refl
still_decided false (Some c) e = refl

-- a decision leaves a plan at rest
pub rests_succeeded : (l : Limits) (f : Flat) (services : List ℕ) (plan : Plan) → Rests l f plan → Rests l f (succeeded services plan)
rests_succeeded l f services plan (inr waits) = inr waits
rests_succeeded l f services plan (inl decided) = inl (still_decided (has services plan.target) plan.code decided)

all_rest : (l : Limits) (f : Flat) (plans : List Plan) → AllByRecursion (Rests l (settle_all l f plans).flat) (settle_all l f plans).plans
all_rest l f plans =
    let end = settle_from l f [] plans in
    all_succeed (Rests l end.flat) (λ plan services. rests_succeeded l end.flat services plan) end.hosted end.plans (from_rest l f [] plans)

-- ## What rests is settled

pub entries_still : (l : Limits) (f : Flat) (plan : Plan) (entries : List ℕ) → (is_some plan.code ≡ true) ⊎ RestsAt l f plan entries
    → settle_entries l f plan entries ≡ unmoved f plan
entries_still l f plan [] rests = refl
entries_still l f plan (x ∷ xs) (inl decided) = rw decided refl
entries_still l f plan (x ∷ xs) (inr waits) =
    elim (is_some plan.code) as (λ b. cond b (unmoved f plan) (moved f plan x (settle_entries l f
    (dropped plan x xs (move_code (move_of l f plan.tried x))) xs) (move_of l f plan.tried x)) ≡ unmoved f plan) [
      | true ↦ refl
      | false ↦ rw waits refl
    ]

pub plan_still : (l : Limits) (f : Flat) (plan : Plan) → Rests l f plan → settle_plan l f plan ≡ unmoved f plan
plan_still l f plan rests = entries_still l f plan plan.entries rests

-- plans at rest, that don't aim at what was hosted before
pub from_still : (l : Limits) (f : Flat) (plans : List Plan) → AllByRecursion (Rests l f) plans
    → settle_from l f [] plans ≡ record { flat = f; plans = plans; hosted = [] }
from_still l f [] rests = refl
from_still l f (plan ∷ plans) rests = rw (plan_still l f plan rests.0, from_still l f plans rests.1) refl

pub none_succeeded : (plans : List Plan) → map (succeeded []) plans ≡ plans
none_succeeded [] = refl
none_succeeded (plan ∷ plans) = ap (λ others. plan ∷ others) (none_succeeded plans)

pub ruleset decided_slots = (plans_succeeded, awaited_decided, none_succeeded)

pub all_still : (l : Limits) (f : Flat) (plans : List Plan) → AllByRecursion (Rests l f) plans
    → settle_all l f plans ≡ record { flat = f; plans = plans; hosted = [] }
all_still l f plans rests =
    ap all_succeeded (from_still l f plans rests)
    ∙ ap (λ (others : List Plan). record { flat = f; plans = others; hosted = [] }) (none_succeeded plans)

filter_twice : {A : Type 0} (p : A → Bool) (xs : List A) → filter p (filter p xs) ≡ filter p xs
filter_twice p [] = refl
filter_twice p (x ∷ xs) =
    elim (p x) as (λ b. p x ≡ b → filter p (cond b (x ∷ filter p xs) (filter p xs)) ≡ cond b (x ∷ filter p xs) (filter p xs)) [
      | true ↦ λ e. rw e (ap (λ y. x ∷ y) (filter_twice p xs))
      | false ↦ λ e. filter_twice p xs
    ] refl

-- resting doesn't depend on the plans or the due rows of the state
at_tidied : (l : Limits) (f : Flat) (plans : List Plan) (plan : Plan) (entries : List ℕ) → RestsAt l f plan entries
    → RestsAt l (tidied f plans) plan entries
at_tidied l f plans plan [] rests = tt
at_tidied l f plans plan (x ∷ xs) rests = rests

one_tidied : (l : Limits) (f : Flat) (plans : List Plan) (plan : Plan) → Rests l f plan → Rests l (tidied f plans) plan
one_tidied l f plans plan (inl decided) = inl decided
one_tidied l f plans plan (inr rests) = inr (at_tidied l f plans plan plan.entries rests)

rests_tidied : (l : Limits) (f : Flat) (all plans : List Plan) → AllByRecursion (Rests l f) plans
    → AllByRecursion (Rests l (tidied f all)) plans
rests_tidied l f all [] rests = tt
rests_tidied l f all (plan ∷ plans) rests = (one_tidied l f all plan rests.0, rests_tidied l f all plans rests.1)

-- what was tidied stays so
tidied_twice : (f : Flat) (plans : List Plan) → tidied (tidied f plans) (filter stays plans) ≡ tidied f plans
tidied_twice f plans =
    let g = tidied f plans in
    ap (λ kept. record g { plans = kept; dues = filter (λ (due : Due). is_due_still kept due.kind) g.dues }) (filter_twice stays plans)
    ∙ ap (λ dues. record g { dues = dues }) (filter_twice (λ (due : Due). is_due_still (filter stays plans) due.kind) f.dues)

-- the plans of a settled state rest
pub settled_rest : (l : Limits) (f : Flat) → AllByRecursion (Rests l (settled l f)) (settled l f).plans
settled_rest l f =
    let end = settle_all l f f.plans in
    rests_tidied l end.flat end.plans (filter stays end.plans) (all_filter (Rests l end.flat) stays end.plans (all_rest l f f.plans))

-- settling again changes nothing
pub settled_twice : (l : Limits) (f : Flat) → settled l (settled l f) ≡ settled l f
settled_twice l f =
    let end = settle_all l f f.plans in
    ap (λ (end : Turns). tidied end.flat end.plans) (all_still l (settled l f) (settled l f).plans (settled_rest l f))
    ∙ tidied_twice end.flat end.plans
