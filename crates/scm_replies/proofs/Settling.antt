-- What settling comes to in a state that was settled, when the moment moves and when a plan begins.
use Rattle.std.proofs.Common.{ℕ, ◌≡◌, ◌⊎◌, ◌∙◌, ◌==◌, Bool, true, false, cond, List, [], ◌∷◌, Option, None, Some, ap, sym, refl, subst}
use Rattle.std.proofs.Common.{eqb-true, inl, inr}
use Rattle.std.specs.Prelude.{is_some}
use Rattle.std.specs.List.{AllByRecursion}
use Rattle.scm_model.specs.declared.flat.Flat.{Flat}
use Rattle.scm_model.specs.declared.flat.Limits.{Limits}
use Rattle.scm_model.specs.declared.flat.Plan.{Plan}
use Rattle.scm_model.specs.Changes.{with_moment}
use Rattle.scm_model.specs.Ready.{state_of}
use Rattle.start_plan.specs.Entered.{with_entered}
use Rattle.start_plan.specs.Moves.{cause_of, entering_at, is_pending, move_by, move_of}
use Rattle.start_plan.specs.Settle.{Turn, Turns, hosted_at, move_code, dropped, moved, settle_entries, settle_plan, settled, tidied}
use Rattle.start_plan.specs.Settle.{unmoved, words_for}
use Rattle.start_plan.specs.declared.field.Entering.{Entering}
use Rattle.start_plan.specs.declared.field.Entering.TheVariants as entering
use Rattle.start_plan.specs.declared.settling.Move.TheVariants as moves
use Rattle.scm_runs.proofs.Rests.{Rests, RestsAt, all_still, settled_rest}
use Rattle.scm_text.specs.Numbers.{has}

-- ## A state that is settled

-- its plans rest, and it is tidied up
pub record Still (l : Limits) (f : Flat) : Type 0 where
  pub rests : AllByRecursion (Rests l f) f.plans
  pub tidy : tidied f f.plans ≡ f

pub still : (l : Limits) (f : Flat) → settled l f ≡ f → Still l f
still l f same =
    let rests : AllByRecursion (Rests l f) f.plans = subst (λ (g : Flat). AllByRecursion (Rests l g) g.plans) same (settled_rest l f) in
    record { rests = rests; tidy = sym (ap (λ (end : Turns). tidied end.flat end.plans) (all_still l f f.plans rests)) ∙ same }

-- ## What settling reads

-- what settling reads and changes of one state, and all else of another
abbrev pub over : Flat → Flat → Flat
over f g = record g {
  services = f.services;
  processes = f.processes;
  wanted = f.wanted;
  registrations = f.registrations;
  lock = f.lock;
  next = record g.next { process = f.next.process };
}

at_over : (l : Limits) (f g : Flat) (plan : Plan) (entries : List ℕ) → RestsAt l f plan entries → RestsAt l (over f g) plan entries
at_over l f g plan [] rests = tt
at_over l f g plan (x ∷ xs) rests = rests

one_over : (l : Limits) (f g : Flat) (plan : Plan) → Rests l f plan → Rests l (over f g) plan
one_over l f g plan (inl decided) = inl decided
one_over l f g plan (inr rests) = inr (at_over l f g plan plan.entries rests)

-- plans that rest do so where all else is another state's
pub still_over : (l : Limits) (f g : Flat) (plans : List Plan) → AllByRecursion (Rests l f) plans
    → AllByRecursion (Rests l (over f g)) plans
still_over l f g [] rests = tt
still_over l f g (plan ∷ plans) rests = (one_over l f g plan rests.0, still_over l f g plans rests.1)

-- it is settled at every moment
pub settled_moved : (l : Limits) (f : Flat) (moment : ℕ) → settled l f ≡ f → settled l (with_moment f moment) ≡ with_moment f moment
settled_moved l f moment same =
    let s = still l f same in
    ap (λ (end : Turns). tidied end.flat end.plans)
    (all_still l (with_moment f moment) f.plans (still_over l f (with_moment f moment) f.plans s.rests))
    ∙ ap (λ (g : Flat). with_moment g moment) s.tidy

-- ## One plan

-- a service was entered, and the plan is undecided
pub record Enters (f : Flat) (plan : Plan) (end : Turn) : Type 0 where
  pub service : ℕ
  pub flat : end.flat ≡ with_entered f service (words_for plan service)
  pub undecided : end.plan.code ≡ None
  pub hosted : end.hosted ≡ hosted_at f service

-- the state is as it was
pub record Leaves (f : Flat) (end : Turn) : Type 0 where
  pub flat : end.flat ≡ f
  pub hosted : end.hosted ≡ None

-- a plan keeps its number, its caller and its target, and enters a service or leaves the state as it is
pub record Settles (f : Flat) (plan : Plan) (end : Turn) : Type 0 where
  pub number : end.plan.number ≡ plan.number
  pub caller : end.plan.caller ≡ plan.caller
  pub target : end.plan.target ≡ plan.target
  pub state : Leaves f end ⊎ Enters f plan end

-- after an entry that is dropped
from_dropped : (f : Flat) (plan : Plan) (service : ℕ) (rest : List ℕ) (code : ℕ) (end : Turn)
    → Settles f (dropped plan service rest code) end → Settles f plan end
from_dropped f plan service rest code end is = record {
  number = is.number;
  caller = is.caller;
  target = is.target;
  state = elim is.state as (λ _. Leaves f end ⊎ Enters f plan end) [
    | inl leaves ↦ inl leaves
    | inr enters ↦ inr (record {
      service = enters.service;
      flat = enters.flat;
      undecided = enters.undecided;
      hosted = enters.hosted;
    })
  ];
}

undecided_by : (code : Option ℕ) → is_some code ≡ false → code ≡ None
undecided_by None e = refl
undecided_by (Some n) e = absurd cc

entries_settle : (l : Limits) (f : Flat) (plan : Plan) (entries : List ℕ) → Settles f plan (settle_entries l f plan entries)
entries_settle l f plan [] =
    record { number = refl; caller = refl; target = refl; state = inl (record { flat = refl; hosted = refl }) }
entries_settle l f plan (s ∷ rest) =
    elim (is_some plan.code) as (λ b. is_some plan.code ≡ b → Settles f plan
    (cond b (unmoved f plan) (moved f plan s (settle_entries l f (dropped plan s rest (move_code (move_of l f plan.tried s))) rest)
    (move_of l f plan.tried s)))) [
      | true ↦ λ e. record { number = refl; caller = refl; target = refl; state = inl (record { flat = refl; hosted = refl }) }
      | false ↦ λ undecided. elim (move_of l f plan.tried s) as (λ m. Settles f plan
          (moved f plan s (settle_entries l f (dropped plan s rest (move_code m)) rest) m)) [
            | moves.Passes ↦ from_dropped f plan s rest 0 _ (entries_settle l f (dropped plan s rest 0) rest)
            | moves.Waits ↦ record { number = refl; caller = refl; target = refl; state = inl (record { flat = refl; hosted = refl }) }
            | moves.Enters ↦ record {
              number = refl;
              caller = refl;
              target = refl;
              state = inr (record {
                service = s;
                flat = refl;
                undecided = undecided_by plan.code undecided;
                hosted = refl;
              });
            }
            | moves.Fails code ↦ from_dropped f plan s rest code _ (entries_settle l f (dropped plan s rest code) rest)
          ]
    ] refl

pub plan_settles : (l : Limits) (f : Flat) (plan : Plan) → Settles f plan (settle_plan l f plan)
plan_settles l f plan = entries_settle l f plan plan.entries

-- ## A plan whose target doesn't run

-- whether a plan succeeded
abbrev pub is_zero : Option ℕ → Bool
is_zero None = false
is_zero (Some code) = code == 0

passes_by : (a b : Bool) (e : Entering) → cond a moves.Passes (cond b moves.Waits (move_by e)) ≡ moves.Passes → a ≡ true
passes_by true b e h = refl
passes_by false true e h = absurd cc
passes_by false false entering.Yes h = absurd cc
passes_by false false entering.Locked h = absurd cc
passes_by false false (entering.No cause) h = absurd cc

some_cause : (z k : Bool) (cause code : ℕ) → (cause == 0) ≡ z
    → move_by (cond z (cond k entering.Locked entering.Yes) (entering.No cause)) ≡ moves.Fails code → (code == 0) ≡ false
some_cause true true cause code e h = absurd cc
some_cause true false cause code e h = absurd cc
some_cause false k cause code e h = let same : cause ≡ code = cc in subst (λ n. (n == 0) ≡ false) same e

fails_by : (a b k : Bool) (cause code : ℕ) → cond a moves.Passes (cond b moves.Waits (move_by (entering_at cause k))) ≡ moves.Fails code
    → (code == 0) ≡ false
fails_by true b k cause code h = absurd cc
fails_by false true k cause code h = absurd cc
fails_by false false k cause code h = some_cause (cause == 0) k cause code refl h

-- it doesn't succeed by itself
entries_fail : (l : Limits) (f : Flat) (plan : Plan) (entries : List ℕ) → (state_of f plan.target == 4) ≡ false
    → is_zero plan.code ≡ false → is_zero (settle_entries l f plan entries).plan.code ≡ false
entries_fail l f plan [] rests some = some
entries_fail l f plan (s ∷ rest) rests some =
    elim (is_some plan.code) as (λ b. is_zero (cond b (unmoved f plan) (moved f plan s
    (settle_entries l f (dropped plan s rest (move_code (move_of l f plan.tried s))) rest) (move_of l f plan.tried s))).plan.code ≡ false) [
      | true ↦ some
      | false ↦ elim (move_of l f plan.tried s) as (λ m. move_of l f plan.tried s ≡ m → is_zero (moved f plan s
          (settle_entries l f (dropped plan s rest (move_code m)) rest) m).plan.code ≡ false) [
            | moves.Passes ↦ λ e. entries_fail l f (dropped plan s rest 0) rest rests (passed (plan.target == s) refl e)
            | moves.Waits ↦ λ e. some
            | moves.Enters ↦ λ e. some
            | moves.Fails code ↦ λ e. entries_fail l f (dropped plan s rest code) rest rests (failed (plan.target == s) code e)
          ] refl
    ]
  where
    passed : (b : Bool) → (plan.target == s) ≡ b → move_of l f plan.tried s ≡ moves.Passes → is_zero (cond b (Some 0) plan.code) ≡ false
    passed true same e =
        absurd (let running = passes_by (state_of f s == 4) (is_pending (state_of f s))
        (entering_at (cause_of l f (has plan.tried s) s) (is_some f.lock)) e in
        let target : (state_of f plan.target == 4) ≡ true =
        subst (λ n. (state_of f n == 4) ≡ true) (sym (eqb-true plan.target s same)) running in
        cc)
    passed false other e = some

    failed : (b : Bool) (code : ℕ) → move_of l f plan.tried s ≡ moves.Fails code → is_zero (cond b (Some code) plan.code) ≡ false
    failed true code e = fails_by (state_of f s == 4) (is_pending (state_of f s)) (is_some f.lock)
        (cause_of l f (has plan.tried s) s) code e
    failed false code e = some

pub plan_fails : (l : Limits) (f : Flat) (plan : Plan) → (state_of f plan.target == 4) ≡ false → plan.code ≡ None
    → is_zero (settle_plan l f plan).plan.code ≡ false
plan_fails l f plan rests undecided = entries_fail l f plan plan.entries rests (ap is_zero undecided)
