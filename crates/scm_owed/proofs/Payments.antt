-- What an owed step pays.
use Rattle.std.proofs.Common.{ℕ, ◌≡◌, ◌≤◌, ◌<◌, ◌+◌, ◌==◌, Bool, true, false, not, cond, zero, suc, List, [], ◌∷◌, Option, None, Some}
use Rattle.std.proofs.Common.{length, map, filter, find, get_or, refl, sym, ap, subst, arith, eq-eqb, eqb-true, ne_eqb}
use Rattle.std.specs.Prelude.{All, AllPairs, is_some, option_map}
use Rattle.std.proofs.lemmas.List.Folds.{list_any_none}
use Rattle.scm_model.specs.declared.flat.Caller.{Caller}
use Rattle.scm_model.specs.declared.flat.Flat.{Flat}
use Rattle.scm_model.specs.declared.flat.Limits.{Limits}
use Rattle.scm_model.specs.declared.flat.Phase.{Phase}
use Rattle.scm_model.specs.declared.flat.Phase.TheVariants as phases
use Rattle.scm_model.specs.declared.flat.Plan.{Plan}
use Rattle.scm_model.specs.declared.flat.Process.{Process}
use Rattle.scm_model.specs.declared.flat.Wanted.{Wanted}
use Rattle.scm_model.specs.declared.steps.Step.{Step}
use Rattle.scm_model.specs.declared.steps.Step.TheVariants.{EndStart, LaunchTaken, Launched, LaunchFailed, Report, Ended, ControlTaken}
use Rattle.scm_model.specs.declared.steps.Step.TheVariants.{Gone, Joined, Call, Tick, Raised, NoMemory}
use Rattle.scm_model.specs.Rows.{is_caller}
use Rattle.start_plan.specs.Decided.{aims_among, plan_caller, code_of, is_numbered, without_plan}
use Rattle.scm_rules.specs.Launches.{currents, currents_in, first_wanted, is_launched, is_taken, launched_if, process_of, taken_if}
use Rattle.scm_rules.specs.Launches.{with_fallen, without_process}
use Rattle.scm_rules.specs.Start.{can_end, is_caller_of}
use Rattle.scm_rules.specs.Steps.{at_moment, effect_of, wants_launch, may}
use Rattle.scm_rules.specs.Valid.{AreNumbered, has_process, is_to_launch}
use Rattle.scm_runs.proofs.Processes.{is_there, number_of, process_in}
use Rattle.scm_runs.proofs.Sound.{Sound}
use Rattle.scm_rules.specs.Owed.{owed, owed_by_process, owed_in_phase}
use Rattle.start_plan.specs.Owed.{owed_by_plan, owed_to, total}
use Rattle.scm_rules.specs.Room.{is_owed}
use Rattle.scm_owed.proofs.Settling.{kept_owes}
use Rattle.std.proofs.lemmas.Bool.{and_parts}
use Rattle.scm_runs.proofs.Wanted.{taken_listed}
use Rattle.scm_model.specs.Found.{if_found}
use Rattle.scm_owed.proofs.Starts.{decision_owes}
use Rattle.scm_runs.proofs.Failing.{all_failing_apart}
use Rattle.scm_model.specs.declared.codes.TheConstants.{ERROR_PROCESS_ABORTED}
use Rattle.scm_model.specs.Changes.{with_moment}

-- ## A launch that is taken

abbrev Rising : List Process → Type 0
Rising rows = AllPairs (λ (a b : Process). a.number < b.number) rows

-- those behind a row have other numbers
others : (row : Process) (rows : List Process) (n : ℕ) → Rising (row ∷ rows) → (row.number == n) ≡ true
    → All (λ (x : Process). (x.number == n) ≡ false) rows
others row rows n rising same k d lt =
    ne_eqb (get_or rows k d).number n (λ there. absurd (
    let here = eqb-true row.number n same in
    let up : row.number < (get_or rows k d).number = rising 0 (suc k) d (omega arith) (omega arith) in
    omega arith))

-- who stands behind a row has another number than it
apart : (row : Process) (rows : List Process) (n : ℕ) → Rising (row ∷ rows) → has_process rows n ≡ true → (row.number == n) ≡ false
apart row rows n rising there =
    elim (row.number == n) as (λ b. (row.number == n) ≡ b → b ≡ false) [
      | true ↦ λ e. absurd (let none = list_any_none (λ (x : Process). x.number == n) rows (others row rows n rising e) in cc)
      | false ↦ λ e. refl
    ] refl

behind : (row : Process) (rows : List Process) → Rising (row ∷ rows) → Rising rows
behind row rows rising i j d lt within = rising (suc i) (suc j) d (omega arith) (omega arith)

-- a launch that is taken of nobody here
untouched : (n : ℕ) (rows : List Process) → All (λ (x : Process). (x.number == n) ≡ false) rows
    → total owed_by_process (map (taken_if n) rows) ≡ total owed_by_process rows
untouched n [] all = refl
untouched n (row ∷ rows) all =
    let rest = untouched n rows (λ k d lt. all (suc k) d (omega (arith, lt))) in
    let one = ap (λ b. owed_by_process (cond b (record row { phase = phases.Taken }) row)) (all zero row (omega arith)) in
    omega (arith, rest, one)

wanted_owes : (row : Process) → is_to_launch row ≡ true → owed_by_process row ≡ 3
wanted_owes row e = by_phase row.phase e
  where
    by_phase : (p : Phase) → is_to_launch (record row { phase = p }) ≡ true → owed_in_phase p ≡ 3
    by_phase phases.Wanted e = refl
    by_phase phases.Taken e = absurd cc
    by_phase phases.Launched e = absurd cc

head_is : (n m : ℕ) (ns ms : List ℕ) → n ∷ ns ≡ m ∷ ms → n ≡ m
head_is n m ns ms e = cc

taken_pays : (n : ℕ) (ns : List ℕ) (rows : List Process) → Rising rows → n ∷ ns ≡ map number_of (filter is_to_launch rows)
    → total owed_by_process (map (taken_if n) rows) + 1 ≤ total owed_by_process rows
taken_pays n ns [] rising e = absurd cc
taken_pays n ns (row ∷ rows) rising e =
    elim (is_to_launch row) as (λ b. is_to_launch row ≡ b → n ∷ ns ≡ map number_of
    (cond b (row ∷ filter is_to_launch rows) (filter is_to_launch rows)) → total owed_by_process (map (taken_if n) (row ∷ rows))
    + 1 ≤ total owed_by_process (row ∷ rows)) [
      | true ↦ λ w g.
          let same = eq-eqb row.number n (sym (head_is n row.number ns (map number_of (filter is_to_launch rows)) g)) in
          let one = ap (λ b. owed_by_process (cond b (record row { phase = phases.Taken }) row)) same in
          let three = wanted_owes row w in
          let rest = untouched n rows (others row rows n rising same) in
          omega (arith, one, three, rest)
      | false ↦ λ w g.
          let other = apart row rows n rising (is_there n ns rows g) in
          let one = ap (λ b. owed_by_process (cond b (record row { phase = phases.Taken }) row)) other in
          let rest = taken_pays n ns rows (behind row rows rising) g in
          omega (arith, one, rest)
    ] refl e

first_pays : (launching : List Wanted) (rows : List Process) → Rising rows
    → map process_in launching ≡ map number_of (filter is_to_launch rows) → wants_launch launching ≡ true
    → total owed_by_process (if_found (λ process. map (taken_if process)) (first_wanted launching) rows) + 1 ≤ total owed_by_process rows
first_pays [] rows rising e is = absurd cc
first_pays (row ∷ more) rows rising e is = taken_pays row.process (map process_in more) rows rising e

-- ## A launch that succeeds or fails

in_phase_least : (p : Phase) → 1 ≤ owed_in_phase p
in_phase_least phases.Wanted = omega arith
in_phase_least phases.Taken = omega arith
in_phase_least phases.Launched = omega arith

launched_least : (n pid : ℕ) (rows : List Process) → total owed_by_process (map (launched_if n pid) rows) ≤ total owed_by_process rows
launched_least n pid [] = omega arith
launched_least n pid (row ∷ rows) =
    let rest = launched_least n pid rows in
    let least = in_phase_least row.phase in
    elim (row.number == n) as (λ b. owed_by_process (cond b (record row { phase = phases.Launched; pid = pid }) row)
    + total owed_by_process (map (launched_if n pid) rows) ≤ owed_by_process row + total owed_by_process rows)
    [ true ↦ omega (arith, rest, least) | false ↦ omega (arith, rest) ]

taken_owes : (row : Process) → is_taken (Some row) ≡ true → owed_by_process row ≡ 2
taken_owes row e = by_phase row.phase e
  where
    by_phase : (p : Phase) → is_taken (Some (record row { phase = p })) ≡ true → owed_in_phase p ≡ 2
    by_phase phases.Wanted e = absurd cc
    by_phase phases.Taken e = refl
    by_phase phases.Launched e = absurd cc

launched_pays : (n pid : ℕ) (rows : List Process) → is_taken (find (λ (row : Process). row.number == n) rows) ≡ true
    → total owed_by_process (map (launched_if n pid) rows) + 1 ≤ total owed_by_process rows
launched_pays n pid [] e = absurd cc
launched_pays n pid (row ∷ rows) e =
    elim (row.number == n) as (λ b. (row.number == n) ≡ b → is_taken (cond b (Some row) (find (λ (row : Process). row.number == n) rows)) ≡
    true
    → owed_by_process (cond b (record row { phase = phases.Launched; pid = pid }) row)
    + total owed_by_process (map (launched_if n pid) rows) + 1 ≤ owed_by_process row + total owed_by_process rows) [
      | true ↦ λ h g. let two = taken_owes row g in let rest = launched_least n pid rows in omega (arith, two, rest)
      | false ↦ λ h g. let rest = launched_pays n pid rows g in omega (arith, rest)
    ] refl e

kept_least : (p : Process → Bool) (rows : List Process) → total owed_by_process (filter p rows) ≤ total owed_by_process rows
kept_least p [] = omega arith
kept_least p (row ∷ rows) =
    let rest = kept_least p rows in
    elim (p row) as (λ b. total owed_by_process (cond b (row ∷ filter p rows) (filter p rows)) ≤ owed_by_process row
    + total owed_by_process rows) [ true ↦ omega (arith, rest) | false ↦ omega (arith, rest) ]

-- whoever is listed owes, and pays where it leaves
left_pays : (n : ℕ) (rows : List Process) → is_some (find (λ (row : Process). row.number == n) rows) ≡ true
    → total owed_by_process (filter (λ (row : Process). not (row.number == n)) rows) + 1 ≤ total owed_by_process rows
left_pays n [] e = absurd cc
left_pays n (row ∷ rows) e =
    elim (row.number == n) as (λ b. (row.number == n) ≡ b → is_some (cond b (Some row) (find (λ (row : Process). row.number == n) rows)) ≡
    true
    → total owed_by_process (cond (not b) (row ∷ filter (λ (row : Process). not (row.number == n)) rows)
    (filter (λ (row : Process). not (row.number == n)) rows)) + 1 ≤ owed_by_process row + total owed_by_process rows) [
      | true ↦ λ h g. let least = in_phase_least row.phase in let rest = kept_least (λ (row : Process). not (row.number == n)) rows in
          omega (arith, least, rest)
      | false ↦ λ h g. let rest = left_pays n rows g in omega (arith, rest)
    ] refl e

running_listed : (found : Option Process) → is_launched found ≡ true → is_some found ≡ true
running_listed None e = absurd cc
running_listed (Some row) e = refl

-- ## A caller that goes

fewer_callers : (p : Caller → Bool) (rows : List Caller) → length (filter p rows) ≤ length rows
fewer_callers p [] = omega arith
fewer_callers p (row ∷ rows) =
    let rest = fewer_callers p rows in
    elim (p row) as (λ b. length (cond b (row ∷ filter p rows) (filter p rows)) ≤ length (row ∷ rows)) [
      | true ↦ omega (arith, rest)
      | false ↦ omega (arith, rest)
    ]

gone_pays : (n : ℕ) (rows : List Caller) → is_some (find (λ (row : Caller). row.number == n) rows) ≡ true
    → length (filter (λ (row : Caller). not (row.number == n)) rows) + 1 ≤ length rows
gone_pays n [] e = absurd cc
gone_pays n (row ∷ rows) e =
    elim (row.number == n) as (λ b. is_some (cond b (Some row) (find (λ (row : Caller). row.number == n) rows)) ≡ true
    → length (cond (not b) (row ∷ filter (λ (row : Caller). not (row.number == n)) rows)
    (filter (λ (row : Caller). not (row.number == n)) rows)) + 1 ≤ length (row ∷ rows)) [
      | true ↦ λ g. let rest = fewer_callers (λ (row : Caller). not (row.number == n)) rows in omega (arith, rest)
      | false ↦ λ g. let rest = gone_pays n rows g in omega (arith, rest)
    ] e

-- ## A start that ends

somebody : (c : ℕ) → 1 ≤ c → owed_to c ≡ 1
somebody c least = ap (λ b. cond b 0 1) (ne_eqb c 0 (λ zero_is. absurd (omega arith)))

ended_pays : (n c : ℕ) (plans : List Plan) → 1 ≤ c → is_caller_of (plan_caller plans n) c ≡ true → total owed_by_plan (without_plan plans n)
    + 1 ≤ total owed_by_plan plans
ended_pays n c [] least e = absurd cc
ended_pays n c (plan ∷ plans) least e =
    elim (plan.number == n) as (λ b. (plan.number == n) ≡ b → is_caller_of
    (option_map (λ (plan : Plan). plan.caller) (cond b (Some plan) (find (is_numbered n) plans))) c ≡ true
    → total owed_by_plan (cond (not b) (plan ∷ without_plan plans n) (without_plan plans n)) + 1 ≤ owed_by_plan plan
    + total owed_by_plan plans) [
      | true ↦ λ h g.
          let one = subst (λ x. owed_to x ≡ 1) (sym (eqb-true plan.caller c g)) (somebody c least) in
          let rest = kept_owes (λ (plan : Plan). not (is_numbered n plan)) plans in
          omega (arith, one, rest)
      | false ↦ λ h g. let rest = ended_pays n c plans least g in omega (arith, rest)
    ] refl e

-- a caller that is there has a number
positive : (n next : ℕ) (rows : List Caller) → AreNumbered (λ (row : Caller). row.number) next rows
    → is_some (find (λ (row : Caller). row.number == n) rows) ≡ true → 1 ≤ n
positive n next rows numbered e = at rows numbered.positive e
  where
    at : (rs : List Caller) → All (λ (row : Caller). 1 ≤ row.number) rs → is_some (find (λ (row : Caller). row.number == n) rs) ≡ true
        → 1 ≤ n
    at [] all g = absurd cc
    at (r ∷ rs) all g =
        elim (r.number == n) as (λ b. (r.number == n) ≡ b → is_some (cond b (Some r) (find (λ (row : Caller). row.number == n) rs)) ≡ true
        → 1 ≤ n) [
          | true ↦ λ h x. (let least = all zero r (omega arith) in let is = eqb-true r.number n h in omega arith)
          | false ↦ λ h x. at rs (λ k d lt. all (suc k) d (omega (arith, lt))) x
        ] refl g

-- ## Owed steps

pub owed_steps_pay : (l : Limits) (f : Flat) (moment : ℕ) (step : Step) → Sound f → may l f moment step ≡ true → is_owed step ≡ true
    → owed (effect_of l (at_moment f moment step) step).flat + 1 ≤ owed f
owed_steps_pay l f moment (EndStart caller plan) s ok e =
    let came = (and_parts _ _ ok).0 in
    let least = positive caller f.next.caller f.callers s.handles.callers (and_parts _ _ came).0 in
    let pays : total owed_by_plan (without_plan f.plans plan) + 1 ≤ total owed_by_plan f.plans = ended_pays plan caller f.plans least
    (and_parts (is_caller_of (plan_caller f.plans plan) caller) (is_some (code_of f.plans plan))
    (and_parts (is_caller f caller) (can_end f caller plan) came).1).0 in
    omega (arith, pays)
owed_steps_pay l f moment LaunchTaken s ok e =
    let pays = first_pays f.wanted f.processes s.processes.numbered.rising s.processes.wanted (and_parts _ _ ok).0 in
    omega (arith, pays)
owed_steps_pay l f moment (Launched process pid) s ok e =
    let pays = launched_pays process pid f.processes (and_parts _ _ ok).0 in
    let decided = decision_owes (aims_among (currents_in process f.services)) 0 f.plans in
    omega (arith, pays, decided)
owed_steps_pay l f moment (LaunchFailed process code) s ok e =
    let pays = left_pays process f.processes (taken_listed (process_of f process) (and_parts _ _ (and_parts _ _ ok).0).0) in
    let decided = decision_owes (aims_among (currents_in process f.services)) code f.plans in
    omega (arith, pays, decided)
owed_steps_pay l f moment (Ended process) s ok e =
    let pays = left_pays process f.processes (running_listed (process_of f process) (and_parts _ _ ok).0) in
    let same = all_failing_apart (λ (g : Flat). owed (without_process g process) ≡ owed (without_process f process))
    (currents process f.services)
    (with_fallen (with_moment f moment) process ERROR_PROCESS_ABORTED) refl in
    omega (arith, pays, same)
owed_steps_pay l f moment (Gone caller) s ok e =
    let pays = gone_pays caller f.callers (and_parts _ _ ok).0 in
    let plans = kept_owes (λ (plan : Plan). not (plan.caller == caller)) f.plans in
    omega (arith, pays, plans)
owed_steps_pay l f moment (Joined principal) s ok e = absurd cc
owed_steps_pay l f moment (Call caller asked append) s ok e = absurd cc
owed_steps_pay l f moment (Report process service status) s ok e = absurd cc
owed_steps_pay l f moment (ControlTaken process) s ok e = absurd cc
owed_steps_pay l f moment Tick s ok e = absurd cc
owed_steps_pay l f moment (Raised caller subtype) s ok e = absurd cc
owed_steps_pay l f moment (NoMemory caller) s ok e = absurd cc
