-- Settling raises no count of owed steps.
use Rattle.std.proofs.Common.{ℕ, ◌≡◌, ◌+◌, ◌*◌, ◌≤◌, ◌==◌, ◌||◌, ◌&&◌, Bool, true, false, cond, List, [], ◌∷◌, ◌++◌, Some, length, filter}
use Rattle.std.proofs.Common.{eqb, map, refl, ap, arith}
use Rattle.std.specs.Prelude.{is_none, is_some}
use Rattle.std.specs.Option.{option_to_list}
use Rattle.std.proofs.lemmas.List.Folds.{list_any-append}
use Rattle.scm_model.specs.declared.flat.Flat.{Flat}
use Rattle.scm_model.specs.declared.flat.Limits.{Limits}
use Rattle.scm_model.specs.declared.flat.Plan.{Plan}
use Rattle.scm_model.specs.Rows.{service_of}
use Rattle.start_plan.specs.Decided.{aims_among, decided_if}
use Rattle.start_plan.specs.Entered.{is_shared_by, wanted_process}
use Rattle.start_plan.specs.Moves.{move_of}
use Rattle.start_plan.specs.Settle.{Turn, move_code, dropped, entered, moved, settle_all, settle_entries, settle_from, settle_plan, settled}
use Rattle.start_plan.specs.Settle.{stays, succeeded, unmoved, with_tried, words_for}
use Rattle.start_plan.specs.declared.settling.Move.TheVariants as moves
use Rattle.start_plan.proofs.Hosts.{entered_keeps}
use Rattle.start_plan.proofs.Keeps.{is_entry, keeps_all}
use Rattle.start_plan.proofs.Enterings.{all_units}
use Rattle.scm_rules.specs.Owed.{owed, owed_by_process}
use Rattle.start_plan.specs.Owed.{owed_by_plan, owed_to, total, untried}
use Rattle.scm_text.specs.Numbers.{has}

-- what the processes and a plan owe
abbrev both : Turn → ℕ
both end = total owed_by_process end.flat.processes + owed_by_plan end.plan

-- ## Untried entries

-- more was tried, fewer are left
fewer : (tried entries : List ℕ) (n : ℕ) → untried (tried ++ n ∷ []) entries ≤ untried tried entries
fewer tried [] n = omega arith
fewer tried (e ∷ es) n =
    let rest = fewer tried es n in
    rw (list_any-append (eqb e) tried (n ∷ []))
    (elim (has tried e) as (λ b. cond (b || has (n ∷ []) e) 0 1 + untried (tried ++ n ∷ []) es ≤ cond b 0 1 + untried tried es) [
      | true ↦ omega (arith, rest)
      | false ↦ elim (has (n ∷ []) e) as (λ x. cond x 0 1 + untried (tried ++ n ∷ []) es ≤ 1 + untried tried es)
          [ true ↦ omega (arith, rest) | false ↦ omega (arith, rest) ]
    ])

same_number : (m : ℕ) → eqb m m ≡ true
same_number m = grind arith

one_fewer : (tried es : List ℕ) (n : ℕ) → has tried n ≡ false → untried (tried ++ n ∷ []) (n ∷ es) + 1 ≤ untried tried (n ∷ es)
one_fewer tried es n fresh =
    let rest = fewer tried es n in
    rw (list_any-append (eqb n) tried (n ∷ []), fresh, same_number n) (omega (arith, rest))

pub total_more : {A : Type 0} (count : A → ℕ) (rows : List A) (row : A) → total count (rows ++ row ∷ []) ≡ total count rows + count row
total_more count [] row = omega arith
total_more count (r ∷ rs) row = let rest = total_more count rs row in omega (arith, rest)

-- ## A plan

dropped_owes : (plan : Plan) (s : ℕ) (rest : List ℕ) (code : ℕ) → plan.entries ≡ s ∷ rest
    → owed_by_plan (dropped plan s rest code) ≤ owed_by_plan plan
dropped_owes plan s rest code is =
    let fewer_left : untried plan.tried rest ≤ untried plan.tried (s ∷ rest) = omega arith in
    rw is
    (elim (plan.target == s) as (λ b. owed_to plan.caller + cond (is_some (cond b (Some code) plan.code)) 0
    (3 * untried plan.tried rest) ≤ owed_to plan.caller + cond (is_some plan.code) 0 (3 * untried plan.tried (s ∷ rest))) [
      | true ↦ omega arith
      | false ↦ elim (is_some plan.code) as (λ c. owed_to plan.caller + cond c 0 (3 * untried plan.tried rest) ≤ owed_to plan.caller
          + cond c 0 (3 * untried plan.tried (s ∷ rest))) [ true ↦ omega arith | false ↦ omega (arith, fewer_left) ]
    ])

entered_owes : (l : Limits) (f : Flat) (plan : Plan) (s : ℕ) (rest : List ℕ) → plan.entries ≡ s ∷ rest → is_some plan.code ≡ false
    → has plan.tried s ≡ false → both (entered f plan s) ≤ both (unmoved f plan)
entered_owes l f plan s rest left open_ fresh =
    let more = total_more owed_by_process f.processes (wanted_process f.next.process s (is_shared_by (service_of f s))) in
    let one = one_fewer plan.tried rest s fresh in
    entered_keeps (λ (g : Flat). total owed_by_process g.processes + owed_by_plan (with_tried plan s) ≤ both (unmoved f plan)) f s
    (words_for plan s) (λ none. rw (left, open_, more) (omega (arith, one))) (λ process is. rw (left, open_) (omega (arith, one)))

entries_owe : (l : Limits) (f : Flat) (plan : Plan) (entries : List ℕ) → plan.entries ≡ entries
    → both (settle_entries l f plan entries) ≤ both (unmoved f plan)
entries_owe l f plan [] is = omega arith
entries_owe l f plan (s ∷ rest) is =
    let go = λ (code : ℕ). settle_entries l f (dropped plan s rest code) rest in
    let on : (code : ℕ) → both (go code) ≤ both (unmoved f plan) = λ code. (let r = entries_owe l f (dropped plan s rest code) rest refl in
    let d = dropped_owes plan s rest code is in omega (arith, r, d)) in
    elim (is_some plan.code) as (λ b. is_some plan.code ≡ b → both (cond b (unmoved f plan)
    (moved f plan s (go (move_code (move_of l f plan.tried s))) (move_of l f plan.tried s))) ≤ both (unmoved f plan)) [
      | true ↦ λ c. omega arith
      | false ↦ λ c. elim (move_of l f plan.tried s) as (λ m. move_of l f plan.tried s ≡ m
          → both (moved f plan s (go (move_code m)) m) ≤ both (unmoved f plan)) [
            | moves.Passes ↦ λ e. on 0
            | moves.Waits ↦ λ e. omega arith
            | moves.Enters ↦ λ e. entered_owes l f plan s rest is c (is_entry l f plan.tried s e).fresh
            | moves.Fails code ↦ λ e. on code
          ] refl
    ] refl

-- ## Decisions

-- a decision makes nothing owed
decided_owes : (test : Plan → Bool) (code : ℕ) (plan : Plan) → owed_by_plan (decided_if test code plan) ≤ owed_by_plan plan
decided_owes test code plan =
    let rest = 3 * untried plan.tried plan.entries in
    elim (test plan && is_none plan.code) as (λ b. owed_to plan.caller + cond
    (is_some (cond b (Some code) plan.code)) 0 rest ≤ owed_to plan.caller + cond (is_some plan.code) 0 rest)
    [ true ↦ omega arith | false ↦ omega arith ]

pub all_decided : (test : Plan → Bool) (code : ℕ) (plans : List Plan) → total owed_by_plan
    (map (decided_if test code) plans) ≤ total owed_by_plan plans
all_decided test code [] = omega arith
all_decided test code (plan ∷ plans) = let one = decided_owes test code plan in let rest = all_decided test code plans in
    omega (arith, one, rest)

-- ## All plans

from_owe : (l : Limits) (f : Flat) (hosted : List ℕ) (plans : List Plan)
    → total owed_by_process (settle_from l f hosted plans).flat.processes + total owed_by_plan
    (settle_from l f hosted plans).plans ≤ total owed_by_process f.processes + total owed_by_plan plans
from_owe l f hosted [] = omega arith
from_owe l f hosted (plan ∷ plans) =
    let met = succeeded hosted plan in
    let turn = settle_plan l f met in
    let less = decided_owes (aims_among hosted) 0 plan in
    let one = entries_owe l f met met.entries refl in
    let rest = from_owe l turn.flat (hosted ++ option_to_list turn.hosted) plans in
    omega (arith, less, one, rest)

pub all_owe : (l : Limits) (f : Flat) (plans : List Plan)
    → total owed_by_process (settle_all l f plans).flat.processes + total owed_by_plan
    (settle_all l f plans).plans ≤ total owed_by_process f.processes + total owed_by_plan plans
all_owe l f plans =
    let end = settle_from l f [] plans in
    let all = from_owe l f [] plans in
    let less = all_decided (aims_among end.hosted) 0 end.plans in
    omega (arith, all, less)

pub kept_owes : (p : Plan → Bool) (plans : List Plan) → total owed_by_plan (filter p plans) ≤ total owed_by_plan plans
kept_owes p [] = omega arith
kept_owes p (plan ∷ plans) =
    let rest = kept_owes p plans in
    elim (p plan) as (λ b. total owed_by_plan (cond b (plan ∷ filter p plans) (filter p plans)) ≤ owed_by_plan plan
    + total owed_by_plan plans) [ true ↦ omega (arith, rest) | false ↦ omega (arith, rest) ]

same_callers : (l : Limits) (f : Flat) (plans : List Plan) → (settle_all l f plans).flat.callers ≡ f.callers
same_callers l f plans =
    (keeps_all l (λ g. g.callers ≡ f.callers) (λ plan. Unit {0}) (record {
      enters = λ g plan s words entry p. p;
      tries = λ g plan s entry q. tt;
      drops = λ plan s rest code q. tt;
      meets = λ plan services q. tt;
    }) f plans refl (all_units plans)).flat

pub settles_owed : (l : Limits) (f : Flat) → owed (settled l f) ≤ owed f
settles_owed l f =
    let all = all_owe l f f.plans in
    let kept = kept_owes stays (settle_all l f f.plans).plans in
    let callers = ap length (same_callers l f f.plans) in
    omega (arith, all, kept, callers)
