-- What the parts of steps make owed: starts, controls and decisions.
use Rattle.std.proofs.Common.{ℕ, ◌≡◌, ◌≤◌, ◌+◌, ◌*◌, ◌==◌, ◌||◌, Bool, true, false, cond, List, [], ◌∷◌, Some, length, map, find, eqb, ap}
use Rattle.std.proofs.Common.{refl, sym, arith, eq-eqb, eqb-true, ◌∙◌}
use Rattle.std.specs.Prelude.{All, is_some}
use Rattle.std.specs.List.{list_any}
use Rattle.std.proofs.lemmas.List.Elements.{All-weaker}
use Rattle.std.proofs.lemmas.List.{length-map}
use Rattle.scm_model.specs.declared.flat.Flat.{Flat}
use Rattle.scm_model.specs.declared.flat.Plan.{Plan}
use Rattle.scm_model.specs.declared.flat.Process.{Process}
use Rattle.scm_model.specs.declared.flat.Service.{Service}
use Rattle.scm_model.specs.Needs.{numbers_of}
use Rattle.start_plan.specs.Decided.{decided_if, decided_in}
use Rattle.scm_model.specs.Ready.{state_of}
use Rattle.start_plan.specs.Settle.{stays}
use Rattle.scm_rules.specs.Needs.{need_row, need_rows, start_order}
use Rattle.scm_rules.specs.Start.{new_plan, with_plan, with_start}
use Rattle.scm_runs.proofs.Processes.{IsOfControls}
use Rattle.scm_rules.specs.Owed.{owed, owed_by_process}
use Rattle.start_plan.specs.Owed.{owed_by_plan, owed_to, total, untried}
use Rattle.scm_owed.proofs.Fewer.{few_in_order}
use Rattle.scm_owed.proofs.Settling.{all_decided, kept_owes, total_more}
use Rattle.scm_rules.specs.Ticks.{can_start, with_restart}
use Rattle.scm_runs.proofs.Lists.{has_own, is_some-find}
use Rattle.scm_text.specs.Numbers.{has}

-- ## A start

pub listed : (rows : List Service) (n : ℕ) → is_some (find (λ (row : Service). row.number == n) rows) ≡ true
    → has (numbers_of (need_rows rows)) n ≡ true
listed [] n e = absurd cc
listed (row ∷ rows) n e =
    elim (row.number == n) as (λ b. (row.number == n) ≡ b → is_some (cond b (Some row) (find (λ (row : Service). row.number == n) rows)) ≡
    true → (eqb n row.number || has (numbers_of (need_rows rows)) n) ≡ true) [
      | true ↦ λ h g. rw (eq-eqb n row.number (sym (eqb-true row.number n h))) refl
      | false ↦ λ h g. elim (eqb n row.number) as (λ b. (b || has (numbers_of (need_rows rows)) n) ≡ true) [
        | true ↦ refl
        | false ↦ listed rows n g
      ]
    ] refl e

pub has_own_number : (rows : List Service) → All (λ (row : Service). has (numbers_of (need_rows rows)) row.number ≡ true) rows
has_own_number rows =
    All-weaker (λ (row : Service). list_any (λ (r : Service). r.number == row.number) rows ≡ true)
    (λ (row : Service). has (numbers_of (need_rows rows)) row.number ≡ true)
    (λ row own. listed rows row.number (is_some-find (λ (r : Service). r.number == row.number) rows ∙ own)) rows
    (has_own (λ (row : Service). row.number) rows)

-- a new plan has tried nothing
pub all_untried : (entries : List ℕ) → untried [] entries ≤ length entries
all_untried [] = omega arith
all_untried (e ∷ es) = let rest = all_untried es in omega (arith, rest)

pub one_at_most : (caller : ℕ) → owed_to caller ≤ 1
one_at_most caller = elim (caller == 0) as (λ b. cond b 0 1 ≤ 1) [ true ↦ omega arith | false ↦ omega arith ]

pub plan_owes : (f : Flat) (plan : Plan) → owed (with_plan f plan) ≡ owed f + owed_by_plan plan
plan_owes f plan = let more = total_more owed_by_plan f.plans plan in omega (arith, more)

-- ## Starts that no caller asks for

pub begun_owes : (f : Flat) (row : Service) → has (numbers_of (need_rows f.services)) row.number ≡ true
    → owed (with_start 0 [] row f) ≤ owed f + 3 * length f.services
begun_owes f row there =
    let order = start_order f row.number in
    let more = plan_owes f (new_plan f 0 row.number order []) in
    let few = few_in_order (need_rows f.services) (state_of f) row.number there in
    let services : length (need_rows f.services) ≡ length f.services = length-map f.services need_row in
    let each = all_untried order in
    omega (arith, more, few, services, each)

pub restart_owes : (f : Flat) (row : Service) → has (numbers_of (need_rows f.services)) row.number ≡ true
    → owed (with_restart row f) ≤ owed f + 3 * length f.services
restart_owes f row there =
    elim (can_start f row) as (λ b. owed (cond b (with_start 0 [] row f) f) ≤ owed f + 3 * length f.services)
    [ true ↦ begun_owes f row there | false ↦ omega arith ]

-- ## Controls

-- controls make nothing owed
pub controls_owe : (change : Process → Process) → IsOfControls change → (rows : List Process)
    → total owed_by_process (map change rows) ≡ total owed_by_process rows
controls_owe change only [] = refl
controls_owe change only (row ∷ rows) =
    let one = ap owed_by_process (only row) in
    let rest = controls_owe change only rows in
    omega (arith, one, rest)

-- ## Decisions

pub decision_owes : (test : Plan → Bool) (code : ℕ) (plans : List Plan)
    → total owed_by_plan (decided_in test code plans) ≤ total owed_by_plan plans
decision_owes test code plans =
    let kept = kept_owes stays (map (decided_if test code) plans) in
    let all = all_decided test code plans in
    omega (arith, kept, all)
