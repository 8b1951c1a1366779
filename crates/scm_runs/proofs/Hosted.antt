-- Services that live in shared processes: they aren't STOPPED, so they don't leave.
use Rattle.std.proofs.Common.{ℕ, ◌≡◌, ◌∙◌, ◌==◌, ◌||◌, ◌&&◌, ◌≤◌, Bool, true, false, not, cond, List, [], ◌∷◌, None}
use Rattle.std.proofs.Common.{filter, find, ap, sym, refl, arith, eqb-true, eq-eqb, ne_eqb, get_or}
use Rattle.std.specs.Prelude.{All}
use Rattle.std.specs.List.{list_any}
use Rattle.std.proofs.lemmas.List.Elements.{All-from_recursion, All-head, All-tail, recursion_from_All}
use Rattle.std.specs.Cmp.Lexicographic.{pointwise}
use Rattle.dependency_index.proofs.Lists.{or_right}
use Rattle.scm_model.specs.declared.flat.Flat.{Flat}
use Rattle.scm_model.specs.declared.flat.Process.{Process}
use Rattle.scm_model.specs.declared.flat.Service.{Service}
use Rattle.scm_model.specs.Processes.{is_shared, process_of}
use Rattle.scm_model.specs.Purge.{leaves, purged}
use Rattle.start_plan.specs.Hosting.{HaveNone, IsHosted, is_beside}
use Rattle.start_plan.proofs.Hosting.{last_of}
use Rattle.start_plan.specs.Hosts.{is_sharing}
use Rattle.scm_runs.proofs.Sound.{Sound}

-- ## Who has no process

-- no process has the number 0
pub zero_none : (rows : List Process) → All (λ (row : Process). 1 ≤ row.number) rows → find (λ (row : Process). row.number == 0) rows ≡ None
zero_none [] above = refl
zero_none (row ∷ rows) above =
    let first = All-head (λ (r : Process). 1 ≤ r.number) row rows above in
    rw (ne_eqb row.number 0 (λ e. absurd (omega (arith, e, first)))) (zero_none rows
    (All-tail (λ (r : Process). 1 ≤ r.number) row rows above))

-- in each state STOPPED services have no process, and no process has the number 0
pub have_none : (f : Flat) → Sound f → HaveNone f
have_none f s = record {
  stopped = recursion_from_All (λ (row : Service). row.status.state ≡ 1 → row.process ≡ 0) f.services
      (λ k d lt stopped. (let row = get_or f.services k d in
      eqb-true row.process 0 (sym (s.services.stopped k d lt) ∙ eq-eqb row.status.state 1 stopped)));
  zero = zero_none f.processes s.processes.numbered.positive;
  next = s.services.first_process;
}

-- ## Who stays

pub last_true : (a b c : Bool) → (a && b && c) ≡ true → c ≡ true
last_true true true true h = refl
last_true true true false h = absurd cc
last_true true false c h = absurd cc
last_true false b c h = absurd cc

stays_by : (m h : Bool) (state : ℕ) → (state == 1) ≡ false → not (m && state == 1 && h) ≡ true
stays_by true h state running = rw running refl
stays_by false h state running = refl

-- who lives in a shared process isn't STOPPED
pub lives_stays : (g : Flat) (row : Service) → process_of g 0 ≡ None → (row.status.state ≡ 1 → row.process ≡ 0)
    → is_shared (process_of g row.process) ≡ true → not (leaves g.handles row) ≡ true
lives_stays g row zero none shared =
    stays_by row.marked _ row.status.state (ne_eqb row.status.state 1 (λ stopped. absurd (let one =
    sym (ap (λ n. is_shared (process_of g n)) (none stopped) ∙ ap is_shared zero) ∙ shared in cc)))

-- whoever has its process beside this one stays
beside_stays : (g : Flat) (row : Service) (rows : List Service) → process_of g 0 ≡ None
    → All (λ (other : Service). other.status.state ≡ 1 → other.process ≡ 0) rows → list_any (is_beside g row) rows ≡ true
    → list_any (is_beside g row) (filter (λ (other : Service). not (leaves g.handles other)) rows) ≡ true
beside_stays g row [] zero none is = absurd cc
beside_stays g row (other ∷ rows) zero none is =
    let p = is_beside g row in
    let q = λ (one : Service). not (leaves g.handles one) in
    let here = All-head (λ (one : Service). one.status.state ≡ 1 → one.process ≡ 0) other rows none in
    let rest = beside_stays g row rows zero (All-tail (λ (one : Service). one.status.state ≡ 1 → one.process ≡ 0) other rows none) in
    elim (p other) as (λ b. p other ≡ b → (b || list_any p rows) ≡ true
    → list_any p (cond (q other) (other ∷ filter q rows) (filter q rows)) ≡ true) [
      | true ↦ λ e h. (let stay : q other ≡ true = lives_stays g other zero here (last_of (not (other.number == row.number))
          (other.process == row.process) (is_sharing other) (pointwise ◌==◌ other.config.path row.config.path)
          (is_shared (process_of g other.process)) e) in rw (stay, e) refl)
      | false ↦ λ e h. elim (q other) as (λ b. list_any p (cond b (other ∷ filter q rows) (filter q rows)) ≡ true)
          [ true ↦ or_right (p other) (list_any p (filter q rows)) (rest h) | false ↦ rest h ]
    ] refl is

-- a service lives in its host when others left
pub hosted_purged : (g : Flat) (row : Service) → HaveNone g → IsHosted g row → IsHosted (purged g) row
hosted_purged g row none is = record {
  sharing = is.sharing;
  beside = beside_stays g row g.services none.zero
      (All-from_recursion (λ (other : Service). other.status.state ≡ 1 → other.process ≡ 0) g.services none.stopped) is.beside;
}
