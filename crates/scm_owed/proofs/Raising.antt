-- What a raise makes owed.
use Rattle.std.proofs.Common.{ℕ, ◌≡◌, ◌∙◌, ◌≤◌, ◌+◌, ◌*◌, ◌==◌, true, false, cond, List, [], ◌∷◌, Option, None, Some, length, map, ap, sym}
use Rattle.std.proofs.Common.{refl, subst, arith}
use Rattle.std.specs.Prelude.{All}
use Rattle.std.proofs.lemmas.List.Elements.{All-head, All-tail}
use Rattle.scm_model.specs.declared.codes.TheConstants.{SERVICE_CONTROL_STOP, SERVICE_TRIGGER_ACTION_SERVICE_START}
use Rattle.scm_model.specs.declared.flat.Flat.{Flat}
use Rattle.scm_model.specs.declared.flat.Limits.{Limits}
use Rattle.scm_model.specs.declared.flat.Service.{Service}
use Rattle.scm_model.specs.Found.{if_found}
use Rattle.scm_model.specs.Needs.{numbers_of}
use Rattle.start_plan.specs.Owed.{total}
use Rattle.start_triggers.specs.Triggers.{matching}
use Rattle.scm_rules.specs.Controls.{controlled_if, order_to}
use Rattle.scm_rules.specs.Needs.{need_rows}
use Rattle.scm_rules.specs.Owed.{owed}
use Rattle.scm_rules.specs.Raise.{all_triggered, gets_stop, raise_verdict, raised, triggered, with_stop}
use Rattle.scm_rules.specs.Room.{is_started_at, owed_by_raise, starts}
use Rattle.scm_rules.specs.Ticks.{can_start, with_restart}
use Rattle.scm_rules.specs.Start.{with_start}
use Rattle.scm_runs.proofs.Sound.{controls_more}
use Rattle.scm_owed.proofs.Starts.{controls_owe, has_own_number, restart_owes}
use Rattle.scm_owed.proofs.Sums.{each_passing, passing_total}
use Rattle.scm_text.specs.Numbers.{has}

-- with the services of a state no more is owed than a bound
record OwesWithin (services : List Service) (bound : ℕ) (g : Flat) : Type 0 where
  same : g.services ≡ services
  owes : owed g ≤ bound

restart_same : (row : Service) (g : Flat) → (with_restart row g).services ≡ g.services
restart_same row g = elim (can_start g row) as (λ b. (cond b (with_start 0 [] row g) g).services ≡ g.services) [
  | true ↦ refl
  | false ↦ refl
]

stop_within : (l : Limits) (services : List Service) (bound : ℕ) (row : Service) (g : Flat) → OwesWithin services bound g
    → OwesWithin services bound (with_stop l row g)
stop_within l services bound row g p =
    let owes = p.owes in
    elim (gets_stop l g row) as (λ b. OwesWithin services bound (cond b
    (record g { processes = map (controlled_if l.controls row.process (order_to row.number SERVICE_CONTROL_STOP)) g.processes }) g)) [
      | true ↦ record {
        same = p.same;
        owes = (let same = controls_owe (controlled_if l.controls row.process (order_to row.number SERVICE_CONTROL_STOP))
            (controls_more l.controls row.process (order_to row.number SERVICE_CONTROL_STOP)) g.processes in omega (arith, same, owes));
      }
      | false ↦ p
    ]

-- a service that is started owes a process for each
one_within : (l : Limits) (services : List Service) (bound : ℕ) (row : Service) (found : Option ℕ) (g : Flat)
    → has (numbers_of (need_rows services)) row.number ≡ true → OwesWithin services bound g
    → OwesWithin services (bound + cond (starts found) (3 * length services) 0) (if_found (triggered l row) found g)
one_within l services bound row None g there p = record { same = p.same; owes = (let owes = p.owes in omega (arith, owes)) }
one_within l services bound row (Some action) g there p =
    let owes = p.owes in
    elim (action == SERVICE_TRIGGER_ACTION_SERVICE_START) as (λ b. OwesWithin services (bound + cond b (3 * length services) 0)
    (cond b (with_restart row g) (with_stop l row g))) [
      | true ↦ record {
        same = restart_same row g ∙ p.same;
        owes = (
            let one = restart_owes g row (subst (λ (rows : List Service). has (numbers_of (need_rows rows)) row.number ≡ true)
            (sym p.same) there) in
            let long = ap length p.same in
            omega (arith, one, long, owes));
      }
      | false ↦ (let stops = stop_within l services bound row g p in let still = stops.owes in
          record { same = stops.same; owes = omega (arith, still) })
    ]

all_within : (l : Limits) (services : List Service) (subtype : List ℕ) (rows : List Service) (bound : ℕ) (g : Flat)
    → All (λ (row : Service). has (numbers_of (need_rows services)) row.number ≡ true) rows
    → OwesWithin services bound g → OwesWithin services (bound + total (each_passing (3 * length services) (is_started_at subtype)) rows)
    (all_triggered l subtype rows g)
all_within l services subtype [] bound g there p = record { same = p.same; owes = (let owes = p.owes in omega (arith, owes)) }
all_within l services subtype (row ∷ rows) bound g there p =
    let IsThere = λ (r : Service). has (numbers_of (need_rows services)) r.number ≡ true in
    let one = one_within l services bound row (matching row.config subtype) g (All-head IsThere row rows there) p in
    let rest = all_within l services subtype rows _ _ (All-tail IsThere row rows there) one in
    record { same = rest.same; owes = (let owes = rest.owes in omega (arith, owes)) }

pub raises_owe : (l : Limits) (f : Flat) (caller : ℕ) (subtype : List ℕ) → owed (raised l f caller subtype) ≤ owed f
    + owed_by_raise f subtype
raises_owe l f caller subtype =
    let all = (all_within l f.services subtype f.services (owed f) f (has_own_number f.services)
    (record { same = refl; owes = omega arith })).owes in
    let sum = passing_total (3 * length f.services) (is_started_at subtype) f.services in
    elim (raise_verdict f caller == 0) as (λ b. owed (cond b (all_triggered l subtype f.services f) f) ≤ owed f + owed_by_raise f subtype)
    [ true ↦ omega (arith, all, sum) | false ↦ omega arith ]
