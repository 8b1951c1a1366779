-- What a tick makes owed.
use Rattle.std.proofs.Common.{ℕ, ◌≡◌, ◌∙◌, ◌≤◌, ◌+◌, ◌*◌, ◌==◌, Bool, true, false, not, cond, List, [], ◌∷◌, Option, Some, find, length, ap}
use Rattle.std.proofs.Common.{eq-eqb, eqb-true, sym, refl, subst, arith}
use Rattle.std.specs.Prelude.{is_some}
use Rattle.std.proofs.Math.Nat.{mul-suc}
use Rattle.scm_model.specs.declared.codes.TheConstants.{ERROR_SERVICE_REQUEST_TIMEOUT}
use Rattle.scm_model.specs.declared.flat.Due.{Due}
use Rattle.scm_model.specs.declared.flat.DueKind.{DueKind}
use Rattle.scm_model.specs.declared.flat.DueKind.TheVariants as dues
use Rattle.scm_model.specs.declared.flat.Flat.{Flat}
use Rattle.scm_model.specs.declared.flat.Limits.{Limits}
use Rattle.scm_model.specs.declared.flat.Service.{Service}
use Rattle.scm_model.specs.Rows.{service_of}
use Rattle.scm_model.specs.Needs.{numbers_of}
use Rattle.scm_model.proofs.Found.{found_either}
use Rattle.start_plan.specs.Decided.{is_numbered}
use Rattle.start_plan.specs.Entered.{wanted_process}
use Rattle.start_plan.specs.Owed.{total}
use Rattle.scm_rules.specs.Due.{is_due_of, next_due}
use Rattle.scm_rules.specs.Needs.{need_rows}
use Rattle.scm_rules.specs.Owed.{owed, owed_by_process}
use Rattle.scm_rules.specs.Room.{owed_by_due, owed_by_kind}
use Rattle.scm_rules.specs.Start.{deadline_at, with_start}
use Rattle.scm_rules.specs.Ticks.{can_run, can_start, fire, fired, ticked, with_command, with_restart, with_wanted_command, without_due}
use Rattle.scm_rules.proofs.Dues.{next_has, ticked_keeps}
use Rattle.scm_runs.proofs.Bounded.{AreOnce}
use Rattle.scm_runs.proofs.Lists.{found_passes}
use Rattle.scm_owed.proofs.Settling.{total_more}
use Rattle.scm_owed.proofs.Starts.{begun_owes, decision_owes, listed}
use Rattle.scm_owed.proofs.Sums.{Leaves, all_leave, each_passing, once_total, total_least, total_plus, total_zero}
use Rattle.scm_text.specs.Numbers.{has}

-- ## Row by row

-- what may come to be owed by rows, with the services of a state
abbrev may_owe : Flat → List Due → ℕ
may_owe f rows = total (owed_by_due f) rows

-- with the services of a state no more is owed, and may come to be owed, than a bound
record IsWithin (f : Flat) (bound : ℕ) (g : Flat) : Type 0 where
  services : g.services ≡ f.services
  owes : owed g + may_owe f g.dues ≤ bound

-- the service is one of the state's
here : (f g : Flat) (row : Service) (service : ℕ) → g.services ≡ f.services → service_of g service ≡ Some row
    → service_of f service ≡ Some row
here f g row service same is = ap (λ (rows : List Service). find (λ (r : Service). r.number == service) rows) (sym same) ∙ is

number_is : (f : Flat) (row : Service) (service : ℕ) → service_of f service ≡ Some row → row.number ≡ service
number_is f row service is = eqb-true row.number service (found_passes (λ (r : Service). r.number == service) row f.services is)

restart_within : (f : Flat) (bound : ℕ) (g : Flat) (row : Service) → g.services ≡ f.services
    → has (numbers_of (need_rows g.services)) row.number ≡ true
    → owed g + may_owe f g.dues + 3 * length f.services ≤ bound → IsWithin f bound (with_restart row g)
restart_within f bound g row same there fits =
    elim (can_start g row) as (λ b. IsWithin f bound (cond b (with_start 0 [] row g) g)) [
      | true ↦ record {
        services = same;
        owes = (
            let one = begun_owes g row there in
            let more = total_more (owed_by_due f) g.dues (record {
              moment = deadline_at g.moment;
              number = g.next.due;
              kind = dues.Deadline g.next.plan;
            }) in
            let long = ap length same in
            omega (arith, one, more, long, fits));
      }
      | false ↦ record { services = same; owes = omega (arith, fits) }
    ]

command_within : (l : Limits) (f : Flat) (bound : ℕ) (g : Flat) (row : Service) → g.services ≡ f.services → owed g + may_owe f g.dues
    + 3 ≤ bound → IsWithin f bound (with_command l row g)
command_within l f bound g row same fits =
    elim (can_run l g row) as (λ b. IsWithin f bound (cond b (with_wanted_command row.config.command g) g)) [
      | true ↦ record {
        services = same;
        owes = (let more = total_more owed_by_process g.processes (wanted_process g.next.process 0 false) in
            omega (arith, more, fits));
      }
      | false ↦ record { services = same; owes = omega (arith, fits) }
    ]

-- what a row that is due does is within what it may make owed
fire_within : (l : Limits) (f : Flat) (bound : ℕ) (kind : DueKind) (g : Flat) → g.services ≡ f.services → owed g + may_owe f g.dues
    + owed_by_kind f kind ≤ bound → IsWithin f bound (fire l kind g)
fire_within l f bound (dues.Deadline plan) g same fits =
    record {
      services = same;
      owes = (let less = decision_owes (is_numbered plan) ERROR_SERVICE_REQUEST_TIMEOUT g.plans in
          omega (arith, less, fits));
    }
fire_within l f bound (dues.Start service) g same fits =
    found_either (IsWithin f bound) with_restart (service_of g service) g (λ none. record { services = same; owes = omega (arith, fits) })
    (λ row is. restart_within f bound g row same (subst (λ n. has (numbers_of (need_rows g.services)) n ≡ true)
    (sym (number_is g row service is)) (listed g.services service (ap is_some is)))
    (let may = ap {B = ℕ} (λ (found : Option Service). cond (is_some found) (3 * length f.services) 0) (here f g row service same is) in
    omega (arith, may, fits)))
fire_within l f bound (dues.Command service) g same fits =
    found_either (IsWithin f bound) (with_command l) (service_of g service) g
    (λ none. record { services = same; owes = omega (arith, fits) })
    (λ row is. command_within l f bound g row same (let may = ap {B = ℕ} (λ (found : Option Service). cond (is_some found) 3 0)
    (here f g row service same is) in omega (arith, may, fits)))
fire_within l f bound (dues.Reboot service) g same fits = record { services = same; owes = omega (arith, fits) }

-- the row leaves before
fired_within : (l : Limits) (f : Flat) (bound : ℕ) (g : Flat) (row : Due) → next_due g ≡ Some row → IsWithin f bound g
    → IsWithin f bound (fired l row g)
fired_within l f bound g row is p =
    let stays = λ (due : Due). not (due.number == row.number) in
    let less = next_has (Leaves (owed_by_due f) stays g.dues) g row (all_leave (owed_by_due f) stays g.dues) is
    (ap not (eq-eqb row.number row.number refl)) in
    let owes = p.owes in
    fire_within l f bound row.kind (without_due row.number g) p.services (omega (arith, less, owes))

pub ticks_owe : (l : Limits) (f : Flat) → owed (ticked l f) ≤ owed f + total (owed_by_due f) f.dues
ticks_owe l f =
    let bound = owed f + may_owe f f.dues in
    let ends = (ticked_keeps (IsWithin f bound) l (fired_within l f bound) f (record { services = refl; owes = omega arith })).owes in
    omega (arith, ends)

-- ## All rows

-- what a row may make owed, counted once for each service that it is of
abbrev weight : ℕ → List Service → DueKind → ℕ
weight unit services kind = total (each_passing unit (λ (row : Service). is_due_of row.number kind)) services

found_weight : (unit number : ℕ) (services : List Service) → is_some (find (λ (row : Service). row.number == number) services) ≡ true
    → unit ≤ total (each_passing unit (λ (row : Service). number == row.number)) services
found_weight unit number [] there = absurd cc
found_weight unit number (row ∷ rows) there =
    elim (row.number == number) as (λ b. (row.number == number) ≡ b → is_some
    (cond b (Some row) (find (λ (r : Service). r.number == number) rows)) ≡ true
    → unit ≤ cond (number == row.number) unit 0 + total (each_passing unit (λ (r : Service). number == r.number)) rows) [
      | true ↦ λ e h. (let same = ap {B = ℕ} (λ (b : Bool). cond b unit 0)
          (eq-eqb number row.number (sym (eqb-true row.number number e))) in omega (arith, same))
      | false ↦ λ e h. (let rest = found_weight unit number rows h in omega (arith, rest))
    ] refl there

found_some : (number : ℕ) (services : List Service) → is_some (find (λ (row : Service). row.number == number) services) ≡ true
    → 1 ≤ length services
found_some number [] there = absurd cc
found_some number (row ∷ rows) there = omega arith

kind_weight : (f : Flat) (kind : DueKind) → owed_by_kind f kind ≤ weight (3 * length f.services) f.services kind
kind_weight f (dues.Deadline plan) = omega arith
kind_weight f (dues.Start service) =
    elim (is_some (service_of f service)) as (λ b. is_some (service_of f service) ≡ b
    → cond b (3 * length f.services) 0 ≤ weight (3 * length f.services) f.services (dues.Start service))
    [ true ↦ λ e. found_weight (3 * length f.services) service f.services e | false ↦ λ e. omega arith ] refl
kind_weight f (dues.Command service) =
    elim (is_some (service_of f service)) as (λ b. is_some (service_of f service) ≡ b
    → cond b 3 0 ≤ weight (3 * length f.services) f.services (dues.Command service)) [
      | true ↦ λ e. (let all = found_weight (3 * length f.services) service f.services e in let some = found_some service f.services e in
          omega (arith, all, some))
      | false ↦ λ e. omega arith
    ] refl
kind_weight f (dues.Reboot service) = omega arith

-- each service has one row at most
all_weigh : (unit : ℕ) (services : List Service) (rows : List Due) → AreOnce rows
    → total (λ (due : Due). weight unit services due.kind) rows ≤ unit * length services
all_weigh unit [] rows once = let none = total_zero rows in omega (arith, none)
all_weigh unit (row ∷ services) rows once =
    let both = total_plus (each_passing unit (λ (due : Due). is_due_of row.number due.kind))
    (λ (due : Due). weight unit services due.kind) rows in
    let one = once_total unit (λ (due : Due). is_due_of row.number due.kind) rows (once row.number) in
    let rest = all_weigh unit services rows once in
    let more = mul-suc unit (length services) in
    omega (arith, both, one, rest, more)

pub dues_owe : (f : Flat) → AreOnce f.dues → total (owed_by_due f) f.dues ≤ (3 * length f.services) * length f.services
dues_owe f once =
    let each = total_least (owed_by_due f) (λ (due : Due). weight (3 * length f.services) f.services due.kind)
    (λ due. kind_weight f due.kind) f.dues in
    let all = all_weigh (3 * length f.services) f.services f.dues once in
    omega (arith, each, all)
