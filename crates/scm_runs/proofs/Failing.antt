-- What a failure of a service keeps: it is counted, and a row may become due for the service.
use Rattle.std.proofs.Common.{ℕ, ◌≡◌, ◌<◌, ◌+◌, ◌==◌, Bool, true, false, cond, List, [], ◌∷◌, Option, None, Some, eq-eqb, get_or, map, ap}
use Rattle.std.proofs.Common.{sym, refl}
use Rattle.std.proofs.Common.{subst, arith}
use Rattle.std.specs.Prelude.{All}
use Rattle.std.proofs.lemmas.List.Elements.{All-head, All-map, All-tail}
use Rattle.scm_model.specs.declared.flat.Action.{Action}
use Rattle.scm_model.specs.declared.flat.DueKind.{DueKind}
use Rattle.scm_model.specs.declared.flat.DueKind.TheVariants as dues
use Rattle.scm_model.specs.declared.flat.Flat.{Flat}
use Rattle.scm_model.specs.declared.flat.Process.{Process}
use Rattle.scm_model.specs.declared.flat.Service.{Service}
use Rattle.scm_model.specs.declared.flat.Status.{Status}
use Rattle.scm_model.specs.declared.flat.Wanted.{Wanted}
use Rattle.scm_model.specs.Found.{if_found}
use Rattle.scm_model.proofs.Found.{found_keeps}
use Rattle.failure_actions.specs.Failing.{due_action, on_failure}
use Rattle.scm_rules.specs.Due.{is_due_of, with_due}
use Rattle.scm_rules.specs.Failures.{all_failed, counted_if, failed_by, is_failure, moment_after, with_action, with_due_after, with_failure}
use Rattle.scm_rules.specs.Valid.{HasListed, IsAskedRight}
use Rattle.scm_runs.proofs.Processes.{AreProcesses, beside, starts_kept, still_same}
use Rattle.scm_runs.proofs.Rows.{AreServices, IsMild, IsStoppedWithout, mildly}

-- ## What becomes due

by_tests : (nothing restart reboot : Bool) (service : ℕ) (kind : DueKind)
    → cond nothing None (cond restart (Some (dues.Start service)) (cond reboot (Some (dues.Reboot service))
    (Some (dues.Command service)))) ≡ Some kind → is_due_of service kind ≡ true
by_tests true restart reboot service kind e = absurd cc
by_tests false true reboot service kind e =
    (let same : dues.Start service ≡ kind = cc in subst (λ (k : DueKind). is_due_of service k ≡ true) same (eq-eqb service service refl))
by_tests false false true service kind e =
    (let same : dues.Reboot service ≡ kind = cc in subst (λ (k : DueKind). is_due_of service k ≡ true) same (eq-eqb service service refl))
by_tests false false false service kind e =
    (let same : dues.Command service ≡ kind = cc in subst (λ (k : DueKind). is_due_of service k ≡ true) same (eq-eqb service service refl))

-- what an action makes due is of its service
due_of : (service : ℕ) (action : Action) (kind : DueKind) → due_action service action ≡ Some kind → is_due_of service kind ≡ true
due_of service action kind e = by_tests (action.what == 0) (action.what == 1) (action.what == 2) service kind e

-- a failure is counted, and nothing becomes due
abbrev pub with_count : Service → Flat → Flat
with_count row f = record f { services = map (counted_if row.number f.moment) f.services }

-- what holds after a row more of a service
abbrev pub KeepsDues : (Flat → Type 0) → ℕ → Type 0
KeepsDues P service = (f : Flat) (moment : ℕ) (kind : DueKind) → is_due_of service kind ≡ true → P f → P (with_due f moment kind)

pub failure_keeps : (P : Flat → Type 0) (row : Service) (f : Flat) → P (with_count row f) → KeepsDues P row.number → P (with_failure row f)
failure_keeps P row f counted more =
    let g = with_count row f in
    found_keeps P (with_action row.number) (on_failure row.config row.failures row.last_failure f.moment).action g counted
    (λ action is. found_keeps P (with_due_after action.delay) (due_action row.number action) g counted
    (λ kind due. more g (moment_after g.moment action.delay) kind (due_of row.number action kind due) counted))

-- what holds as it was, once a failure is counted, and after a row more
pub failing_keeps : (P : Flat → Type 0) (found : Option Service) (f : Flat) → P f
    → ((row : Service) → found ≡ Some row → P (with_count row f)) → ((service : ℕ) → KeepsDues P service)
    → P (if_found with_failure found f)
failing_keeps P found f was counted more = found_keeps P with_failure found f was
    (λ row is. failure_keeps P row f (counted row is) (more row.number))

-- what holds as it was, once a failure of each of some services is counted, and after a row more
pub all_failing_keeps : (P : Flat → Type 0) (Q : Service → Type 0) (rows : List Service) (f : Flat) → All Q rows → P f
    → ((row : Service) (g : Flat) → Q row → P g → P (with_count row g)) → ((service : ℕ) → KeepsDues P service)
    → P (all_failed rows f)
all_failing_keeps P Q [] f each was counted more = was
all_failing_keeps P Q (row ∷ rows) f each was counted more =
    all_failing_keeps P Q rows (with_failure row f) (All-tail Q row rows each)
    (failure_keeps P row f (counted row f (All-head Q row rows each) was) (more row.number)) counted more

-- whichever services fail
pub any_failing_keeps : (P : Flat → Type 0) (rows : List Service) (f : Flat) → P f
    → ((row : Service) (g : Flat) → P g → P (with_count row g)) → ((service : ℕ) → KeepsDues P service) → P (all_failed rows f)
any_failing_keeps P rows f was counted more =
    all_failing_keeps P (λ row. Unit {0}) rows f (λ k d lt. tt) was (λ row g any. counted row g) more

-- ## What it doesn't change

-- a state with services and due rows of another
abbrev pub failed_as : Flat → Flat → Flat
failed_as f g = record f { services = g.services; dues = g.dues; next = record f.next { due = g.next.due } }

pub failing_as : (found : Option Service) (f : Flat) → if_found with_failure found f ≡ failed_as f (if_found with_failure found f)
failing_as found f =
    failing_keeps (λ (g : Flat). g ≡ failed_as f g) found f refl (λ row is. refl)
    (λ service g moment kind is e. ap (λ (h : Flat). record h {
      dues = (with_due g moment kind).dues;
      next = record h.next { due = g.next.due + 1 };
    }) e)

-- what speaks of neither services nor due rows
pub failing_apart : (P : Flat → Type 0) (found : Option Service) (f : Flat) → P (failed_as f (if_found with_failure found f))
    → P (if_found with_failure found f)
failing_apart P found f p = subst P (sym (failing_as found f)) p

pub all_failing_as : (rows : List Service) (f : Flat) → all_failed rows f ≡ failed_as f (all_failed rows f)
all_failing_as rows f =
    any_failing_keeps (λ (g : Flat). g ≡ failed_as f g) rows f refl
    (λ row g e. ap (λ (h : Flat). record h { services = map (counted_if row.number g.moment) g.services }) e)
    (λ service g moment kind is e. ap (λ (h : Flat). record h {
      dues = (with_due g moment kind).dues;
      next = record h.next { due = g.next.due + 1 };
    }) e)

pub all_failing_apart : (P : Flat → Type 0) (rows : List Service) (f : Flat) → P (failed_as f (all_failed rows f)) → P (all_failed rows f)
all_failing_apart P rows f p = subst P (sym (all_failing_as rows f)) p

-- ## Services

-- only how often a service failed, and when it last did, is counted
pub counted_as : (number moment : ℕ) (row : Service)
    → counted_if number moment row ≡ record row {
      failures = (counted_if number moment row).failures;
      last_failure = (counted_if number moment row).last_failure;
    }
counted_as number moment row =
    let new = record row { failures = (on_failure row.config row.failures row.last_failure moment).failures; last_failure = moment } in
    elim (row.number == number) as (λ b. cond b new row ≡ record row {
      failures = (cond b new row).failures;
      last_failure = (cond b new row).last_failure;
    }) [ true ↦ refl | false ↦ refl ]

pub counted_or : (P : Service → Type 0) (number moment : ℕ) (row : Service)
    → ((failures last : ℕ) → P (record row { failures = failures; last_failure = last })) → P (counted_if number moment row)
counted_or P number moment row any = subst P (sym (counted_as number moment row))
    (any (counted_if number moment row).failures (counted_if number moment row).last_failure)

-- what doesn't speak of that
abbrev pub IsAsideCounts : (Service → Type 0) → Type 0
IsAsideCounts P = (row : Service) (failures last : ℕ) → P row → P (record row { failures = failures; last_failure = last })

pub all_counted : (P : Service → Type 0) → IsAsideCounts P → (number moment : ℕ) (rows : List Service) → All P rows
    → All P (map (counted_if number moment) rows)
all_counted P aside number moment rows all =
    All-map P (counted_if number moment) rows (λ k d lt. counted_or P number moment (get_or rows k d)
    (λ failures last. aside (get_or rows k d) failures last (all k d lt)))

-- what holds of each service, whether or not a failure is counted
pub failing_rows : (P : Service → Type 0) → IsAsideCounts P → (found : Option Service) (f : Flat) → All P f.services
    → All P (if_found with_failure found f).services
failing_rows P aside found f all =
    failing_keeps (λ (g : Flat). All P g.services) found f all (λ row is. all_counted P aside row.number f.moment f.services all)
    (λ service g moment kind is each. each)

pub all_failing_rows : (P : Service → Type 0) → IsAsideCounts P → (rows : List Service) (f : Flat) → All P f.services
    → All P (all_failed rows f).services
all_failing_rows P aside rows f all =
    any_failing_keeps (λ (g : Flat). All P g.services) rows f all
    (λ row g each. all_counted P aside row.number g.moment g.services each) (λ service g moment kind is each. each)

counts_mildly : (number moment : ℕ) → IsMild (counted_if number moment)
counts_mildly number moment = record {
  number = λ row. counted_or (λ new. new.number ≡ row.number) number moment row (λ failures last. refl);
  config = λ row. counted_or (λ new. new.config ≡ row.config) number moment row (λ failures last. refl);
  kind = λ row. counted_or (λ new. new.status.kind ≡ row.status.kind) number moment row (λ failures last. refl);
  security = λ row. counted_or (λ new. new.security ≡ row.security) number moment row (λ failures last. refl);
}

pub counted : (next process number moment : ℕ) (rows : List Service) → AreServices next process rows
    → AreServices next process (map (counted_if number moment) rows)
counted next process number moment rows s =
    mildly next process process (counted_if number moment) rows (counts_mildly number moment) s (omega arith)
    (all_counted IsStoppedWithout (λ row failures last is. is) number moment rows s.stopped)
    (all_counted (λ (row : Service). row.process < process) (λ row failures last is. is) number moment rows s.current)

pub processes_counted : (next number moment : ℕ) (processes : List Process) (wanted : List Wanted) (services : List Service)
    → AreProcesses next processes wanted services
    → AreProcesses next processes wanted (map (counted_if number moment) services)
processes_counted next number moment processes wanted services s =
    beside next processes wanted services (map (counted_if number moment) services) s
    (all_counted (HasListed processes) (λ row failures last is. is) number moment services s.listed)
    (starts_kept processes (counted_if number moment) services (λ process row. still_same process (counted_if number moment) row
    (counted_or (λ new. new.number ≡ row.number) number moment row (λ failures last. refl))
    (counted_or (λ new. new.process ≡ row.process) number moment row (λ failures last. refl))
    (counted_or (λ new. new.status.state ≡ row.status.state) number moment row (λ failures last. refl))) s.starting)
    (all_counted (IsAskedRight processes) (λ row failures last is. is) number moment services s.asked)

-- ## Reports

-- who fails by a report is who was found
pub failed_is : (report : Status) (found : Option Service) (row : Service) → failed_by report found ≡ Some row → (found ≡ Some row)
    × (is_failure report row ≡ true)
failed_is report None row e = absurd cc
failed_is report (Some one) row e =
    elim (is_failure report one) as (λ b. is_failure report one ≡ b → cond b (Some one) None ≡ Some row → (Some one ≡ Some row)
    × (is_failure report row ≡ true)) [
      | true ↦ λ is h. (h, (let same : one ≡ row = cc in subst (λ r. is_failure report r ≡ true) same is))
      | false ↦ λ is h. absurd cc
    ] refl e
