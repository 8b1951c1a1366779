-- The services that a manager begins with.
use Rattle.std.proofs.Common.{ℕ, ◌≡◌, ◌≢◌, ◌==◌, ◌<◌, ◌≤◌, ◌+◌, suc, zero, Bool, true, false, cond, not, List, [], ◌∷◌, Option, filter, map}
use Rattle.std.proofs.Common.{length, get_or, ap, refl, arith, eqb-true}
use Rattle.std.specs.Prelude.{All, AllPairs}
use Rattle.std.proofs.lemmas.List.Elements.{All-cons, All-nil, All-weaker, All-head, All-tail}
use Rattle.std.specs.List.{list_any}
use Rattle.std.proofs.lemmas.Bool.{ne_eqb}
use Rattle.scm_model.specs.declared.flat.Config.{Config}
use Rattle.scm_model.specs.declared.flat.Due.{Due}
use Rattle.scm_model.specs.declared.flat.DueKind.TheVariants as dues
use Rattle.scm_model.specs.declared.flat.Caller.{Caller}
use Rattle.scm_model.specs.declared.flat.Flat.{Flat}
use Rattle.scm_model.specs.declared.flat.HandleRow.{HandleRow}
use Rattle.scm_model.specs.declared.flat.LockRow.{LockRow}
use Rattle.scm_model.specs.declared.flat.Next.{Next}
use Rattle.scm_model.specs.declared.flat.Plan.{Plan}
use Rattle.scm_model.specs.declared.flat.Process.{Process}
use Rattle.scm_model.specs.declared.flat.Registration.{Registration}
use Rattle.scm_model.specs.declared.flat.Service.{Service}
use Rattle.scm_model.specs.declared.flat.Wanted.{Wanted}
use Rattle.scm_model.specs.Changes.{new_service}
use Rattle.scm_rules.specs.Create.{new_status}
use Rattle.scm_rules.specs.Due.{is_due_of}
use Rattle.scm_rules.specs.Opening.{automatic_at, services_from, starts_from}
use Rattle.start_triggers.specs.Order.{auto_rows, in_order, is_automatic, insert, start_of, starts_before}
use Rattle.scm_tables.specs.Firing.{one_if}
use Rattle.scm_tables.specs.Places.{HasPlaces}
use Rattle.scm_tables.specs.Started.{due_of, dues_from}
use Rattle.scm_tables.proofs.Placed.{fewer, fewer_pass}
use Rattle.scm_tables.specs.Tabled.{AreByNumber, HasShort, HasShortTexts}

-- a fact of the first row and each later one, and of each two of the later ones
pairs_cons : {A : Type 0} (R : A → A → Type 0) (x : A) (xs : List A) → All (R x) xs → AllPairs R xs → (i j : ℕ) (d : A) → i < j
    → j < length (x ∷ xs) → R (get_or (x ∷ xs) i d) (get_or (x ∷ xs) j d)
pairs_cons R x xs head tail zero zero d lt within = absurd (omega (arith, lt))
pairs_cons R x xs head tail zero (suc j) d lt within = head j d (omega (arith, within))
pairs_cons R x xs head tail (suc i) zero d lt within = absurd (omega (arith, lt))
pairs_cons R x xs head tail (suc i) (suc j) d lt within = tail i j d (omega (arith, lt)) (omega (arith, within))

-- numbers begin at the first
from_first : (first : ℕ) (configs : List Config) → All (λ (row : Service). first ≤ row.number) (services_from first configs)
from_first first [] = All-nil (λ (row : Service). first ≤ row.number)
from_first first (config ∷ configs) =
    All-cons (λ (row : Service). first ≤ row.number) (new_service first config (new_status config.kind)) (services_from (first + 1) configs)
    (omega arith)
    (All-weaker (λ (row : Service). first + 1 ≤ row.number) (λ (row : Service). first ≤ row.number) (λ row h. omega (arith, h))
    (services_from (first + 1) configs) (from_first (first + 1) configs))

-- and are as many as the configurations
below_last : (first : ℕ) (configs : List Config) → All (λ (row : Service). row.number < first + length configs)
    (services_from first configs)
below_last first [] = All-nil (λ (row : Service). row.number < first + 0)
below_last first (config ∷ configs) =
    All-cons (λ (row : Service). row.number < first + length (config ∷ configs)) (new_service first config (new_status config.kind))
    (services_from (first + 1) configs) (omega arith)
    (All-weaker (λ (row : Service). row.number < first + 1 + length configs) (λ (row : Service). row.number < first
    + length (config ∷ configs)) (λ row h. omega (arith, h)) (services_from (first + 1) configs)
    (below_last (first + 1) configs))

rising_from : (first : ℕ) (configs : List Config) → AllPairs (λ (a b : Service). a.number < b.number) (services_from first configs)
rising_from first [] = λ i j d lt within. absurd (omega (arith, within))
rising_from first (config ∷ configs) =
    pairs_cons (λ (a b : Service). a.number < b.number) (new_service first config (new_status config.kind))
    (services_from (first + 1) configs)
    (All-weaker (λ (row : Service). first + 1 ≤ row.number) (λ (row : Service). first < row.number) (λ row h. omega (arith, h))
    (services_from (first + 1) configs) (from_first (first + 1) configs))
    (rising_from (first + 1) configs)

pub opened_rising : (configs : List Config) → AreByNumber (length configs + 1) (services_from 1 configs)
opened_rising configs = record {
  below = All-weaker (λ (row : Service). row.number < 1 + length configs) (λ (row : Service). row.number < length configs + 1)
      (λ row h. omega (arith, h)) (services_from 1 configs) (below_last 1 configs);
  rising = rising_from 1 configs;
}

pub opened_texts : (first : ℕ) (configs : List Config) → All HasShortTexts configs → All HasShort (services_from first configs)
opened_texts first [] short = All-nil HasShort
opened_texts first (config ∷ configs) short =
    All-cons HasShort (new_service first config (new_status config.kind)) (services_from (first + 1) configs)
    (All-head HasShortTexts config configs short)
    (opened_texts (first + 1) configs (All-tail HasShortTexts config configs short))

-- ## The starts that become due by themselves

pub count_cons : {X : Type 0} (q : X → Bool) (x : X) (xs : List X) → length (filter q (x ∷ xs)) ≡ one_if (q x) + length (filter q xs)
count_cons q x xs = elim (q x) as (λ b. length (cond b (x ∷ filter q xs) (filter q xs)) ≡ one_if b + length (filter q xs))
    [ true ↦ omega arith | false ↦ omega arith ]

-- an order changes no count
count_put : {X : Type 0} (before : X → X → Bool) (q : X → Bool) (x : X) (ys : List X)
    → length (filter q (insert before x ys)) ≡ length (filter q (x ∷ ys))
count_put before q x [] = refl
count_put before q x (y ∷ ys) =
    elim (before y x) as (λ b. length (filter q (cond b (y ∷ insert before x ys) (x ∷ y ∷ ys))) ≡ length (filter q (x ∷ y ∷ ys))) [
      | true ↦ omega (
        arith,
        count_cons q y (insert before x ys),
        count_put before q x ys,
        count_cons q x ys,
        count_cons q x (y ∷ ys),
        count_cons q y ys,
      )
      | false ↦ refl
    ]

count_order : {X : Type 0} (before : X → X → Bool) (q : X → Bool) (xs : List X)
    → length (filter q (in_order before xs)) ≡ length (filter q xs)
count_order before q [] = refl
count_order before q (x ∷ xs) = omega (
  arith,
  count_put before q x (in_order before xs),
  count_cons q x (in_order before xs),
  count_cons q x xs,
  count_order before q xs,
)

count_starts : (number first moment : ℕ) (rows : List Service) → length
    (filter (λ (due : Due). is_due_of number due.kind) (starts_from first moment rows)) ≡ length
    (filter (λ (row : Service). row.number == number) rows)
count_starts number first moment [] = refl
count_starts number first moment (row ∷ rows) =
    omega (
      arith,
      count_starts number (first + 1) moment rows,
      count_cons (λ (due : Due). is_due_of number due.kind) (record {
        moment = automatic_at moment row;
        number = first;
        kind = dues.Start row.number;
      }) (starts_from (first + 1) moment rows),
      count_cons (λ (r : Service). r.number == number) row rows,
    )

none_named : (number : ℕ) (rows : List Service) → All (λ (row : Service). row.number ≢ number) rows
    → length (filter (λ (row : Service). row.number == number) rows) ≡ 0
none_named number [] others = refl
none_named number (row ∷ rows) others =
    let other : one_if (row.number == number) ≡ 0 = ap one_if (ne_eqb row.number number (others 0 row (omega arith))) in
    omega (
      arith,
      count_cons (λ (r : Service). r.number == number) row rows,
      other,
      none_named number rows (λ k d lt. others (suc k) d (omega (arith, lt))),
    )

-- a number names one service at most
one_named : (number : ℕ) (rows : List Service) → AllPairs (λ (a b : Service). a.number < b.number) rows
    → length (filter (λ (row : Service). row.number == number) rows) ≤ 1
one_named number [] rising = omega arith
one_named number (row ∷ rows) rising =
    elim (row.number == number) as (λ b. row.number == number ≡ b
    → length (filter (λ (r : Service). r.number == number) (row ∷ rows)) ≤ 1) [
      | true ↦ λ e.
          let this = eqb-true row.number number e in
          let none = none_named number rows (λ k d lt is. let r = rising 0 (suc k) d (omega arith) (omega (arith, lt)) in
          omega (arith, this, is, r)) in
          omega (arith, count_cons (λ (r : Service). r.number == number) row rows, ap one_if e, none)
      | false ↦ λ e.
          omega (
            arith,
            count_cons (λ (r : Service). r.number == number) row rows,
            ap one_if e,
            one_named number rows (λ i j d lt within. rising (suc i) (suc j) d (omega (arith, lt)) (omega (arith, within))),
          )
    ] refl

-- each service starts by itself once at most
one_start : (number first moment : ℕ) (groups : List (List ℕ)) (services : List Service)
    → AllPairs (λ (a b : Service). a.number < b.number) services
    → length (filter (λ (due : Due). is_due_of number due.kind) (starts_from first moment (auto_rows services groups))) ≤ 1
one_start number first moment groups services rising =
    omega (
      arith,
      count_starts number first moment (auto_rows services groups),
      count_order (starts_before groups) (λ (row : Service). row.number == number) (filter is_automatic services),
      fewer_pass (λ (row : Service). row.number == number) is_automatic services,
      one_named number services rising,
    )

-- all find a place
pub opened_places : (moment : ℕ) (groups : List (List ℕ)) {services : List Service} {rows : List Due} {capacity next : ℕ}
    → AreByNumber next services → rows ≡ starts_from 1 moment (auto_rows services groups)
    → length rows + length services ≤ capacity → HasPlaces services rows capacity
opened_places moment groups {services} {rows} {capacity} {next} rising is room = record {
  one = λ number. rw is (one_start number 1 moment groups services rising.rising);
  fit = omega (arith, room, fewer (λ (due : Due). not (list_any (λ (row : Service). is_due_of row.number due.kind) services)) rows);
}

-- they are no more than the services
starts_length : (first moment : ℕ) (rows : List Service) → length (starts_from first moment rows) ≡ length rows
starts_length first moment [] = refl
starts_length first moment (row ∷ rows) = omega (arith, starts_length (first + 1) moment rows)

all_pass : {X : Type 0} (xs : List X) → length (filter (λ x. true) xs) ≡ length xs
all_pass [] = refl
all_pass (x ∷ xs) = omega (arith, all_pass xs)

pub few_starts : (moment : ℕ) (groups : List (List ℕ)) (services : List Service)
    → length (starts_from 1 moment (auto_rows services groups)) ≤ length services
few_starts moment groups services =
    omega (
      arith,
      starts_length 1 moment (auto_rows services groups),
      all_pass (auto_rows services groups),
      count_order (starts_before groups) (λ row. true) (filter is_automatic services),
      all_pass (filter is_automatic services),
      fewer is_automatic services,
    )

pub opened_length : (first : ℕ) (configs : List Config) → length (services_from first configs) ≡ length configs
opened_length first [] = refl
opened_length first (config ∷ configs) = omega (arith, opened_length (first + 1) configs)

-- the rows of starts that are told by number
pub dues_are : (first moment : ℕ) (rows : List Service) → dues_from first moment (map start_of rows) ≡ starts_from first moment rows
dues_are first moment [] = refl
dues_are first moment (row ∷ rows) = ap (λ (ds : List Due). due_of first moment (start_of row) ∷ ds) (dues_are (first + 1) moment rows)

-- ## The whole state

pub same_flat : (f : Flat) (services : List Service) (handles : List HandleRow) (processes : List Process) (wanted : List Wanted)
    (plans : List Plan) (registrations : List Registration) (rows : List Due)
    (callers : List Caller) (lock : Option LockRow) (moment : ℕ) (next : Next) (reboots : ℕ) → f.services ≡ services → f.handles ≡ handles
    → f.processes ≡ processes → f.wanted ≡ wanted → f.plans ≡ plans
    → f.registrations ≡ registrations → f.dues ≡ rows → f.callers ≡ callers → f.lock ≡ lock → f.moment ≡ moment → f.next ≡ next
    → f.reboots ≡ reboots
    → f ≡ record {
      services = services;
      handles = handles;
      processes = processes;
      wanted = wanted;
      plans = plans;
      registrations = registrations;
      dues = rows;
      callers = callers;
      lock = lock;
      moment = moment;
      next = next;
      reboots = reboots;
    }
same_flat f services handles processes wanted plans registrations rows callers lock moment next reboots a b c d e g h i j k m n =
    rw (← a, ← b, ← c, ← d, ← e, ← g, ← h, ← i, ← j, ← k, ← m, ← n) refl
