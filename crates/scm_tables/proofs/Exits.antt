-- Services whose process ended: they fail one after another, and fall one after another.
use Rattle.std.proofs.Common.{ℕ, ◌≡◌, ◌≤◌, ◌<◌, ◌+◌, ◌∙◌, ◌^◌, suc, zero, cond, true, false, List, [], ◌∷◌, Option, None, Some, find, map}
use Rattle.std.proofs.Common.{drop, length, ap, sym, refl, subst, arith}
use Rattle.std.specs.Prelude.{AllPairs, option_map, slice_get}
use Rattle.std.specs.List.{AllByRecursion}
use Rattle.std.proofs.lemmas.Bool.{ne_eqb}
use Rattle.std.proofs.lemmas.List.{drop-map, drop_all, length-drop, length-map}
use Rattle.std.proofs.lemmas.List.Kept.{AllPairs-filter}
use Rattle.std.proofs.lemmas.Option.{same_Some}
use Rattle.failure_actions.specs.Failing.{due_action, on_failure}
use Rattle.scm_model.specs.declared.flat.Action.{Action}
use Rattle.scm_model.specs.declared.flat.DueKind.{DueKind}
use Rattle.scm_model.specs.declared.flat.Flat.{Flat}
use Rattle.scm_model.specs.declared.flat.Service.{Service}
use Rattle.scm_model.specs.Found.{if_found}
use Rattle.number_pairs.specs.declared.pairs.Pair.{Pair}
use Rattle.scm_model.specs.Processes.{currents, currents_in, is_by}
use Rattle.scm_model.specs.Rows.{service_of}
use Rattle.scm_rules.specs.Failures.{all_failed, counted_if, with_action, with_due_after, with_failure}
use Rattle.scm_rules.specs.Launches.{with_fallen}
use Rattle.scm_tables.specs.Failed.{failed_at, with_failed, with_one_fallen}
use Rattle.scm_tables.proofs.Currents.{current_at, found_again, paired}
use Rattle.scm_tables.proofs.Failures.{failed_as}
use Rattle.scm_tables.proofs.Placed.{fewer}
use Rattle.scm_tables.proofs.Falling.{Rises, count_by, fewer_left, none_left, one_at_a_time, rises}

abbrev Rising : List Service → Type 0
Rising rows = AllPairs (λ (a b : Service). a.number < b.number) rows

pub rising_currents : (process : ℕ) (rows : List Service) → Rising rows → Rising (currents process rows)
rising_currents process rows rising = AllPairs-filter (λ (a b : Service). a.number < b.number) (is_by process) rows rising

-- ## What a failure changes

due_services : (found : Option DueKind) (millis : ℕ) (f : Flat) → (if_found (with_due_after millis) found f).services ≡ f.services
due_services None millis f = refl
due_services (Some kind) millis f = refl

action_services : (found : Option Action) (service : ℕ) (f : Flat) → (if_found (with_action service) found f).services ≡ f.services
action_services None service f = refl
action_services (Some action) service f = due_services (due_action service action) action.delay f

failure_services : (row : Service) (f : Flat) → (with_failure row f).services ≡ map (counted_if row.number f.moment) f.services
failure_services row f =
    action_services (on_failure row.config row.failures row.last_failure f.moment).action row.number
    (record f { services = map (counted_if row.number f.moment) f.services })

due_due : (found : Option DueKind) (millis : ℕ) (f : Flat) → (if_found (with_due_after millis) found f).next.due ≤ f.next.due + 1
due_due None millis f = omega arith
due_due (Some kind) millis f = omega arith

action_due : (found : Option Action) (service : ℕ) (f : Flat) → (if_found (with_action service) found f).next.due ≤ f.next.due + 1
action_due None service f = omega arith
action_due (Some action) service f = due_due (due_action service action) action.delay f

failure_due : (row : Service) (f : Flat) → (with_failure row f).next.due ≤ f.next.due + 1
failure_due row f =
    action_due (on_failure row.config row.failures row.last_failure f.moment).action row.number
    (record f { services = map (counted_if row.number f.moment) f.services })

-- who is counted has the process that it had
counted_currents : (n moment process : ℕ) (rows : List Service)
    → currents process (map (counted_if n moment) rows) ≡ map (counted_if n moment) (currents process rows)
counted_currents n moment process [] = refl
counted_currents n moment process (row ∷ rows) =
    let others = currents process (map (counted_if n moment) rows) in
    ap (λ b. cond b (counted_if n moment row ∷ others) others) (count_by n moment process row)
    ∙ elim (is_by process row) as (λ b. cond b (counted_if n moment row ∷ others) others
    ≡ map (counted_if n moment) (cond b (row ∷ currents process rows) (currents process rows))) [
      | true ↦ ap (λ (rs : List Service). counted_if n moment row ∷ rs) (counted_currents n moment process rows)
      | false ↦ counted_currents n moment process rows
    ]

-- those with greater numbers stay as they are
uncounted : (n moment : ℕ) (rows : List Service) → AllByRecursion (λ (row : Service). n < row.number) rows
    → map (counted_if n moment) rows ≡ rows
uncounted n moment [] above = refl
uncounted n moment (row ∷ rows) above = rw (ne_eqb row.number n (omega (arith, above.0)), uncounted n moment rows above.1) refl

-- ## Places

at_front : (xs : List Service) (place : ℕ) → slice_get xs place ≡ slice_get (drop place xs) 0
at_front [] zero = refl
at_front [] (suc place) = refl
at_front (x ∷ xs) zero = refl
at_front (x ∷ xs) (suc place) = at_front xs place

next_drop : (place : ℕ) (xs : List Service) → drop (suc place) xs ≡ drop 1 (drop place xs)
next_drop zero xs = refl
next_drop (suc place) [] = refl
next_drop (suc place) (x ∷ xs) = next_drop place xs

rises_drop : (place : ℕ) (xs : List Service) → Rises xs → Rises (drop place xs)
rises_drop zero xs rising = rising
rises_drop (suc place) [] rising = tt
rises_drop (suc place) (x ∷ xs) rising = rises_drop place xs rising.1

-- ## One failure after another

-- those before a place failed, and those from there on stand as they did
pub record FailsFrom (process place : ℕ) (old f : Flat) : Type 0 where
  pub left : drop place (currents process f.services) ≡ drop place (currents process old.services)
  pub rest : all_failed (drop place (currents process old.services)) f ≡ all_failed (currents process old.services) old
  pub due : f.next.due + length (drop place (currents process old.services)) ≤ 2 ^ 63

fails_one : (process place : ℕ) (old f : Flat) → Rises (currents process old.services) → FailsFrom process place old f
    → (row : Service) (rest : List Service) → drop place (currents process old.services) ≡ row ∷ rest
    → FailsFrom process (suc place) old (with_failure row f)
fails_one process place old f rising from row rest e =
    let all = currents process old.services in
    let now = currents process f.services in
    let after : drop (suc place) all ≡ rest = next_drop place all ∙ ap (drop 1) e in
    let left_now : drop (suc place) now ≡ rest = next_drop place now ∙ ap (drop 1) (from.left ∙ e) in
    let above = subst Rises e (rises_drop place all rising) in
    record {
      left =
          ap (λ (rs : List Service). drop (suc place) (currents process rs)) (failure_services row f)
          ∙ ap (drop (suc place)) (counted_currents row.number f.moment process f.services)
          ∙ drop-map (counted_if row.number f.moment) (suc place) now
          ∙ ap (map (counted_if row.number f.moment)) left_now
          ∙ uncounted row.number f.moment rest above.0
          ∙ sym after;
      rest = ap (λ (rs : List Service). all_failed rs (with_failure row f)) after
          ∙ sym (ap (λ (rs : List Service). all_failed rs f) e) ∙ from.rest;
      due = omega (arith, from.due, ap length e, ap length after, failure_due row f);
    }

-- the next one fails
pub fails_next : (process place : ℕ) (old f : Flat) → Rising (currents process old.services)
    → place < length (currents process old.services)
    → FailsFrom process place old f
    → FailsFrom process (place + 1) old (if_found with_failure (slice_get (currents process f.services) place) f)
fails_next process place old f rising within from = rw next (by (drop place (currents process old.services)) refl)
  where
    next : place + 1 ≡ suc place
    next = omega arith

    by : (all : List Service) → drop place (currents process old.services) ≡ all
        → FailsFrom process (suc place) old (if_found with_failure (slice_get (currents process f.services) place) f)
    by [] e = absurd (omega (arith, within, ap length e, length-drop place (currents process old.services)))
    by (row ∷ rest) e =
        let found : slice_get (currents process f.services) place ≡ Some row =
        at_front (currents process f.services) place ∙ ap (λ (rs : List Service). slice_get rs 0) (from.left ∙ e) in
        subst (λ (o : Option Service). FailsFrom process (suc place) old (if_found with_failure o f)) (sym found)
        (fails_one process place old f (rises (currents process old.services) rising) from row rest e)

-- none failed yet
pub none_failed : (process : ℕ) (f : Flat) → f.next.due + length f.services ≤ 2 ^ 63 → FailsFrom process 0 f f
none_failed process f fits = record {
  left = refl;
  rest = refl;
  due = omega (arith, fits, fewer (is_by process) f.services);
}

-- all failed
pub all_done : (process place : ℕ) (old f : Flat) → length (currents process old.services) ≤ place → FailsFrom process place old f
    → f ≡ all_failed (currents process old.services) old
all_done process place old f past from =
    sym (ap (λ (rs : List Service). all_failed rs f) (drop_all place (currents process old.services) past)) ∙ from.rest

-- as many fail as there are pairs
pub pairs_count : (process : ℕ) (rows : List Service) (pairs : List Pair)
    → map (λ (pair : Pair). pair.number) pairs ≡ currents_in process rows → length pairs ≡ length (currents process rows)
pairs_count process rows pairs numbers =
    sym (length-map pairs (λ (pair : Pair). pair.number)) ∙ ap length numbers
    ∙ length-map (currents process rows) (λ (row : Service). row.number)

-- there is a number for what becomes due of it
pub due_fits : (process place : ℕ) (old f : Flat) → place < length (currents process old.services) → FailsFrom process place old f
    → f.next.due < 2 ^ 63
due_fits process place old f within from = omega (arith, from.due, length-drop place (currents process old.services))

-- what the failure of the service at a place comes to
pub failed_there : (f : Flat) → Rising f.services → (process place : ℕ) (pairs : List Pair)
    → map (λ (pair : Pair). pair.number) pairs ≡ currents_in process f.services → (found : Option Pair) → found ≡ slice_get pairs place
    → if_found with_failed (option_map (failed_at f.moment) (paired f.services found)) f
    ≡ if_found with_failure (slice_get (currents process f.services) place) f
failed_there f rising process place pairs numbers found is =
    failed_as f.moment (paired f.services found) f refl
    ∙ ap (λ (o : Option Service). if_found with_failure o f) (current_at f.services rising process pairs numbers place found is)

-- ## One fall after another

-- what is left once the first one fell
pub record FallsOn (process code : ℕ) (f g : Flat) : Type 0 where
  pub same : with_fallen g process code ≡ with_fallen f process code
  pub fewer : length (currents process g.services) < length (currents process f.services)

pub falls_next : (f : Flat) (process code number : ℕ) → Rising f.services
    → Some number ≡ option_map (λ (row : Service). row.number) (find (is_by process) f.services)
    → FallsOn process code f (if_found (λ (row : Service) (g : Flat). with_one_fallen g code row) (service_of f number) f)
falls_next f process code number rising first = by (find (is_by process) f.services) refl
  where
    by : (found : Option Service) → find (is_by process) f.services ≡ found
        → FallsOn process code f (if_found (λ (row : Service) (g : Flat). with_one_fallen g code row) (service_of f number) f)
    by None e = absurd (cc (first ∙ ap (option_map (λ (row : Service). row.number)) e))
    by (Some row) e =
        let is : number ≡ row.number = same_Some number row.number (first ∙ ap (option_map (λ (row : Service). row.number)) e) in
        let there : service_of f number ≡ Some row = ap (service_of f) is ∙ found_again f.services rising (is_by process) row e in
        subst (λ (o : Option Service). FallsOn process code f (if_found (λ (r : Service) (g : Flat). with_one_fallen g code r) o f))
        (sym there)
        (record {
          same = one_at_a_time f process code row rising e;
          fewer = omega (arith, ap length (fewer_left f process code row rising e));
        })

pub falls_done : (f : Flat) (process code : ℕ) → None ≡ option_map (λ (row : Service). row.number) (find (is_by process) f.services)
    → with_fallen f process code ≡ f
falls_done f process code none = none_left f process code (by (find (is_by process) f.services) none)
  where
    by : (found : Option Service) → None ≡ option_map (λ (row : Service). row.number) found → found ≡ None
    by None e = refl
    by (Some row) e = absurd (cc e)
