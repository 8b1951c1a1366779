-- Services with other numbers: their needs have a cycle no more than before.
use Rattle.std.proofs.Common.{ℕ, suc, ◌≡◌, ◌∙◌, ◌<◌, ◌≤◌, ◌+◌, ◌==◌, ◌||◌, Bool, true, false, cond, List, [], ◌∷◌, None, Some, filter, find}
use Rattle.std.proofs.Common.{map, refl, sym, ap, subst, arith, eqb, eqb-true, eq-eqb, ne_eqb}
use Rattle.std.specs.Prelude.{All, AllPairs}
use Rattle.std.specs.List.{AllZip}
use Rattle.std.proofs.lemmas.List.Elements.{All-cons, All-from_recursion, All-head, All-nil, All-tail, All-weaker}
use Rattle.std.proofs.lemmas.List.Folds.{list_any-append}
use Rattle.std.proofs.lemmas.List.Kept.{AllPairs-cons, AllPairs-filter}
use Rattle.scm_model.specs.declared.flat.Config.{Config}
use Rattle.scm_model.specs.declared.flat.Need.{Need}
use Rattle.scm_model.specs.declared.flat.NeedRow.{NeedRow}
use Rattle.scm_model.specs.declared.flat.Service.{Service}
use Rattle.scm_model.specs.Changes.{new_service}
use Rattle.scm_model.specs.Needs.{is_met, met_by, met_by_all, row_needs, needs_of, numbers_of}
use Rattle.scm_model.specs.Order.{is_cyclic}
use Rattle.scm_model.specs.Walks.{IsWalk, Needs}
use Rattle.dependency_index.proofs.Cycles.{acyclic_ends, cyclic_is, ends_acyclic}
use Rattle.dependency_index.proofs.Lists.{or_right}
use Rattle.record_table.specs.Recorded.{number_of}
use Rattle.row_slab.specs.Rowed.{AreRisingBy}
use Rattle.scm_rules.specs.Create.{new_status}
use Rattle.scm_rules.specs.Needs.{need_row, need_rows}
use Rattle.scm_rules.specs.Opening.{services_from}
use Rattle.scm_rules.proofs.Needed.{HasNoCycle, fewer}
use Rattle.record_journal.specs.Entries.{needs_in}
use Rattle.record_journal.specs.Services.{configs_of}
use Rattle.scm_text.specs.Numbers.{has}

-- ## Another number for each

abbrev AreAlike : List Service → List Service → Type 0
AreAlike ys xs = AllZip (λ (y x : Service). y.config ≡ x.config) ys xs

abbrev IsAbove : ℕ → List Service → Type 0
IsAbove k rows = All (λ (row : Service). k < row.number) rows

-- the number of the service at the place of the one with this number
moved : List Service → List Service → ℕ → ℕ
moved [] xs n = n
moved (y ∷ ys) [] n = n
moved (y ∷ ys) (x ∷ xs) n = cond (y.number == n) x.number (moved ys xs n)

met_above : (k n : ℕ) (need : Need) (ys : List Service) → IsAbove k ys → has (met_by (need_rows ys) need) n ≡ true → k < n
met_above k n need [] over h = absurd cc
met_above k n need (y ∷ ys) over h =
    let rest = met_above k n need ys (All-tail (λ (row : Service). k < row.number) y ys over) in
    elim (is_met need (need_row y)) as (λ m. has (numbers_of (cond m (need_row y ∷ filter (is_met need) (need_rows ys))
    (filter (is_met need) (need_rows ys)))) n ≡ true → k < n) [
      | true ↦ elim (eqb n y.number) as (λ b. eqb n y.number ≡ b → (b || has (met_by (need_rows ys) need) n) ≡ true → k < n) [
        | true ↦ λ e t. subst (λ (m : ℕ). k < m) (sym (eqb-true n y.number e)) (All-head (λ (row : Service). k < row.number) y ys over)
        | false ↦ λ e t. rest t
      ] refl
      | false ↦ λ t. rest t
    ] h

later : (row : Service) (rows : List Service) → AllPairs (λ (a b : Service). a.number < b.number) (row ∷ rows)
    → AllPairs (λ (a b : Service). a.number < b.number) rows
later row rows rising = λ i j d lt within. rising (suc i) (suc j) d (omega (arith, lt)) (omega (arith, within))

above : (row : Service) (rows : List Service) → AllPairs (λ (a b : Service). a.number < b.number) (row ∷ rows) → IsAbove row.number rows
above row rows rising = λ k d lt. rising 0 (suc k) d (omega arith) (omega (arith, lt))

itself : (n : ℕ) (rest : Bool) → (eqb n n || rest) ≡ true
itself n rest = rw (eq-eqb n n refl) refl

met_moved : (need : Need) (n : ℕ) (ys xs : List Service) → AreAlike ys xs → AllPairs (λ (a b : Service). a.number < b.number) ys
    → has (met_by (need_rows ys) need) n ≡ true
    → has (met_by (need_rows xs) need) (moved ys xs n) ≡ true
unfolding moved
met_moved need n [] xs alike rising h = absurd cc
met_moved need n (y ∷ ys) [] alike rising h = absurd alike
met_moved need n (y ∷ ys) (x ∷ xs) alike rising h =
    let rest = met_moved need n ys xs alike.1 (later y ys rising) in
    let same : is_met need (need_row y) ≡ is_met need (need_row x) = ap
    (λ (c : Config). is_met need (record { number = 0; name = c.name; group = c.group; needs = c.needs })) alike.0 in
    elim (is_met need (need_row x)) as (λ m. is_met need (need_row y) ≡ m → has (met_by (need_rows (y ∷ ys)) need) n ≡ true
    → has (numbers_of (cond m (need_row x ∷ filter (is_met need) (need_rows xs)) (filter (is_met need) (need_rows xs))))
    (moved (y ∷ ys) (x ∷ xs) n) ≡ true) [
      | true ↦ λ e t.
          let split : (eqb n y.number || has (met_by (need_rows ys) need) n) ≡ true =
          subst (λ m. has (numbers_of (cond m (need_row y ∷ filter (is_met need) (need_rows ys)) (filter (is_met need) (need_rows ys))))
          n ≡ true) e t in
          elim (y.number == n) as (λ b. (y.number == n) ≡ b → (eqb (cond b x.number (moved ys xs n)) x.number
          || has (met_by (need_rows xs) need) (cond b x.number (moved ys xs n))) ≡ true) [
            | true ↦ λ is. itself x.number (has (met_by (need_rows xs) need) x.number)
            | false ↦ λ is. or_right (eqb (moved ys xs n) x.number) (has (met_by (need_rows xs) need) (moved ys xs n))
                (rest (subst (λ b. (b || has (met_by (need_rows ys) need) n) ≡ true)
                (ne_eqb n y.number (λ q. absurd (let f = eq-eqb y.number n (sym q) in cc))) split))
          ] refl
      | false ↦ λ e t.
          let behind : has (met_by (need_rows ys) need) n ≡ true = subst
          (λ m. has (numbers_of (cond m (need_row y ∷ filter (is_met need) (need_rows ys)) (filter (is_met need) (need_rows ys)))) n ≡
          true) e t in
          let lt = met_above y.number n need ys (above y ys rising) behind in
          subst (λ b. has (met_by (need_rows xs) need) (cond b x.number (moved ys xs n)) ≡ true)
          (sym (ne_eqb y.number n (λ q. absurd (omega (arith, q, lt))))) (rest behind)
    ] same h

either : (a b c d : Bool) → (a ≡ true → c ≡ true) → (b ≡ true → d ≡ true) → (a || b) ≡ true → (c || d) ≡ true
either true b c d left right h = rw (left refl) refl
either false b c d left right h = or_right c d (right h)

all_moved : (n : ℕ) (ys xs : List Service) (needs : List Need) → AreAlike ys xs → AllPairs (λ (a b : Service). a.number < b.number) ys
    → has (met_by_all (need_rows ys) needs) n ≡ true
    → has (met_by_all (need_rows xs) needs) (moved ys xs n) ≡ true
all_moved n ys xs [] alike rising h = absurd cc
all_moved n ys xs (need ∷ needs) alike rising h =
    let small = list_any-append (eqb n) (met_by (need_rows ys) need) (met_by_all (need_rows ys) needs) in
    let great = list_any-append (eqb (moved ys xs n)) (met_by (need_rows xs) need) (met_by_all (need_rows xs) needs) in
    great
    ∙ either _ _ (has (met_by (need_rows xs) need) (moved ys xs n)) (has (met_by_all (need_rows xs) needs) (moved ys xs n))
    (met_moved need n ys xs alike rising) (all_moved n ys xs needs alike rising)
    (sym small ∙ h)

moved_above : (k n : ℕ) (found : NeedRow) (ys xs : List Service) → AreAlike ys xs → IsAbove k xs
    → find (λ (r : NeedRow). r.number == n) (need_rows ys) ≡ Some found → k < moved ys xs n
unfolding moved
moved_above k n found [] xs alike over h = absurd cc
moved_above k n found (y ∷ ys) [] alike over h = absurd alike
moved_above k n found (y ∷ ys) (x ∷ xs) alike over h =
    elim (y.number == n) as (λ b. cond b (Some (need_row y)) (find (λ (r : NeedRow). r.number == n) (need_rows ys)) ≡ Some found
    → k < cond b x.number (moved ys xs n)) [
      | true ↦ λ g. All-head (λ (row : Service). k < row.number) x xs over
      | false ↦ λ g. moved_above k n found ys xs alike.1 (All-tail (λ (row : Service). k < row.number) x xs over) g
    ] h

needs_moved : (n : ℕ) (found : NeedRow) (ys xs : List Service) → AreAlike ys xs → AllPairs (λ (a b : Service). a.number < b.number) xs
    → find (λ (r : NeedRow). r.number == n) (need_rows ys) ≡ Some found
    → row_needs (find (λ (r : NeedRow). r.number == moved ys xs n) (need_rows xs)) ≡ found.needs
unfolding moved
needs_moved n found [] xs alike rising h = absurd cc
needs_moved n found (y ∷ ys) [] alike rising h = absurd alike
needs_moved n found (y ∷ ys) (x ∷ xs) alike rising h =
    elim (y.number == n) as (λ b. cond b (Some (need_row y)) (find (λ (r : NeedRow). r.number == n) (need_rows ys)) ≡ Some found
    → row_needs (find (λ (r : NeedRow). r.number == cond b x.number (moved ys xs n)) (need_rows (x ∷ xs))) ≡ found.needs) [
      | true ↦ λ g. let is : need_row y ≡ found = cc in rw (eq-eqb x.number x.number refl) (ap (λ (c : Config). c.needs) (sym alike.0)
          ∙ ap (λ (r : NeedRow). r.needs) is)
      | false ↦ λ g.
          let lt = moved_above x.number n found ys xs alike.1 (above x xs rising) g in
          rw (ne_eqb x.number (moved ys xs n) (λ q. absurd (omega (arith, q, lt))))
          (needs_moved n found ys xs alike.1 (later x xs rising) g)
    ] h

step_moved : (ys xs : List Service) → AreAlike ys xs → AllPairs (λ (a b : Service). a.number < b.number) ys
    → AllPairs (λ (a b : Service). a.number < b.number) xs
    → (x y : ℕ) → Needs (needs_of (need_rows ys)) x y → Needs (needs_of (need_rows xs)) (moved ys xs x) (moved ys xs y)
step_moved ys xs alike rising_ys rising_xs x y h =
    elim (find (λ (r : NeedRow). r.number == x) (need_rows ys)) as (λ o. find (λ (r : NeedRow). r.number == x) (need_rows ys) ≡ o
    → has (met_by_all (need_rows ys) (row_needs o)) y ≡ true
    → has (needs_of (need_rows xs) (moved ys xs x)) (moved ys xs y) ≡ true) [
      | None ↦ λ e t. absurd cc
      | Some found ↦ λ e t. rw (needs_moved x found ys xs alike rising_xs e) (all_moved y ys xs found.needs alike rising_ys t)
    ] refl h

walk_moved : (small great : ℕ → List ℕ) (f : ℕ → ℕ) → ((x y : ℕ) → Needs small x y → Needs great (f x) (f y))
    → (from : ℕ) (between : List ℕ) (to : ℕ) → IsWalk small from between to → IsWalk great (f from) (map f between) (f to)
walk_moved small great f within from [] to w = within from to w
walk_moved small great f within from (via ∷ between) to w = (within from via w.0, walk_moved small great f within via between to w.1)

pub renumbered : (ys xs : List Service) → AreAlike ys xs → AllPairs (λ (a b : Service). a.number < b.number) ys
    → AllPairs (λ (a b : Service). a.number < b.number) xs → HasNoCycle xs → HasNoCycle ys
renumbered ys xs alike rising_ys rising_xs free from between w =
    free (moved ys xs from) (map (moved ys xs) between)
    (walk_moved (needs_of (need_rows ys)) (needs_of (need_rows xs)) (moved ys xs)
    (step_moved ys xs alike rising_ys rising_xs) from between from w)

-- ## Configurations that are left out

from_first : (first : ℕ) (configs : List Config) → All (λ (row : Service). first ≤ row.number) (services_from first configs)
from_first first [] = All-nil (λ (row : Service). first ≤ row.number)
from_first first (config ∷ configs) =
    All-cons (λ (row : Service). first ≤ row.number) (new_service first config (new_status config.kind)) (services_from (first + 1) configs)
    (omega arith)
    (All-weaker (λ (row : Service). first + 1 ≤ row.number) (λ (row : Service). first ≤ row.number) (λ row h. omega (arith, h))
    (services_from (first + 1) configs) (from_first (first + 1) configs))

rising_from : (first : ℕ) (configs : List Config) → AllPairs (λ (a b : Service). a.number < b.number) (services_from first configs)
rising_from first [] = λ i j d lt within. absurd (omega (arith, within))
rising_from first (config ∷ configs) =
    AllPairs-cons (λ (a b : Service). a.number < b.number) (new_service first config (new_status config.kind))
    (services_from (first + 1) configs)
    (All-weaker (λ (row : Service). first + 1 ≤ row.number) (λ (row : Service). first < row.number) (λ row h. omega (arith, h))
    (services_from (first + 1) configs) (from_first (first + 1) configs))
    (rising_from (first + 1) configs)

filter_alike : (p : Config → Bool) (first second : ℕ) (configs : List Config)
    → AreAlike (services_from first (filter p configs)) (filter (λ (row : Service). p row.config) (services_from second configs))
filter_alike p first second [] = tt
filter_alike p first second (config ∷ configs) =
    elim (p config) as (λ b. AreAlike (services_from first (cond b (config ∷ filter p configs) (filter p configs)))
    (cond b (new_service second config (new_status config.kind) ∷ filter (λ (row : Service). p row.config)
    (services_from (second + 1) configs)) (filter (λ (row : Service). p row.config) (services_from (second + 1) configs)))) [
      | true ↦ (refl, filter_alike p (first + 1) (second + 1) configs)
      | false ↦ filter_alike p first (second + 1) configs
    ]

-- no cycle comes where configurations are left out
pub fewer_configs : (p : Config → Bool) (configs : List Config) → HasNoCycle (services_from 1 configs)
    → HasNoCycle (services_from 1 (filter p configs))
fewer_configs p configs free =
    let kept = filter (λ (row : Service). p row.config) (services_from 1 configs) in
    renumbered (services_from 1 (filter p configs)) kept (filter_alike p 1 1 configs) (rising_from 1 (filter p configs))
    (AllPairs-filter (λ (a b : Service). a.number < b.number) (λ (row : Service). p row.config) (services_from 1 configs)
    (rising_from 1 configs))
    (fewer (λ (row : Service). p row.config) (services_from 1 configs) (rising_from 1 configs) free)

-- ## Services and their configurations

other_way : (ys xs : List Service) → AreAlike ys xs → AreAlike xs ys
other_way [] [] alike = tt
other_way [] (x ∷ xs) alike = absurd alike
other_way (y ∷ ys) [] alike = absurd alike
other_way (y ∷ ys) (x ∷ xs) alike = (sym alike.0, other_way ys xs alike.1)

alike_from : (first : ℕ) (rows : List Service) → AreAlike (services_from first (configs_of rows)) rows
alike_from first [] = tt
alike_from first (row ∷ rows) = (refl, alike_from (first + 1) rows)

rising_pairs : (rows : List Service) → AreRisingBy number_of rows → AllPairs (λ (a b : Service). a.number < b.number) rows
rising_pairs [] rising = λ i j d lt within. absurd (omega (arith, within))
rising_pairs (row ∷ rows) rising =
    AllPairs-cons (λ (a b : Service). a.number < b.number) row rows
    (All-from_recursion (λ (other : Service). row.number < other.number) rows rising.0) (rising_pairs rows rising.1)

-- services have a cycle no more than their configurations, which are numbered from 1
pub free_rows : (rows : List Service) → AreRisingBy number_of rows → HasNoCycle (services_from 1 (configs_of rows)) → HasNoCycle rows
free_rows rows rising =
    renumbered rows (services_from 1 (configs_of rows)) (other_way (services_from 1 (configs_of rows)) rows (alike_from 1 rows))
    (rising_pairs rows rising) (rising_from 1 (configs_of rows))

-- nor less
free_configs : (rows : List Service) → AreRisingBy number_of rows → HasNoCycle rows → HasNoCycle (services_from 1 (configs_of rows))
free_configs rows rising =
    renumbered (services_from 1 (configs_of rows)) rows (alike_from 1 rows) (rising_from 1 (configs_of rows)) (rising_pairs rows rising)

pub same_cycles : (rows : List Service) → AreRisingBy number_of rows → is_cyclic (need_rows rows) ≡ is_cyclic (needs_in (configs_of rows))
same_cycles rows rising =
    elim (is_cyclic (needs_in (configs_of rows))) as (λ b. is_cyclic (needs_in (configs_of rows)) ≡ b → is_cyclic (need_rows rows) ≡ b) [
      | true ↦ λ e. cyclic_is (need_rows rows)
          (λ free. absurd (let none = acyclic_ends (needs_in (configs_of rows)) (free_configs rows rising free) in cc))
      | false ↦ λ e. acyclic_ends (need_rows rows) (free_rows rows rising (ends_acyclic (needs_in (configs_of rows)) e))
    ] refl
