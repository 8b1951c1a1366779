-- The graph of needs: what each change of the services makes of it.
use Rattle.std.proofs.Common.{ℕ, suc, ◌≡◌, ◌∙◌, ◌<◌, ◌==◌, ◌||◌, Bool, true, false, cond, List, [], ◌∷◌, ◌++◌, Option, None, Some, filter}
use Rattle.std.proofs.Common.{find, map, ap, sym, refl, subst, arith, eqb, eqb-true, eq-eqb, ne_eqb}
use Rattle.std.specs.Prelude.{All, AllPairs}
use Rattle.std.proofs.lemmas.List.{append-nil, map-append}
use Rattle.std.proofs.lemmas.List.Elements.{All-head, All-tail}
use Rattle.std.proofs.lemmas.List.Folds.{list_any-append}
use Rattle.scm_model.specs.declared.flat.Config.{Config}
use Rattle.scm_model.specs.declared.flat.Need.{Need}
use Rattle.scm_model.specs.declared.flat.Service.{Service}
use Rattle.scm_model.specs.Changes.{configured_if}
use Rattle.scm_model.specs.declared.flat.NeedRow.{NeedRow}
use Rattle.scm_model.specs.Needs.{instead, is_met, met_by, met_by_all, row_needs, needs_of, numbers_of, with_row}
use Rattle.scm_model.specs.Order.{is_cyclic}
use Rattle.scm_model.specs.Walks.{IsAcyclic, IsWalk, Needs}
use Rattle.dependency_index.proofs.Cycles.{ends_acyclic}
use Rattle.dependency_index.proofs.Lists.{or_right}
use Rattle.dependency_index.proofs.Once.{map_fresh, push_is}
use Rattle.scm_rules.specs.Needs.{need_row, need_row_of, need_rows}
use Rattle.scm_text.specs.Numbers.{has}

-- the needs of services have no cycle
abbrev pub HasNoCycle : List Service → Type 0
HasNoCycle services = IsAcyclic (needs_of (need_rows services))

-- ## A row in place of another, or more

number_free : (n : ℕ) (rows : List Service) → All (λ (row : Service). row.number < n) rows → has (numbers_of (need_rows rows)) n ≡ false
number_free n [] below = refl
number_free n (row ∷ rows) below =
    let here = All-head (λ (r : Service). r.number < n) row rows below in
    rw (ne_eqb n row.number (λ e. absurd (omega (arith, e, here)))) (number_free n rows
    (All-tail (λ (r : Service). r.number < n) row rows below))

-- a service more, with a number that none has
pub rows_added : (rows : List Service) (new : Service) → All (λ (row : Service). row.number < new.number) rows
    → need_rows (rows ++ new ∷ []) ≡ with_row (need_rows rows) (need_row new)
rows_added rows new below = map-append need_row rows (new ∷ []) ∙ push_is (need_rows rows) (need_row new)
    (number_free new.number rows below)

abbrev pub replaced : Config → Service → Service
replaced config row = record row { config = config; status = record row.status { kind = config.kind } }

instead_is : (number : ℕ) (config : Config) (row : Service) → instead (need_row_of number config) (need_row row) ≡ need_row
    (configured_if number config row)
instead_is number config row =
    elim (row.number == number) as (λ b. (row.number == number) ≡ b → cond b (need_row_of number config) (need_row row) ≡ need_row
    (cond b (replaced config row) row)) [
      | true ↦ λ e. ap (λ (n : ℕ). need_row_of n config) (sym (eqb-true row.number number e))
      | false ↦ λ e. refl
    ] refl

pub instead_all : (number : ℕ) (config : Config) (rows : List Service) →
    map (instead (need_row_of number config)) (need_rows rows) ≡ need_rows
    (map (configured_if number config) rows)
instead_all number config [] = refl
instead_all number config (row ∷ rows) =
    ap (λ (r : NeedRow). r ∷ map (instead (need_row_of number config)) (need_rows rows)) (instead_is number config row)
    ∙ ap (λ (rs : List NeedRow). need_row (configured_if number config row) ∷ rs) (instead_all number config rows)

number_there : (number : ℕ) (row : Service) (rows : List Service) → find (λ (r : Service). r.number == number) rows ≡ Some row
    → has (numbers_of (need_rows rows)) number ≡ true
number_there number row [] found = absurd cc
number_there number row (first ∷ rows) found =
    elim (first.number == number) as (λ b. (first.number == number) ≡ b
    → cond b (Some first) (find (λ (r : Service). r.number == number) rows) ≡ Some row
    → has (numbers_of (need_rows (first ∷ rows))) number ≡ true) [
      | true ↦ λ e h. rw (eq-eqb number first.number (sym (eqb-true first.number number e))) refl
      | false ↦ λ e h. or_right (eqb number first.number) (has (numbers_of (need_rows rows)) number) (number_there number row rows h)
    ] refl found

-- a service that is there with another configuration
pub rows_configured : (number : ℕ) (config : Config) (row : Service) (rows : List Service)
    → find (λ (r : Service). r.number == number) rows ≡ Some row
    → need_rows (map (configured_if number config) rows) ≡ with_row (need_rows rows) (need_row_of number config)
rows_configured number config row rows found =
    sym (instead_all number config rows)
    ∙ sym (append-nil (map (instead (need_row_of number config)) (need_rows rows)))
    ∙ ap (λ (b : Bool). map (instead (need_row_of number config)) (need_rows rows) ++ cond b [] (need_row_of number config ∷ []))
    (sym (number_there number row rows found))

-- a service with another configuration, whether it is there or not
pub still_free : (number : ℕ) (config : Config) (rows : List Service) → HasNoCycle rows
    → IsAcyclic (needs_of (with_row (need_rows rows) (need_row_of number config))) → HasNoCycle (map (configured_if number config) rows)
still_free number config rows before after =
    let new : NeedRow = need_row_of number config in
    subst (λ (g : List NeedRow). IsAcyclic (needs_of g)) (instead_all number config rows)
    (elim (has (numbers_of (need_rows rows)) number) as (λ b. has (numbers_of (need_rows rows)) number ≡ b
    → IsAcyclic (needs_of (map (instead new) (need_rows rows) ++ cond b [] (new ∷ [])))
    → IsAcyclic (needs_of (map (instead new) (need_rows rows)))) [
      | true ↦ λ e free. subst (λ (g : List NeedRow). IsAcyclic (needs_of g)) (append-nil (map (instead new) (need_rows rows))) free
      | false ↦ λ e free. subst (λ (g : List NeedRow). IsAcyclic (needs_of g)) (sym (map_fresh new (need_rows rows) e)) before
    ] refl after)

-- the graph that a test has found without a cycle
pub tested : (rows : List Service) (graph : List NeedRow) → need_rows rows ≡ graph → is_cyclic graph ≡ false → HasNoCycle rows
tested rows graph same free = subst (λ (g : List NeedRow). IsAcyclic (needs_of g)) (sym same) (ends_acyclic graph free)

-- ## Rows that stay as they are

rows_same : (change : Service → Service) → ((row : Service) → need_row (change row) ≡ need_row row) → (rows : List Service)
    → need_rows (map change rows) ≡ need_rows rows
rows_same change same [] = refl
rows_same change same (row ∷ rows) =
    ap (λ (r : NeedRow). r ∷ need_rows (map change rows)) (same row) ∙ ap (λ (rs : List NeedRow). need_row row ∷ rs)
    (rows_same change same rows)

-- a change that leaves each service's row
pub same_graph : (change : Service → Service) → ((row : Service) → need_row (change row) ≡ need_row row) → (rows : List Service)
    → HasNoCycle rows → HasNoCycle (map change rows)
same_graph change same rows free = subst (λ (g : List NeedRow). IsAcyclic (needs_of g)) (sym (rows_same change same rows)) free

-- ## Services that leave

-- what a service needs in a part of the graph it needs in the whole
walk_within : (small great : ℕ → List ℕ) → ((x y : ℕ) → Needs small x y → Needs great x y) → (from : ℕ) (between : List ℕ) (to : ℕ)
    → IsWalk small from between to → IsWalk great from between to
walk_within small great within from [] to w = within from to w
walk_within small great within from (via ∷ between) to w = (within from via w.0, walk_within small great within via between to w.1)

met_within : (p : Service → Bool) (need : Need) (y : ℕ) (rows : List Service) → has (met_by (need_rows (filter p rows)) need) y ≡ true
    → has (met_by (need_rows rows) need) y ≡ true
met_within p need y [] h = h
met_within p need y (row ∷ rows) h =
    elim (p row) as (λ b. has (met_by (need_rows (cond b (row ∷ filter p rows) (filter p rows))) need) y ≡ true
    → has (met_by (need_rows (row ∷ rows)) need) y ≡ true) [
      | true ↦ elim (is_met need (need_row row)) as (λ m. has (numbers_of
          (cond m (need_row row ∷ filter (is_met need) (need_rows (filter p rows))) (filter (is_met need) (need_rows (filter p rows))))) y ≡
          true
          → has (numbers_of (cond m (need_row row ∷ filter (is_met need) (need_rows rows)) (filter (is_met need) (need_rows rows)))) y ≡
          true) [
            | true ↦ elim (eqb y row.number) as (λ b. (b || has (met_by (need_rows (filter p rows)) need) y) ≡ true
                → (b || has (met_by (need_rows rows) need) y) ≡ true)
                [ true ↦ λ g. refl | false ↦ λ g. met_within p need y rows g ]
            | false ↦ λ g. met_within p need y rows g
          ]
      | false ↦ λ g. elim (is_met need (need_row row)) as (λ m. has (numbers_of
          (cond m (need_row row ∷ filter (is_met need) (need_rows rows)) (filter (is_met need) (need_rows rows)))) y ≡ true) [
            | true ↦ or_right (eqb y row.number) (has (met_by (need_rows rows) need) y) (met_within p need y rows g)
            | false ↦ met_within p need y rows g
          ]
    ] h

either : (a b c d : Bool) → (a ≡ true → c ≡ true) → (b ≡ true → d ≡ true) → (a || b) ≡ true → (c || d) ≡ true
either true b c d left right h = rw (left refl) refl
either false b c d left right h = or_right c d (right h)

all_within : (p : Service → Bool) (y : ℕ) (rows : List Service) (needs : List Need)
    → has (met_by_all (need_rows (filter p rows)) needs) y ≡ true → has (met_by_all (need_rows rows) needs) y ≡ true
all_within p y rows [] h = h
all_within p y rows (need ∷ needs) h =
    let small = list_any-append (eqb y) (met_by (need_rows (filter p rows)) need) (met_by_all (need_rows (filter p rows)) needs) in
    let great = list_any-append (eqb y) (met_by (need_rows rows) need) (met_by_all (need_rows rows) needs) in
    great ∙ either _ _ (has (met_by (need_rows rows) need) y) (has (met_by_all (need_rows rows) needs) y) (met_within p need y rows)
    (all_within p y rows needs) (sym small ∙ h)

later : (rows : List Service) (row : Service) → AllPairs (λ (a b : Service). a.number < b.number) (row ∷ rows)
    → AllPairs (λ (a b : Service). a.number < b.number) rows
later rows row rising = λ i j d lt within. rising (suc i) (suc j) d (omega arith) (omega arith)

above : (rows : List Service) (row : Service) → AllPairs (λ (a b : Service). a.number < b.number) (row ∷ rows)
    → All (λ (r : Service). row.number < r.number) rows
above rows row rising = λ k d lt. rising 0 (suc k) d (omega arith) (omega arith)

-- no later row has a number
none_later : (p : Service → Bool) (n : ℕ) (rows : List Service) → All (λ (r : Service). n < r.number) rows
    → find (λ (r : NeedRow). r.number == n) (need_rows (filter p rows)) ≡ None
none_later p n [] above = refl
none_later p n (row ∷ rows) above =
    let here = All-head (λ (r : Service). n < r.number) row rows above in
    let rest = none_later p n rows (All-tail (λ (r : Service). n < r.number) row rows above) in
    elim (p row) as (λ b. find (λ (r : NeedRow). r.number == n) (need_rows (cond b (row ∷ filter p rows) (filter p rows))) ≡ None) [
      | true ↦ rw (ne_eqb row.number n (λ e. absurd (omega (arith, e, here)))) rest
      | false ↦ rest
    ]

-- a row that is found in a part of the rows is found in the whole
found_within : (p : Service → Bool) (n : ℕ) (found : NeedRow) (rows : List Service) → AllPairs (λ (a b : Service). a.number < b.number) rows
    → find (λ (r : NeedRow). r.number == n) (need_rows (filter p rows)) ≡ Some found
    → find (λ (r : NeedRow). r.number == n) (need_rows rows) ≡ Some found
found_within p n found [] rising h = h
found_within p n found (row ∷ rows) rising h =
    elim (p row) as (λ b. find (λ (r : NeedRow). r.number == n) (need_rows (cond b (row ∷ filter p rows) (filter p rows))) ≡ Some found
    → find (λ (r : NeedRow). r.number == n) (need_rows (row ∷ rows)) ≡ Some found) [
      | true ↦ elim (row.number == n) as (λ b. cond b (Some (need_row row))
          (find (λ (r : NeedRow). r.number == n) (need_rows (filter p rows))) ≡ Some found
          → cond b (Some (need_row row)) (find (λ (r : NeedRow). r.number == n) (need_rows rows)) ≡ Some found) [
            | true ↦ λ g. g
            | false ↦ λ g. found_within p n found rows (later rows row rising) g
          ]
      | false ↦ λ g. elim (row.number == n) as (λ b. (row.number == n) ≡ b
          → cond b (Some (need_row row)) (find (λ (r : NeedRow). r.number == n) (need_rows rows)) ≡ Some found) [
            | true ↦ λ e. absurd (let none = none_later p n rows (subst (λ m. All (λ (r : Service). m < r.number) rows)
                (eqb-true row.number n e) (above rows row rising)) in cc)
            | false ↦ λ e. found_within p n found rows (later rows row rising) g
          ] refl
    ] h

needs_found : (p : Service → Bool) (rows : List Service) (x y : ℕ) (found : Option NeedRow)
    → AllPairs (λ (a b : Service). a.number < b.number) rows
    → find (λ (r : NeedRow). r.number == x) (need_rows (filter p rows)) ≡ found
    → has (met_by_all (need_rows (filter p rows)) (row_needs found)) y ≡ true → has (needs_of (need_rows rows) x) y ≡ true
needs_found p rows x y None rising e h = absurd cc
needs_found p rows x y (Some found) rising e h =
    rw (found_within p x found rows rising e) (all_within p y rows found.needs h)

needs_within : (p : Service → Bool) (rows : List Service) → AllPairs (λ (a b : Service). a.number < b.number) rows → (x y : ℕ)
    → Needs (needs_of (need_rows (filter p rows))) x y → Needs (needs_of (need_rows rows)) x y
needs_within p rows rising x y h = needs_found p rows x y (find (λ (r : NeedRow). r.number == x) (need_rows (filter p rows))) rising refl h

-- no cycle comes where services leave
pub fewer : (p : Service → Bool) (rows : List Service) → AllPairs (λ (a b : Service). a.number < b.number) rows → HasNoCycle rows
    → HasNoCycle (filter p rows)
fewer p rows rising free from between w =
    free from between (walk_within (needs_of (need_rows (filter p rows))) (needs_of (need_rows rows))
    (needs_within p rows rising) from between from w)
