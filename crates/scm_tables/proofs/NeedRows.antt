-- Services as rows of needs.
use Rattle.std.proofs.Common.{ℕ, ◌≡◌, ◌∙◌, ◌<◌, ◌==◌, ◌||◌, ◌+◌, ◌++◌, true, false, cond, List, [], ◌∷◌, Some, get_or, length, take, map}
use Rattle.std.proofs.Common.{filter, refl, sym, ap, subst, arith, eqb}
use Rattle.std.specs.Prelude.{Bool, All, AllPairs, IsSome, IsTrue, find, not}
use Rattle.std.specs.List.{AllByRecursion}
use Rattle.std.proofs.lemmas.List.{append-nil, get_or-take, get_or_default, length-map, length-take, take_more}
use Rattle.std.proofs.lemmas.List.Elements.{All-head, All-tail}
use Rattle.scm_model.specs.declared.flat.Config.{Config}
use Rattle.scm_model.specs.Changes.{configured_if}
use Rattle.dependency_index.proofs.Once.{map_fresh}
use Rattle.scm_rules.proofs.Needed.{instead_all, rows_added}
use Rattle.scm_tables.specs.Needing.{changed_needs}
use Rattle.std.proofs.lemmas.Bool.{eq-eqb, eqb-true, false≢true}
use Rattle.scm_model.specs.declared.flat.Service.{Service}
use Rattle.scm_model.specs.declared.flat.NeedRow.{NeedRow}
use Rattle.scm_model.specs.Needs.{instead, needs_of, numbers_of, with_row}
use Rattle.scm_model.specs.Order.{is_cyclic}
use Rattle.scm_model.specs.Walks.{IsAcyclic}
use Rattle.dependency_index.proofs.Cycles.{acyclic_ends, ends_acyclic}
use Rattle.scm_rules.specs.Needs.{need_row, need_row_of, need_rows}
use Rattle.scm_text.specs.Numbers.{has}

-- a service that is there has a row
pub has_row : (rows : List Service) (n : ℕ) → IsSome (find (λ (row : Service). row.number == n) rows)
    → has (numbers_of (need_rows rows)) n ≡ true
has_row [] n there = absurd (false≢true there)
has_row (row ∷ rows) n there =
    elim (row.number == n) as (λ b. (row.number == n) ≡ b → IsSome (cond b (Some row) (find (λ (other : Service). other.number == n) rows))
    → (eqb n row.number || has (numbers_of (need_rows rows)) n) ≡ true) [
      | true ↦ λ e t. rw (eq-eqb n row.number (sym (eqb-true row.number n e))) refl
      | false ↦ λ e t. elim (eqb n row.number) as (λ b. (b || has (numbers_of (need_rows rows)) n) ≡ true) [
        | true ↦ refl
        | false ↦ has_row rows n t
      ]
    ] refl there

-- rows that are found to have no cycle
pub found_free : (cyclic : Bool) (rows : List NeedRow) → cyclic ≡ is_cyclic rows → IsTrue (not cyclic) → IsAcyclic (needs_of rows)
found_free true rows is free = absurd cc
found_free false rows is free = ends_acyclic rows (sym is)

-- needs that are known to have no cycle
pub cyclic_not : (rows : List NeedRow) → IsAcyclic (needs_of rows) → true ≡ not (is_cyclic rows)
cyclic_not rows none = ap not (sym (acyclic_ends rows none))

-- ## What each change of the services makes of the rows

-- a change that leaves each service's row
pub same_rows : (change : Service → Service) → ((row : Service) → need_row (change row) ≡ need_row row) → (rows : List Service)
    → need_rows rows ≡ need_rows (map change rows)
same_rows change same [] = refl
same_rows change same (row ∷ rows) = ap (λ (r : NeedRow). r ∷ need_rows rows) (sym (same row))
    ∙ ap (λ (rs : List NeedRow). need_row (change row) ∷ rs) (same_rows change same rows)

-- another configuration
pub rows_changed : (number : ℕ) (config : Config) (rows : List Service)
    → changed_needs (need_rows rows) number config ≡ need_rows (map (configured_if number config) rows)
rows_changed number config rows =
    let new = need_row_of number config in
    elim (has (numbers_of (need_rows rows)) number) as (λ b. has (numbers_of (need_rows rows)) number ≡ b
    → cond b (map (instead new) (need_rows rows) ++ cond b [] (new ∷ [])) (need_rows rows) ≡ need_rows
    (map (configured_if number config) rows)) [
      | true ↦ λ e. append-nil (map (instead new) (need_rows rows)) ∙ instead_all number config rows
      | false ↦ λ e. sym (map_fresh new (need_rows rows) e) ∙ instead_all number config rows
    ] refl

-- a service less
pub rows_without : (number : ℕ) (rows : List Service) → filter (λ (row : NeedRow). not (row.number == number)) (need_rows rows) ≡ need_rows
    (filter (λ (row : Service). not (row.number == number)) rows)
rows_without number [] = refl
rows_without number (row ∷ rows) =
    elim (row.number == number) as (λ b. cond (not b) (need_row row ∷ filter (λ (r : NeedRow). not (r.number == number)) (need_rows rows))
    (filter (λ (r : NeedRow). not (r.number == number)) (need_rows rows))
    ≡ need_rows (cond (not b) (row ∷ filter (λ (r : Service). not (r.number == number)) rows)
    (filter (λ (r : Service). not (r.number == number)) rows))) [
      | true ↦ rows_without number rows
      | false ↦ ap (λ (rs : List NeedRow). need_row row ∷ rs) (rows_without number rows)
    ]

-- a number above those of all services
pub next_above : (n : ℕ) (rows : List Service) → All (λ (row : Service). row.number < n) rows
    → AllByRecursion (λ (row : NeedRow). row.number < n) (need_rows rows)
next_above n [] below = tt
next_above n (row ∷ rows) below = (
  All-head (λ (r : Service). r.number < n) row rows below,
  next_above n rows (All-tail (λ (r : Service). r.number < n) row rows below),
)

-- those before a service have numbers below its own
pub before_below : (rows : List Service) (i : ℕ) (row : Service) → AllPairs (λ (a b : Service). a.number < b.number) rows → i < length rows
    → row ≡ get_or rows i row → All (λ (r : Service). r.number < row.number) (take i rows)
before_below rows i row rising lt is k d within =
    let less : k < i = omega (arith, within, length-take i rows) in
    rw (get_or-take i rows k d less) (subst (λ (r : Service). (get_or rows k d).number < r.number) (get_or_default rows i d row lt ∙ sym is)
    (rising k i d less lt))

pub rows_more : (rows : List Service) (i : ℕ) (row : Service) → AllPairs (λ (a b : Service). a.number < b.number) rows → i < length rows
    → row ≡ get_or rows i row
    → with_row (need_rows (take i rows)) (need_row row) ≡ need_rows (take (i + 1) rows)
rows_more rows i row rising lt is =
    sym (rows_added (take i rows) row (before_below rows i row rising lt is))
    ∙ ap need_rows (sym (take_more rows i row lt ∙ ap (λ (r : Service). take i rows ++ r ∷ []) (sym is)))

pub same_length : (graph : List NeedRow) (rows : List Service) → graph ≡ need_rows rows → length graph ≡ length rows
same_length graph rows is = ap (λ (g : List NeedRow). length g) is ∙ length-map rows need_row
