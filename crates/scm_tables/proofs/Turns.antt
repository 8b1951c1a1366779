-- What changes make of the services, by number.
use Rattle.std.proofs.Common.{ℕ, ◌≡◌, ◌≢◌, ◌∙◌, suc, List, [], ◌∷◌, Result, Ok, Err, map, refl}
use Rattle.std.proofs.Common.{ap, sym, subst, ◌<◌, ◌++◌, get_or, length, length-append, eq-eqb, inl, inr, arith}
use Rattle.std.specs.Prelude.{AllPairs}
use Rattle.std.specs.List.{AllByRecursion}
use Rattle.std.proofs.lemmas.Bool.{cases_order, ne_eqb}
use Rattle.row_slab.specs.Rowed.{altered_at}
use Rattle.record_table.specs.Recorded.{number_of}
use Rattle.scm_model.specs.declared.flat.Service.{Service}
use Rattle.scm_model.specs.declared.flat.Status.{Status}
use Rattle.scm_rules.specs.Reports.{moved_by, reported_if}
use Rattle.status_machine.specs.Moves.{take_report}
use Rattle.scm_tables.specs.Turned.{running_as}

-- ## By number

module _ (n : ℕ) (changed change : Service → Service) (here : (row : Service) → row.number ≡ n → change row ≡ changed row)
    (elsewhere : (row : Service) → row.number ≢ n → change row ≡ row) where
  altered_one : (row : Service) → altered_at number_of n changed row ≡ change row
  altered_one row =
      elim (cases_order row.number n) [
        | inl same ↦ rw (eq-eqb row.number n same) (sym (here row same))
        | inr apart ↦
            let other : row.number ≢ n = λ same. elim apart [ inl less ↦ omega arith | inr more ↦ omega arith ] in
            rw (ne_eqb row.number n other) (sym (elsewhere row other))
      ]

  pub altered_is : (rows : List Service) → map (altered_at number_of n changed) rows ≡ map change rows
  altered_is [] = refl
  altered_is (row ∷ rows) = ap (λ (r : Service). r ∷ map (altered_at number_of n changed) rows) (altered_one row)
      ∙ ap (λ (rs : List Service). change row ∷ rs) (altered_is rows)

-- two changes of one service, the first of which leaves its number
pub altered_twice : (n : ℕ) (first second change : Service → Service) → ((row : Service) → (first row).number ≡ row.number)
    → ((row : Service) → row.number ≡ n → change row ≡ second (first row)) → ((row : Service) → row.number ≢ n → change row ≡ row)
    → (rows : List Service) → map (altered_at number_of n second) (map (altered_at number_of n first) rows) ≡ map change rows
altered_twice n first second change same here elsewhere [] = refl
altered_twice n first second change same here elsewhere (row ∷ rows) =
    ap (λ (r : Service). r ∷ map (altered_at number_of n second) (map (altered_at number_of n first) rows)) one
    ∙ ap (λ (rs : List Service). change row ∷ rs) (altered_twice n first second change same here elsewhere rows)
  where
    one : altered_at number_of n second (altered_at number_of n first row) ≡ change row
    one = elim (cases_order row.number n) [
      | inl is ↦ rw (eq-eqb row.number n is, eq-eqb (first row).number n (same row ∙ is)) (sym (here row is))
      | inr apart ↦
          let other : row.number ≢ n = λ is. elim apart [ inl less ↦ omega arith | inr more ↦ omega arith ] in
          rw (ne_eqb row.number n other, ne_eqb row.number n other) (sym (elsewhere row other))
    ]

-- ## What each change makes of a service

moved_is : (row : Service) (told : Result Status ℕ) → running_as (moved_by row told) row ≡ moved_by row told
moved_is row (Ok status) = refl
moved_is row (Err code) = refl

pub reported_here : (n : ℕ) (report : Status) (row : Service) → row.number ≡ n
    → reported_if n report row ≡ running_as (moved_by row (take_report row.status report)) row
reported_here n report row is = rw (eq-eqb row.number n is) (sym (moved_is row (take_report row.status report)))

-- ## Services in order

at_middle : (xs ys : List Service) (y d : Service) → get_or (xs ++ y ∷ ys) (length xs) d ≡ y
at_middle [] ys y d = refl
at_middle (x ∷ xs) ys y d = at_middle xs ys y d

-- those before one of rising services have numbers below its own
pub all_below : (xs : List Service) (y : Service) (ys : List Service) → AllPairs (λ (a b : Service). a.number < b.number) (xs ++ y ∷ ys)
    → AllByRecursion (λ (row : Service). row.number < y.number) xs
all_below [] y ys rising = tt
all_below (x ∷ xs) y ys rising = (
  subst (λ (r : Service). x.number < r.number) (at_middle xs ys y x) (rising 0 (suc (length xs)) x (omega arith)
      (omega (arith, length-append xs (y ∷ ys)))),
  all_below xs y ys (λ i j d less within. rising (suc i) (suc j) d (omega (arith, less)) (omega (arith, within))),
)
