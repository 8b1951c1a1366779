-- Services in order of number, as they come, go and change.
use Rattle.std.proofs.Common.{ℕ, ◌≡◌, ◌<◌, Bool, true, false, cond, List, [], ◌∷◌, ◌++◌, filter, map, eqb, arith, refl}
use Rattle.std.specs.List.{AllByRecursion}
use Rattle.scm_model.specs.declared.flat.Service.{Service}
use Rattle.row_slab.specs.Rowed.{AreRisingBy, altered_at}
use Rattle.record_table.specs.Recorded.{number_of}

pub rising_push : (rows : List Service) (new : Service) → AreRisingBy number_of rows
    → AllByRecursion (λ (row : Service). row.number < new.number) rows → AreRisingBy number_of (rows ++ new ∷ [])
rising_push [] new rising below = (tt, tt)
rising_push (row ∷ rows) new rising below = (by rows rising.0, rising_push rows new rising.1 below.1)
  where
    by : (rs : List Service) → AllByRecursion (λ (other : Service). row.number < other.number) rs
        → AllByRecursion (λ (other : Service). row.number < other.number) (rs ++ new ∷ [])
    by [] all = (below.0, tt)
    by (r ∷ rs) all = (all.0, by rs all.1)

all_filter : (n : ℕ) (p : Service → Bool) (rows : List Service) → AllByRecursion (λ (row : Service). n < row.number) rows
    → AllByRecursion (λ (row : Service). n < row.number) (filter p rows)
all_filter n p [] all = tt
all_filter n p (row ∷ rows) all =
    elim (p row) as (λ b. AllByRecursion (λ (r : Service). n < r.number) (cond b (row ∷ filter p rows) (filter p rows))) [
      | true ↦ (all.0, all_filter n p rows all.1)
      | false ↦ all_filter n p rows all.1
    ]

pub rising_filter : (p : Service → Bool) (rows : List Service) → AreRisingBy number_of rows → AreRisingBy number_of (filter p rows)
rising_filter p [] rising = tt
rising_filter p (row ∷ rows) rising =
    elim (p row) as (λ b. AreRisingBy number_of (cond b (row ∷ filter p rows) (filter p rows))) [
      | true ↦ (all_filter row.number p rows rising.0, rising_filter p rows rising.1)
      | false ↦ rising_filter p rows rising.1
    ]

-- a change that leaves each number
pub rising_map : (change : Service → Service) → ((row : Service) → (change row).number ≡ row.number) → (rows : List Service)
    → AreRisingBy number_of rows → AreRisingBy number_of (map change rows)
rising_map change same [] rising = tt
rising_map change same (row ∷ rows) rising = (by rows rising.0, rising_map change same rows rising.1)
  where
    by : (rs : List Service) → AllByRecursion (λ (other : Service). row.number < other.number) rs
        → AllByRecursion (λ (other : Service). (change row).number < other.number) (map change rs)
    by [] all = tt
    by (r ∷ rs) all = (omega (arith, all.0, same row, same r), by rs all.1)

pub altered_number : (n : ℕ) (change : Service → Service) → ((row : Service) → (change row).number ≡ row.number) → (row : Service)
    → (altered_at number_of n change row).number ≡ row.number
altered_number n change same row = elim (eqb row.number n) as (λ b. (cond b (change row) row).number ≡ row.number) [
  | true ↦ same row
  | false ↦ refl
]
