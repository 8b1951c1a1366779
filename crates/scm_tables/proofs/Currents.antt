-- The services whose current process it is, and their numbers.
use Rattle.std.proofs.Common.{ℕ, ◌≡◌, ◌<◌, ◌∙◌, ◌==◌, ◌&&◌, suc, zero, Bool, true, false, cond, List, [], ◌∷◌, Option, None, Some}
use Rattle.std.proofs.Common.{filter, find, map, length, refl, ap, sym, subst, arith, eqb-true, inl, inr}
use Rattle.std.specs.Prelude.{All, AllPairs, IfSome, option_and_then, option_map, slice_get}
use Rattle.std.specs.List.{AllByRecursion}
use Rattle.std.proofs.lemmas.Bool.{cases_Bool, ne_eqb}
use Rattle.std.proofs.lemmas.List.Elements.{All-head, All-tail}
use Rattle.std.proofs.lemmas.Option.{slice_get-map}
use Rattle.number_pairs.specs.declared.pairs.Pair.{Pair}
use Rattle.scm_model.specs.declared.flat.Service.{Service}
use Rattle.scm_model.specs.Processes.{currents, currents_in, is_by}
use Rattle.scm_rules.specs.Controls.{is_asked_by}
use Rattle.scm_tables.specs.Asked.{asked_in}
use Rattle.scm_tables.proofs.Falling.{Rises, rises}
use Rattle.scm_tables.proofs.Numbered.{IsFound, active_rows, count_of, each_found, number_of, passing_found, with_number}
use Rattle.scm_tables.proofs.Wording.{found_has}

-- ## By number and process

none_other : (n : ℕ) (q : Service → Bool) (rows : List Service) → AllByRecursion (λ (row : Service). n < row.number) rows
    → find (λ (row : Service). row.number == n && q row) rows ≡ None
none_other n q [] above = refl
none_other n q (row ∷ rows) above = rw (ne_eqb row.number n (omega (arith, above.0))) (none_other n q rows above.1)

with_one : (n : ℕ) (q : Service → Bool) (rows : List Service) → Rises rows → find (λ (row : Service). row.number == n && q row) rows
    ≡ option_and_then (λ (row : Service). cond (q row) (Some row) None) (with_number rows n)
with_one n q [] rising = refl
with_one n q (row ∷ rows) rising =
    elim (cases_Bool (row.number == n)) [
      | inl is ↦
          let above = subst (λ m. AllByRecursion (λ (other : Service). m < other.number) rows) (eqb-true row.number n is) rising.0 in
          rw is (elim (q row) as (λ b. cond b (Some row) (find (λ (r : Service). r.number == n && q r) rows) ≡ cond b (Some row) None)
          [ true ↦ refl | false ↦ none_other n q rows above ])
      | inr out ↦ rw out (with_one n q rows rising.1)
    ]

abbrev Rising : List Service → Type 0
Rising rows = AllPairs (λ (a b : Service). a.number < b.number) rows

-- the service with a number, where this is its current process
pub found_with : (n process : ℕ) (rows : List Service) (row : Service) (is : Bool) → Rising rows → with_number rows n ≡ Some row
    → is_by process row ≡ is → find (λ (r : Service). r.number == n && is_by process r) rows ≡ cond is (Some row) None
found_with n process rows row is rising found by =
    with_one n (is_by process) rows (rises rows rising)
    ∙ ap (option_and_then (λ (r : Service). cond (is_by process r) (Some r) None)) found
    ∙ ap (λ b. cond b (Some row) None) by

pub none_with : (n process : ℕ) (rows : List Service) → Rising rows → with_number rows n ≡ None
    → find (λ (r : Service). r.number == n && is_by process r) rows ≡ None
none_with n process rows rising none =
    with_one n (is_by process) rows (rises rows rising)
    ∙ ap (option_and_then (λ (r : Service). cond (is_by process r) (Some r) None)) none

-- ## By the numbers in pairs

abbrev pair_number : Pair → ℕ
pair_number pair = pair.number

-- the service with the number of a pair that was found
abbrev pub paired : List Service → Option Pair → Option Service
paired rows found = option_and_then (with_number rows) (option_map pair_number found)

find_of : (q : Option Service → Bool) (all some : List Service) → All (IsFound all) some
    → option_and_then (with_number all) (find (λ n. q (with_number all n)) (map number_of some)) ≡ find
    (λ (row : Service). q (Some row)) some
find_of q all [] found = refl
find_of q all (row ∷ some) found =
    let here : with_number all row.number ≡ Some row = All-head (IsFound all) row some found in
    let rest = find_of q all some (All-tail (IsFound all) row some found) in
    ap (λ o. option_and_then (with_number all) (cond (q o) (Some row.number) (find (λ n. q (with_number all n)) (map number_of some)))) here
    ∙ elim (q (Some row)) as (λ b. option_and_then (with_number all) (cond b (Some row.number) (find (λ n. q (with_number all n))
    (map number_of some))) ≡ cond b (Some row) (find (λ (r : Service). q (Some r)) some)) [ true ↦ here | false ↦ rest ]

get_of : (all some : List Service) (place : ℕ) → All (IsFound all) some
    → option_and_then (with_number all) (slice_get (map number_of some) place) ≡ slice_get some place
get_of all [] place found = refl
get_of all (row ∷ some) zero found = All-head (IsFound all) row some found
get_of all (row ∷ some) (suc place) found = get_of all some place (All-tail (IsFound all) row some found)

find_pair : (q : ℕ → Bool) (pairs : List Pair) → option_map pair_number (find (λ (pair : Pair). q pair.number) pairs) ≡ find q
    (map pair_number pairs)
find_pair q [] = refl
find_pair q (pair ∷ pairs) =
    elim (q pair.number) as (λ b. option_map pair_number (cond b (Some pair) (find (λ (p : Pair). q p.number) pairs)) ≡ cond b
    (Some pair.number) (find q (map pair_number pairs))) [ true ↦ refl | false ↦ find_pair q pairs ]

count_pairs : (q : ℕ → Bool) (pairs : List Pair) → length (filter (λ (pair : Pair). q pair.number) pairs) ≡ length
    (filter q (map pair_number pairs))
count_pairs q [] = refl
count_pairs q (pair ∷ pairs) =
    elim (q pair.number) as (λ b. length (cond b (pair ∷ filter (λ (p : Pair). q p.number) pairs)
    (filter (λ (p : Pair). q p.number) pairs)) ≡ length (cond b (pair.number ∷ filter q (map pair_number pairs))
    (filter q (map pair_number pairs)))) [ true ↦ ap suc (count_pairs q pairs) | false ↦ count_pairs q pairs ]

found_rows : (p q : Service → Bool) (rows : List Service) → find q (filter p rows) ≡ find (λ (row : Service). p row && q row) rows
found_rows p q [] = refl
found_rows p q (row ∷ rows) =
    elim (p row) as (λ b. find q (cond b (row ∷ filter p rows) (filter p rows)) ≡ cond (b && q row) (Some row)
    (find (λ (r : Service). p r && q r) rows)) [
      | true ↦ ap (λ o. cond (q row) (Some row) o) (found_rows p q rows)
      | false ↦ found_rows p q rows
    ]

module _ (rows : List Service) (rising : Rising rows) (process : ℕ) (pairs : List Pair)
    (numbers : map pair_number pairs ≡ currents_in process rows) where
  -- the first that passes
  pub first_with : (q : Option Service → Bool) (found : Option Pair)
      → found ≡ find (λ (pair : Pair). q (with_number rows pair.number)) pairs
      → paired rows found ≡ find (λ (row : Service). is_by process row && q (Some row)) rows
  first_with q found is =
      let passes = λ (n : ℕ). q (with_number rows n) in
      ap (paired rows) is
      ∙ ap (option_and_then (with_number rows)) (find_pair passes pairs)
      ∙ ap (λ ns. option_and_then (with_number rows) (find passes ns)) numbers
      ∙ find_of q rows (currents process rows) (passing_found rows rising (is_by process))
      ∙ found_rows (is_by process) (λ (row : Service). q (Some row)) rows

  -- how many are asked
  pub asked_count : length (filter (λ (pair : Pair). asked_in (with_number rows pair.number)) pairs) ≡ length
      (filter (is_asked_by process) rows)
  asked_count =
      let asked = λ (n : ℕ). asked_in (with_number rows n) in
      count_pairs asked pairs
      ∙ ap (λ ns. length (filter asked ns)) numbers
      ∙ count_of asked_in rows (currents process rows) (passing_found rows rising (is_by process))
      ∙ ap (λ (rs : List Service). length rs) (active_rows (is_by process) (λ (row : Service). row.asked) rows)

  -- the one at a place
  pub current_at : (place : ℕ) (found : Option Pair) → found ≡ slice_get pairs place
      → paired rows found ≡ slice_get (currents process rows) place
  current_at place found is =
      ap (paired rows) is
      ∙ ap (option_and_then (with_number rows)) (sym (slice_get-map pair_number pairs place))
      ∙ ap (λ ns. option_and_then (with_number rows) (slice_get ns place)) numbers
      ∙ get_of rows (currents process rows) place (passing_found rows rising (is_by process))

-- a service that was found is found again by its number
pub found_again : (rows : List Service) → Rising rows → (p : Service → Bool) (row : Service) → find p rows ≡ Some row
    → with_number rows row.number ≡ Some row
found_again rows rising p row found =
    subst (λ (o : Option Service). IfSome o (IsFound rows)) found
    (found_has (IsFound rows) p rows (each_found rows rising))
