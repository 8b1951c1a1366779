-- Services as the rows of their needs.
use Rattle.std.proofs.Common.{Bor, ℕ, ◌≡◌, ◌∙◌, ◌<◌, ◌==◌, ◌||◌, true, false, cond, List, [], ◌∷◌, None, Some, is_some, filter, find, map}
use Rattle.std.proofs.Common.{length, refl, sym, ap, eqb, eqb-true, eq-eqb, ne_eqb}
use Rattle.std.specs.Prelude.{Bool, Option, option_and_then, option_copied, option_map, slice_get}
use Rattle.std.specs.List.{AllByRecursion}
use Rattle.std.proofs.lemmas.List.{length-map}
use Rattle.std.proofs.lemmas.Option.{slice_get-map}
use Rattle.scm_model.specs.declared.flat.Need.{Need}
use Rattle.scm_model.specs.declared.flat.Need.TheVariants as kinds
use Rattle.scm_model.specs.declared.flat.NeedRow.{NeedRow}
use Rattle.scm_model.specs.declared.flat.Service.{Service}
use Rattle.scm_model.specs.Needs.{is_met, numbers_of, row_needs}
use Rattle.dependency_index.specs.Resolved.{IsListOf}
use Rattle.dependency_index.specs.Needs.{number_if_met}
use Rattle.row_slab.specs.Rowed.{AreRisingBy}
use Rattle.record_table.specs.Recorded.{has_number, is_member, is_named, number_of, numbers_with}
use Rattle.scm_rules.specs.Needs.{need_row, need_rows}
use Rattle.scm_text.specs.Numbers.{has}

pub size_is : (rows : List Service) → length (need_rows rows) ≡ length rows
size_is rows = length-map rows need_row

-- ## The row at a place

row_at : (rows : List Service) (i : ℕ) (o : Option Service) → o ≡ slice_get rows i → slice_get (need_rows rows) i ≡ option_map need_row o
row_at rows i o is = slice_get-map need_row rows i ∙ ap (option_map need_row) (sym is)

pub number_there : (rows : List Service) (i : ℕ) (o : Option Service) → o ≡ slice_get rows i
    → option_map number_of o ≡ option_map (λ (row : NeedRow). row.number) (slice_get (need_rows rows) i)
number_there rows i None is = sym (ap (option_map (λ (row : NeedRow). row.number)) (row_at rows i None is))
number_there rows i (Some row) is = sym (ap (option_map (λ (r : NeedRow). r.number)) (row_at rows i (Some row) is))

pub met_there : (need : Need) (rows : List Service) (i : ℕ) (row : Service) → Some row ≡ slice_get rows i
    → number_if_met need (need_row row) ≡ option_and_then (number_if_met need) (slice_get (need_rows rows) i)
met_there need rows i row is = sym (ap (option_and_then (number_if_met need)) (row_at rows i (Some row) is))

pub met_nowhere : (need : Need) (rows : List Service) (i : ℕ) → None ≡ slice_get rows i
    → None ≡ option_and_then (number_if_met need) (slice_get (need_rows rows) i)
met_nowhere need rows i is = sym (ap (option_and_then (number_if_met need)) (row_at rows i None is))

-- ## The row with a number

listed_is : (rows : List Service) (n : ℕ) → is_some (find (has_number n) rows) ≡ has (numbers_of (need_rows rows)) n
listed_is [] n = refl
listed_is (row ∷ rows) n =
    elim (row.number == n) as (λ b. (row.number == n) ≡ b
    → is_some (cond b (Some row) (find (has_number n) rows)) ≡ (eqb n row.number || has (numbers_of (need_rows rows)) n)) [
      | true ↦ λ e. rw (eq-eqb n row.number (sym (eqb-true row.number n e))) refl
      | false ↦ λ e. rw (ne_eqb n row.number (λ q. absurd (let f = eq-eqb row.number n (sym q) in cc))) (listed_is rows n)
    ] refl

pub listed_told : (o : Option (Bor Service)) (rows : List Service) (n : ℕ) → option_copied o ≡ find (has_number n) rows
    → is_some o ≡ has (numbers_of (need_rows rows)) n
listed_told None rows n is = ap is_some is ∙ listed_is rows n
listed_told (Some row) rows n is = ap is_some is ∙ listed_is rows n

found_is : (rows : List Service) (n : ℕ) → find (λ (row : NeedRow). row.number == n) (need_rows rows)
    ≡ option_map need_row (find (has_number n) rows)
found_is [] n = refl
found_is (row ∷ rows) n =
    elim (row.number == n) as (λ b. cond b (Some (need_row row)) (find (λ (r : NeedRow). r.number == n) (need_rows rows))
    ≡ option_map need_row (cond b (Some row) (find (has_number n) rows)))
    [ true ↦ refl | false ↦ found_is rows n ]

pub needs_there : (rows : List Service) (n : ℕ) (row : Service) → Some row ≡ find (has_number n) rows
    → row.config.needs ≡ row_needs (find (λ (r : NeedRow). r.number == n) (need_rows rows))
needs_there rows n row is = sym (ap row_needs (found_is rows n ∙ ap (option_map need_row) (sym is)))

pub needs_nowhere : (rows : List Service) (n : ℕ) → None ≡ find (has_number n) rows
    → [] ≡ row_needs (find (λ (r : NeedRow). r.number == n) (need_rows rows))
needs_nowhere rows n is = sym (ap row_needs (found_is rows n ∙ ap (option_map need_row) (sym is)))

-- ## What a need leads to

numbers_are : (p : Service → Bool) (q : NeedRow → Bool) → ((row : Service) → q (need_row row) ≡ p row) → (rows : List Service)
    → numbers_with p rows ≡ numbers_of (filter q (need_rows rows))
numbers_are p q same [] = refl
numbers_are p q same (row ∷ rows) =
    rw (same row) (elim (p row) as (λ b. map number_of (cond b (row ∷ filter p rows) (filter p rows))
    ≡ numbers_of (cond b (need_row row ∷ filter q (need_rows rows)) (filter q (need_rows rows)))) [
      | true ↦ ap (λ (numbers : List ℕ). row.number ∷ numbers) (numbers_are p q same rows)
      | false ↦ numbers_are p q same rows
    ])

rising_rows : (rows : List Service) → AreRisingBy number_of rows → AreRisingBy (λ (row : NeedRow). row.number) (need_rows rows)
rising_rows [] rising = tt
rising_rows (row ∷ rows) rising = (by rows rising.0, rising_rows rows rising.1)
  where
    by : (rs : List Service) → AllByRecursion (λ (other : Service). row.number < other.number) rs
        → AllByRecursion (λ (other : NeedRow). row.number < other.number) (need_rows rs)
    by [] all = tt
    by (r ∷ rs) all = (all.0, by rs all.1)

pub named_are : (rows : List Service) (name numbers : List ℕ) → AreRisingBy number_of rows → numbers ≡ numbers_with (is_named name) rows
    → IsListOf (need_rows rows) (kinds.Service name) numbers
named_are rows name numbers rising is = record {
  all = is ∙ numbers_are (is_named name) (is_met (kinds.Service name)) (λ (row : Service). refl) rows;
  rising = rising_rows rows rising;
}

pub members_are : (rows : List Service) (group numbers : List ℕ) → AreRisingBy number_of rows
    → numbers ≡ numbers_with (is_member group) rows → IsListOf (need_rows rows) (kinds.Group group) numbers
members_are rows group numbers rising is = record {
  all = is ∙ numbers_are (is_member group) (is_met (kinds.Group group)) (λ (row : Service). refl) rows;
  rising = rising_rows rows rising;
}
