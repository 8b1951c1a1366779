-- Services found by number.
use Rattle.std.proofs.Common.{ℕ, ◌≡◌, ◌<◌, ◌∙◌, Bool, true, false, not, cond, List, [], ◌∷◌, Option, Some, None, refl, sym, ap, subst}
use Rattle.std.proofs.Common.{filter, find, map, arith, inl, inr}
use Rattle.std.specs.Prelude.{is_some, option_map, slice_get}
use Rattle.std.specs.List.{AllByRecursion}
use Rattle.std.proofs.lemmas.Bool.{eq-eqb, ne_eqb, cases_Bool}
use Rattle.std.proofs.lemmas.Option.{same_Some}
use Rattle.scm_model.specs.declared.flat.Config.{Config}
use Rattle.scm_model.specs.declared.flat.Service.{Service}
use Rattle.row_slab.specs.Rowed.{AreRisingBy, left_by}
use Rattle.record_table.specs.declared.live.Configured.{Configured}
use Rattle.record_table.specs.declared.live.Secured.{Secured}
use Rattle.record_table.specs.Recorded.{number_of, has_number, service_at}
use Rattle.record_table.proofs.Groups.{numbers_if}

abbrev configured : Config → Configured
configured config = record { config = config }

-- where nothing is found, no service passes
pub none_passes : (p : Service → Bool) (rows : List Service) → find p rows ≡ None → AllByRecursion (λ (row : Service). p row ≡ false) rows
none_passes p [] none = tt
none_passes p (row ∷ rows) none =
    elim (p row) as (λ b. p row ≡ b → cond b (Some row) (find p rows) ≡ None → AllByRecursion (λ (r : Service). p r ≡ false) (row ∷ rows)) [
      | true ↦ λ e h. absurd (cc h)
      | false ↦ λ e h. (e, none_passes p rows h)
    ] refl none

-- where none has a number, none leaves and none changes
pub none_leaves : (n : ℕ) (rows : List Service) → find (has_number n) rows ≡ None
    → filter (λ (row : Service). not (has_number n row)) rows ≡ rows
none_leaves n rows none = by rows (none_passes (has_number n) rows none)
  where
    by : (rs : List Service) → AllByRecursion (λ (row : Service). has_number n row ≡ false) rs
        → filter (λ (row : Service). not (has_number n row)) rs ≡ rs
    by [] all = refl
    by (row ∷ rs) all = rw all.0 (ap (λ rest. row ∷ rest) (by rs all.1))

pub none_changes : (n : ℕ) (change : Service → Service) (rows : List Service) → find (has_number n) rows ≡ None
    → map (λ (row : Service). cond (has_number n row) (change row) row) rows ≡ rows
none_changes n change rows none = by rows (none_passes (has_number n) rows none)
  where
    by : (rs : List Service) → AllByRecursion (λ (row : Service). has_number n row ≡ false) rs
        → map (λ (row : Service). cond (has_number n row) (change row) row) rs ≡ rs
    by [] all = refl
    by (row ∷ rs) all = rw all.0 (ap (λ rest. row ∷ rest) (by rs all.1))

-- the configuration that is left of an exchange is the one that the service had
pub exchanged_some : (found : Option Service) (parts : Configured) → is_some found ≡ true
    → Some (left_by (λ (row : Service). configured row.config) found parts).config ≡ option_map (λ (row : Service). row.config) found
exchanged_some None parts some = absurd cc
exchanged_some (Some row) parts some = refl

pub exchanged_none : (found : Option Service) → is_some found ≡ false → None ≡ option_map (λ (row : Service). row.config) found
exchanged_none None none = refl
exchanged_none (Some row) none = absurd cc

pub ruleset exchanged = (exchanged_some, exchanged_none)

abbrev secured : List ℕ → Secured
secured security = record { security = security }

-- the same of a security descriptor
pub secured_some : (found : Option Service) (parts : Secured) → is_some found ≡ true
    → Some (left_by (λ (row : Service). secured row.security) found parts).security ≡ option_map (λ (row : Service). row.security) found
secured_some None parts some = absurd cc
secured_some (Some row) parts some = refl

pub secured_none : (found : Option Service) → is_some found ≡ false → None ≡ option_map (λ (row : Service). row.security) found
secured_none None none = refl
secured_none (Some row) none = absurd cc

-- what is told of a configuration is told of its service
pub none_configured : (o : Option Service) → None ≡ option_map (λ (row : Service). row.config) o → o ≡ None
none_configured None e = refl
none_configured (Some row) e = absurd (cc e)

pub some_configured : (o : Option Service) (config : Config) → Some config ≡ option_map (λ (row : Service). row.config) o → (row : Service)
    × (o ≡ Some row) × (row.config ≡ config)
some_configured None config e = absurd (cc e)
some_configured (Some row) config e = (row, refl, sym (same_Some config row.config e))

-- one that is found has what all have
found_after : (p : Service → Bool) (n : ℕ) (rows : List Service) (found : Service) → AllByRecursion (λ (row : Service). n < row.number) rows
    → find p rows ≡ Some found → n < found.number
found_after p n [] found all e = absurd (cc e)
found_after p n (row ∷ rows) found all e =
    elim (cases_Bool (p row)) [
      | inl is ↦ let here : row ≡ found = cc (sym (ap (λ b. cond b (Some row) (find p rows)) is) ∙ e) in
          subst (λ (r : Service). n < r.number) here all.0
      | inr other ↦ found_after p n rows found all.1 (sym (ap (λ b. cond b (Some row) (find p rows)) other) ∙ e)
    ]

-- the first of those that pass is the one that is found
pub first_is : (p : Service → Bool) (rows : List Service) → slice_get (numbers_if p rows) 0 ≡ option_map number_of (find p rows)
first_is p [] = refl
first_is p (row ∷ rows) =
    elim (p row) as (λ b. slice_get (map number_of (cond b (row ∷ filter p rows) (filter p rows))) 0 ≡ option_map number_of
    (cond b (Some row) (find p rows))) [
      | true ↦ refl
      | false ↦ first_is p rows
    ]

-- and its number finds it
pub first_row : (p : Service → Bool) (rows : List Service) → AreRisingBy number_of rows
    → service_at rows (option_map number_of (find p rows)) ≡ find p rows
first_row p [] rising = refl
first_row p (row ∷ rows) rising =
    elim (p row) as (λ b. service_at (row ∷ rows) (option_map number_of (cond b (Some row) (find p rows))) ≡ cond b (Some row)
    (find p rows)) [
      | true ↦ rw (eq-eqb row.number row.number refl) refl
      | false ↦ later (find p rows) refl ∙ first_row p rows rising.1
    ]
  where
    later : (o : Option Service) → find p rows ≡ o → service_at (row ∷ rows) (option_map number_of o) ≡ service_at rows
        (option_map number_of o)
    later None e = refl
    later (Some found) e = let less = found_after p row.number rows found rising.0 e in
        rw (ne_eqb row.number found.number (omega (arith, less))) refl
