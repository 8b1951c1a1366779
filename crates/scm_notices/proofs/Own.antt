-- The row with a number.
use Rattle.std.proofs.Common.{ℕ, ◌≡◌, ◌∙◌, ◌≤◌, ◌==◌, Bool, true, false, cond, List, Option, None, Some, find, ap, sym}
use Rattle.std.proofs.Common.{refl, subst, eqb-true, eq-eqb, ne_eqb, is_some, arith}
use Rattle.std.specs.Prelude.{All, Contains}
use Rattle.std.proofs.lemmas.List.Elements.{All-contains_itself, All-weaker}
use Rattle.scm_model.specs.Changes.{configured_if}
use Rattle.scm_model.specs.Rows.{service_of}
use Rattle.scm_model.specs.declared.flat.Config.{Config}
use Rattle.scm_model.specs.declared.flat.Flat.{Flat}
use Rattle.scm_model.specs.declared.flat.Service.{Service}
use Rattle.scm_rules.proofs.Needed.{replaced}
use Rattle.scm_runs.proofs.Lists.{alone, found_has, found_passes, none_found}
use Rattle.scm_runs.proofs.Sound.{Sound}

-- ## Rows

-- a fact of each row is one of any that is there
pub of_any : {A : Type 0} (P : A → Type 0) (rows : List A) (row : A) → All P rows → Contains rows row → P row
of_any P rows row all at = subst P at.2 (all at.0 row at.1)

-- the number tells the row
pub it_is : (f : Flat) (old : Service) → Sound f → Contains f.services old
    → All (λ (row : Service). (old.number == row.number) ≡ true → old ≡ row) f.services
it_is f old s there =
    All-weaker (λ (row : Service). All (λ (other : Service). other.number ≡ row.number → other ≡ row) f.services)
    (λ (row : Service). (old.number == row.number) ≡ true → old ≡ row)
    (λ row only same. of_any (λ (other : Service). other.number ≡ row.number → other ≡ row) f.services old only there
    (eqb-true old.number row.number same))
    f.services (alone (λ (row : Service). row.number) f.services s.services.numbered.rising)

-- a row that is there is found by its number
pub row_of : (f : Flat) (row : Service) → Sound f → Contains f.services row → service_of f row.number ≡ Some row
row_of f row s there = at (service_of f row.number) refl
  where
    at : (found : Option Service) → service_of f row.number ≡ found → service_of f row.number ≡ Some row
    at None is = absurd (
        let none : (row.number == row.number) ≡ false = of_any (λ (r : Service). (r.number == row.number) ≡ false) f.services row
        (none_found (λ (r : Service). r.number == row.number) f.services (ap is_some is)) there in
        let same : (row.number == row.number) ≡ true = eq-eqb row.number row.number refl in
        cc)
    at (Some other) is =
        let number = eqb-true other.number row.number (found_passes (λ (r : Service). r.number == row.number) other f.services is) in
        is ∙ ap Some (sym (found_has (λ (r : Service). (row.number == r.number) ≡ true → row ≡ r)
        (λ (r : Service). r.number == row.number) other f.services (it_is f row s there) is
        (eq-eqb row.number other.number (sym number))))

pub some_number : (f : Flat) (row : Service) → Sound f → Contains f.services row → (row.number == 0) ≡ false
some_number f row s there =
    let first = of_any (λ (r : Service). 1 ≤ r.number) f.services row s.services.numbered.positive there in
    ne_eqb row.number 0 (λ none. absurd (omega (arith, none, first)))

-- what is found is there
pub is_there : (p : Service → Bool) (row : Service) (services : List Service) → find p services ≡ Some row → Contains services row
is_there p row services is = found_has (Contains services) p row services (All-contains_itself services) is

-- ## Configurations

pub state_kept : (number : ℕ) (config : Config) (row : Service) → (configured_if number config row).status.state ≡ row.status.state
state_kept number config row = elim (row.number == number) as
    (λ b. (cond b (replaced config row) row).status.state ≡ row.status.state) [ true ↦ refl | false ↦ refl ]

pub mark_kept : (number : ℕ) (config : Config) (row : Service) → (configured_if number config row).marked ≡ row.marked
mark_kept number config row = elim (row.number == number) as
    (λ b. (cond b (replaced config row) row).marked ≡ row.marked) [ true ↦ refl | false ↦ refl ]
