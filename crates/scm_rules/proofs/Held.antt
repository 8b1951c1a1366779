-- The service that a handle is of.
use Rattle.std.proofs.Common.{ℕ, ◌≡◌, ◌==◌, true, false, cond, List, [], ◌∷◌, Option, None, Some, find, eqb-true, subst, sym, refl}
use Rattle.std.specs.Prelude.{option_and_then}
use Rattle.scm_model.specs.declared.flat.Flat.{Flat}
use Rattle.scm_model.specs.declared.flat.Opened.{Opened}
use Rattle.scm_model.specs.declared.flat.Service.{Service}
use Rattle.scm_model.specs.Rows.{held_service, opened, service_of}

found_number : (number : ℕ) (row : Service) (rows : List Service) → find (λ (r : Service). r.number == number) rows ≡ Some row
    → row.number ≡ number
found_number number row [] e = absurd cc
found_number number row (r ∷ rows) e =
    elim (r.number == number) as (λ b. (r.number == number) ≡ b → cond b (Some r)
    (find (λ (s : Service). s.number == number) rows) ≡ Some row → row.number ≡ number) [
      | true ↦ λ is g. (let same : r ≡ row = cc in subst (λ (s : Service). s.number ≡ number) same (eqb-true r.number number is))
      | false ↦ λ is g. found_number number row rows g
    ] refl e

held_at : (f : Flat) (handle : Option Opened) (row : Service) → option_and_then (λ (of : Opened). service_of f of.service) handle ≡ Some row
    → service_of f row.number ≡ Some row
held_at f None row e = absurd cc
held_at f (Some of) row e = subst (λ n. service_of f n ≡ Some row) (sym (found_number of.service row f.services e)) e

-- it is the one with its number
pub held_is : (f : Flat) (caller handle : ℕ) (row : Service) → held_service f caller handle ≡ Some row → service_of f row.number ≡ Some row
held_is f caller handle row e = held_at f (opened f caller handle) row e
