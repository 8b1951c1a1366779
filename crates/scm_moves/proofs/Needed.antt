-- Whether a service that isn't STOPPED needs one that is to stop.
use Rattle.std.proofs.Common.{ℕ, suc, ◌≡◌, ◌≤◌, ◌-◌, ◌^◌, ◌||◌, Bool, true, false, cond, List, [], ◌∷◌, Option, None, Some, filter, length}
use Rattle.std.proofs.Common.{refl, arith}
use Rattle.std.specs.Prelude.{min, nat_lt}
use Rattle.std.specs.List.{list_any}
use Rattle.std.proofs.lemmas.Bool.Decides.{nat_tests}
use Rattle.scm_model.specs.declared.flat.Flat.{Flat}
use Rattle.scm_model.specs.declared.flat.Service.{Service}
use Rattle.scm_rules.specs.Controls.{active_among}
use Rattle.scm_moves.specs.Controls.{is_active_with, is_needed_by_active}

none_counted : (limit : ℕ) → nat_lt 0 (min 0 limit) ≡ false
none_counted limit = grind (arith, nat_tests)

some_counted : (n limit : ℕ) → 1 ≤ limit → nat_lt 0 (min (suc n) limit) ≡ true
some_counted n limit up = grind (arith, nat_tests)

-- there are some exactly where one passes
some_pass : {X : Type 0} (p : X → Bool) (xs : List X) (limit : ℕ) → 1 ≤ limit → nat_lt 0 (min (length (filter p xs)) limit) ≡ list_any p xs
some_pass p [] limit up = none_counted limit
some_pass p (x ∷ xs) limit up =
    elim (p x) as (λ b. nat_lt 0 (min (length (cond b (x ∷ filter p xs) (filter p xs))) limit) ≡ (b || list_any p xs)) [
      | true ↦ some_counted (length (filter p xs)) limit up
      | false ↦ some_pass p xs limit up
    ]

-- their count tells it
pub needed_same : (f : Flat) (service : Option Service) → nat_lt 0 (active_among f.services service) ≡ is_needed_by_active f service
needed_same f None = refl
needed_same f (Some target) = some_pass (is_active_with target.config.name) f.services (2 ^ 32 - 1) (omega arith)
