-- A change by what was found.
use Rattle.std.proofs.Common.{◌≡◌, Option, None, Some, refl}
use Rattle.scm_model.specs.Found.{if_found}

-- what holds as it was, and after the change by whatever was found, holds
pub found_keeps : {A B : Type 0} (P : B → Type 0) (change : A → B → B) (found : Option A) (old : B) → P old
    → ((one : A) → found ≡ Some one → P (change one old)) → P (if_found change found old)
found_keeps P change None old was by = was
found_keeps P change (Some one) old was by = by one refl

-- the same, with what is known where nothing was found
pub found_either : {A B : Type 0} (P : B → Type 0) (change : A → B → B) (found : Option A) (old : B) → (found ≡ None → P old)
    → ((one : A) → found ≡ Some one → P (change one old)) → P (if_found change found old)
found_either P change None old was by = was refl
found_either P change (Some one) old was by = by one refl
