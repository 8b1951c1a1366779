-- What an opening has.
use Rattle.std.proofs.Common.{ℕ, ◌≡◌, ◌+◌, List, [], ◌∷◌, refl, ap}
use Rattle.scm_model.specs.declared.flat.Config.{Config}
use Rattle.scm_model.specs.declared.flat.Limits.{Limits}
use Rattle.scm_rules.specs.Opening.{opening, services_from}
use Rattle.scm_kept.specs.Replayed.{unmarked}

from_first : (first : ℕ) (configs : List Config) → unmarked (services_from first configs) ≡ configs
from_first first [] = refl
from_first first (config ∷ configs) = ap (λ (rest : List Config). config ∷ rest) (from_first (first + 1) configs)

pub of_opening : (l : Limits) (groups : List (List ℕ)) (configs : List Config) (moment : ℕ)
    → unmarked (opening l groups configs moment).services ≡ configs
of_opening l groups configs moment = from_first 1 configs
