-- Who is left where a service leaves.
use Rattle.std.specs.Prelude.{ℕ, List, Option, None, Some}
use Rattle.number_lists.specs.Rising.{without_number}

-- those that are left once the service that was found is gone
abbrev pub left : Option ℕ → List ℕ → List ℕ
left None services = services
left (Some service) services = without_number services service
