-- How much room the names of services take.
use Rattle.std.specs.Prelude.{ℕ, ◌+◌, List, [], ◌∷◌}
use Rattle.scm_model.specs.declared.flat.Service.{Service}
use Rattle.service_listing.specs.Layout.{names_size}

abbrev pub names_sizes : List Service → ℕ
names_sizes [] = 0
names_sizes (row ∷ rows) = names_size row + names_sizes rows
