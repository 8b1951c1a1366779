-- The line of the launch that is wanted first.
use Rattle.std.specs.Prelude.{ℕ, List, [], ◌∷◌}
use Rattle.scm_model.specs.declared.flat.Flat.{Flat}
use Rattle.scm_model.specs.declared.flat.Wanted.{Wanted}
use Rattle.scm_rules.specs.Launches.{line_of}

-- its path and its words; nothing where no launch is wanted
abbrev pub first_line : Flat → List Wanted → List ℕ × List (List ℕ)
first_line f [] = ([], [])
first_line f (row ∷ rows) = line_of f row
