-- What changes of configurations come to.
use Rattle.std.specs.Prelude.{not, List, [], ◌∷◌, ◌++◌, filter, map, if◌then◌else◌}
use Rattle.scm_text.specs.Fold.{same_text}
use Rattle.scm_model.specs.declared.flat.Config.{Config}
use Rattle.scm_model.specs.declared.steps.Change.{Change}
use Rattle.scm_model.specs.declared.steps.Change.TheVariants.{Created, Changed, Removed}

-- a configuration takes the place of the one with the same name
abbrev pub replaced_by : Config → Config → Config
replaced_by config old = if same_text old.name config.name then config else old

-- what is created stands last, what is changed in its place, and what is removed nowhere
abbrev pub after_change : List Config → Change → List Config
after_change configs (Created config) = configs ++ config ∷ []
after_change configs (Changed config) = map (replaced_by config) configs
after_change configs (Removed name) =
    filter (λ (old : Config). not (same_text old.name name)) configs

-- one change after another
abbrev pub replayed : List Config → List Change → List Config
replayed configs [] = configs
replayed configs (change ∷ changes) = replayed (after_change configs change) changes
