-- Which trigger of a service is raised.
use Rattle.std.specs.Prelude.{ℕ, List, Option, find, option_map}
use Rattle.std.specs.Str.{bytes_eq}
use Rattle.scm_model.specs.declared.flat.Config.{Config}
use Rattle.scm_model.specs.declared.flat.Trigger.{Trigger}

-- the action of the first trigger with a subtype
abbrev pub first_action : List Trigger → List ℕ → Option ℕ
first_action triggers subtype = option_map (λ (t : Trigger). t.action) (find (λ (t : Trigger). bytes_eq t.subtype subtype) triggers)

abbrev pub matching : Config → List ℕ → Option ℕ
matching config subtype = first_action config.triggers subtype
