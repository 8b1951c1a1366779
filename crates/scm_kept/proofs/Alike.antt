-- A replay of changes in two parts.
use Rattle.std.proofs.Common.{◌≡◌, List, [], ◌∷◌, ◌++◌, refl}
use Rattle.scm_model.specs.declared.flat.Config.{Config}
use Rattle.scm_model.specs.declared.steps.Change.{Change}
use Rattle.scm_kept.specs.Replayed.{after_change, replayed}

pub replay_append : (configs : List Config) (first second : List Change)
    → replayed configs (first ++ second) ≡ replayed (replayed configs first) second
replay_append configs [] second = refl
replay_append configs (change ∷ first) second = replay_append (after_change configs change) first second
