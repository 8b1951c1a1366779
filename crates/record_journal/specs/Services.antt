-- The services that stand for configurations while a journal is replayed.
use Rattle.std.specs.Prelude.{List, map}
use Rattle.scm_model.specs.declared.flat.Config.{Config}
use Rattle.scm_model.specs.declared.flat.Service.{Service}

-- their configurations, in order
abbrev pub configs_of : List Service → List Config
configs_of services = map (λ (row : Service). row.config) services
