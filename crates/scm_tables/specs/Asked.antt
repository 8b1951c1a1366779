-- Whether a service is asked to start.
use Rattle.std.specs.Prelude.{Bool, false, Option, None, Some}
use Rattle.scm_model.specs.declared.flat.Service.{Service}

-- whether the service that was found is asked to start
abbrev pub asked_in : Option Service → Bool
asked_in None = false
asked_in (Some row) = row.asked
