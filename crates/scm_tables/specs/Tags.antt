-- Tags of services.
use Rattle.std.specs.Prelude.{ℕ, Option, None, Some}
use Rattle.scm_model.specs.declared.flat.Service.{Service}

-- the tag of a service, or 0 where there is none
abbrev pub tag_in : Option Service → ℕ
tag_in None = 0
tag_in (Some row) = row.config.tag
