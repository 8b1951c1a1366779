-- The sizes of the texts that replies return.
use Rattle.std.specs.Prelude.{ℕ, ◌≡◌, ◌+◌, ◌*◌, codes, length, Some}
use Rattle.scm_model.specs.declared.flat.Config.{Config}
use Rattle.scm_model.specs.declared.flat.Service.{Service}
use Rattle.scm_rules.specs.QueryConfig.{shown_needs, shown_of, shown_size}
use Rattle.scm_rules.specs.OtherName.{display_in, name_in, units_of}

-- 36 bytes, and of each text two a unit and two for its zero
abbrev pub config_bytes : Config → ℕ
config_bytes config =
    36
    + 2 * (length config.path + 1)
    + 2 * (length config.group + 1)
    + 2 * (length (shown_needs config.needs) + 1)
    + 2 * (length (codes "LocalSystem") + 1)
    + 2 * (length config.display + 1)

-- every size that a reply returns of a service is the true one: none reaches the greatest number
pub record IsToldWhole (row : Service) : Type 0 where
  pub config : shown_size (shown_of row.config) ≡ config_bytes row.config
  pub name : units_of (name_in (Some row)) ≡ length row.config.name
  pub display : units_of (display_in (Some row)) ≡ length row.config.display
