-- What a change puts in place of what was there.
use Rattle.std.specs.Prelude.{ℕ}
use Rattle.scm_model.specs.declared.calls.ChangeService.{ChangeService}
use Rattle.scm_model.specs.declared.flat.Config.{Config}
use Rattle.scm_rules.specs.Change.{config_with}
use Rattle.scm_arms_service.specs.declared.replacing.Parts.{Parts}

abbrev pub config_parts : ℕ → Config → ChangeService → Parts
config_parts tag old change =
    let new = config_with tag old change in
    record {
      display = new.display;
      kind = new.kind;
      start = new.start;
      error = new.error;
      path = new.path;
      group = new.group;
      tag = tag;
      needs = new.needs;
      delayed = new.delayed;
    }

abbrev pub with_parts : Config → Parts → Config
with_parts old parts = record old {
  display = parts.display;
  kind = parts.kind;
  start = parts.start;
  error = parts.error;
  path = parts.path;
  group = parts.group;
  tag = parts.tag;
  needs = parts.needs;
  delayed = parts.delayed;
}
