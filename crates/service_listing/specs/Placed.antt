-- How many bytes a level has, and where its parts stand.
use Rattle.std.specs.Prelude.{ℕ, Bool, ◌≡◌, ◌+◌, ◌*◌, ◌==◌, List, drop, length, if◌then◌else◌}
use Rattle.std.specs.List.{AllByRecursion}
use Rattle.scm_model.specs.declared.flat.Config.{Config}
use Rattle.scm_model.specs.declared.flat.Trigger.{Trigger}
use Rattle.service_listing.specs.Layout.{text_size}
use Rattle.service_listing.specs.Levels.{description_bytes, failure_bytes, flag_bytes, some_text_bytes, triggers_bytes}

-- how many bytes a text takes with its zero, or 0 where it is empty
abbrev pub some_text_size : List ℕ → ℕ
some_text_size text = if length text == 0 then 0 else text_size text

abbrev pub HasUuid : Trigger → Type 0
HasUuid trigger = length trigger.subtype ≡ 16

pub record LevelsHaveTheirSizes : Type 0 where
  pub description : (text : List ℕ) → length (description_bytes text) ≡ 4 + some_text_size text
  pub failure : (config : Config) → length (failure_bytes config) ≡ 20 + 8 * length config.actions + some_text_size config.command
  pub flag : (on : Bool) → length (flag_bytes on) ≡ 4
  pub triggers : (triggers : List Trigger) → AllByRecursion HasUuid triggers → length (triggers_bytes triggers) ≡ 4 + 24 * length triggers

-- the actions stand after the numbers, and the command after the actions
pub record LevelsHaveTheirParts : Type 0 where
  pub description : (text : List ℕ) → drop 4 (description_bytes text) ≡ some_text_bytes text
  pub command : (config : Config) → drop (20 + 8 * length config.actions) (failure_bytes config) ≡ some_text_bytes config.command
