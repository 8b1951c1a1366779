-- No level of a configuration that is accepted is longer than its actions with their command.
use Rattle.std.proofs.Common.{ℕ, ◌≡◌, ◌≤◌, ◌==◌, ◌||◌, Bool, true, false, cond, List, [], ◌∷◌, Option, None, Some, length, refl, arith}
use Rattle.std.proofs.Common.{ltb-false}
use Rattle.std.specs.Prelude.{nat_lt, unwrap_or}
use Rattle.std.specs.List.{AllByRecursion, list_any}
use Rattle.std.proofs.lemmas.Bool.{or_parts}
use Rattle.scm_model.specs.declared.flat.Action.{Action}
use Rattle.scm_model.specs.declared.flat.Config.{Config}
use Rattle.service_listing.specs.Layout.{text_size}
use Rattle.service_listing.specs.Levels.{description_bytes, failure_bytes, flag_bytes, level_bytes, triggers_bytes}
use Rattle.service_listing.specs.Placed.{HasUuid, some_text_size}
use Rattle.service_listing.proofs.Placing.{levels_sized}
use Rattle.service_record.specs.Checks.{check_new, has_bad_lists, has_bad_names, has_bad_numbers, has_bad_texts, is_bad_account}
use Rattle.service_record.specs.Checks.{is_bad_line, is_longer, name_of_need}
use Rattle.scm_runs.proofs.Calls.{all_pass}
use Rattle.scm_runs.proofs.Sizes.{are_short}

-- its levels are short
pub record HasShortLevels (config : Config) : Type 0 where
  pub description : length config.description ≤ 2048
  pub command : length config.command ≤ 2048
  pub actions : length config.actions ≤ 64
  pub triggers : length config.triggers ≤ 64

pub levels_short : (config : Config) → check_new config None ≡ 0 → HasShortLevels config
unfolding check_new
levels_short config e =
    let p = all_pass (
    (has_bad_names config, 123)
    ∷ (has_bad_numbers config || has_bad_texts config || has_bad_lists config, 87)
    ∷ (is_bad_account None, 1057)
    ∷ []) (refl, (refl, (refl, tt))) e in
    let parts = or_parts (has_bad_numbers config || has_bad_texts config) (has_bad_lists config) p.1.0 in
    let texts = or_parts (is_bad_line config.path || is_longer 256 config.group || is_longer 2048 config.description) _
    (or_parts (has_bad_numbers config) (has_bad_texts config) parts.0).1 in
    let description = or_parts (is_bad_line config.path || is_longer 256 config.group) (is_longer 2048 config.description) texts.0 in
    let triggers = or_parts _ (nat_lt 64 (length config.triggers)) parts.1 in
    let actions = or_parts _ (list_any (λ (action : Action). nat_lt 3 action.what) config.actions) triggers.0 in
    let lists = or_parts (nat_lt 512 (length config.needs) || list_any (λ need. is_longer 256 (name_of_need need)) config.needs)
    (nat_lt 64 (length config.actions)) actions.0 in
    record {
      description = ltb-false 2048 (length config.description) description.1;
      command = (are_short config e).command;
      actions = ltb-false 64 (length config.actions) lists.1;
      triggers = ltb-false 64 (length config.triggers) triggers.1;
    }

some_text_least : (text : List ℕ) → length text ≤ 2048 → some_text_size text ≤ 4098
some_text_least text short =
    elim (length text == 0) as (λ b. cond b 0 (text_size text) ≤ 4098) [ true ↦ omega arith | false ↦ omega (arith, short) ]

-- at most 20 bytes, 64 actions of 8 bytes, and a command of 2,048 units with its zero
abbrev Fits : Option (List ℕ) → Type 0
Fits level = length (unwrap_or level []) ≤ 4630

either : (b : Bool) (one other : Option (List ℕ)) → Fits one → Fits other → Fits (cond b one other)
either true one other fits rest = fits
either false one other fits rest = rest

description_fits : (config : Config) → HasShortLevels config → Fits (Some (description_bytes config.description))
description_fits config short =
    omega (arith, levels_sized.description config.description, some_text_least config.description short.description)

failure_fits : (config : Config) → HasShortLevels config → Fits (Some (failure_bytes config))
failure_fits config short =
    let actions = short.actions in
    omega (arith, levels_sized.failure config, some_text_least config.command short.command, actions)

flag_fits : (on : Bool) → Fits (Some (flag_bytes on))
flag_fits on = omega (arith, levels_sized.flag on)

triggers_fit : (config : Config) → HasShortLevels config → AllByRecursion HasUuid config.triggers
    → Fits (Some (triggers_bytes config.triggers))
triggers_fit config short uuids = (let triggers = short.triggers in omega (arith, levels_sized.triggers config.triggers uuids, triggers))

pub level_fits : (level : ℕ) (config : Config) → HasShortLevels config → AllByRecursion HasUuid config.triggers
    → length (unwrap_or (level_bytes level config) []) ≤ 4630
level_fits level config short uuids =
    either (level == 1) _ _ (description_fits config short)
    (either (level == 2) _ _ (failure_fits config short)
    (either (level == 3) _ _ (flag_fits config.delayed)
    (either (level == 4) _ _ (flag_fits config.on_exit)
    (either (level == 8) _ None (triggers_fit config short uuids) (omega arith)))))
