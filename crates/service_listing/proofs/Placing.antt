-- How many bytes a level has, and where its parts stand.
use Rattle.std.proofs.Common.{ℕ, ◌≡◌, ◌+◌, ◌*◌, ◌++◌, ◌==◌, true, false, cond, List, [], ◌∷◌, refl, subst, length, length-append, drop}
use Rattle.std.proofs.Common.{arith}
use Rattle.std.specs.List.{AllByRecursion, flat_map}
use Rattle.scm_model.specs.declared.flat.Action.{Action}
use Rattle.scm_model.specs.declared.flat.Config.{Config}
use Rattle.scm_model.specs.declared.flat.Trigger.{Trigger}
use Rattle.service_listing.specs.Layout.{numbers_bytes, name_bytes, text_size}
use Rattle.service_listing.specs.Levels.{action_bytes, description_bytes, failure_bytes, failure_numbers, flag_bytes, offset_at}
use Rattle.service_listing.specs.Levels.{some_text_bytes, trigger_bytes, triggers_bytes}
use Rattle.service_listing.specs.Placed.{HasUuid, LevelsHaveTheirParts, LevelsHaveTheirSizes, some_text_size}
use Rattle.service_listing.proofs.Lengths.{length_text}

-- ## Sizes

length_some_text : (text : List ℕ) → length (some_text_bytes text) ≡ some_text_size text
length_some_text text = elim (length text == 0) as (λ b. length (cond b [] (name_bytes text)) ≡ cond b 0 (text_size text)) [
  | true ↦ refl
  | false ↦ length_text text
]

length_number : (n : ℕ) → length (numbers_bytes (n ∷ [])) ≡ 4
unfolding numbers_bytes
length_number n = refl

length_description : (text : List ℕ) → length (description_bytes text) ≡ 4 + some_text_size text
length_description text =
    omega (
      arith,
      length-append (numbers_bytes (offset_at 4 text ∷ [])) (some_text_bytes text),
      length_number (offset_at 4 text),
      length_some_text text,
    )

length_action : (action : Action) → length (action_bytes action) ≡ 8
unfolding numbers_bytes
length_action action = refl

length_actions : (actions : List Action) → length (flat_map action_bytes actions) ≡ 8 * length actions
length_actions [] = refl
length_actions (action ∷ actions) =
    let rest = length_actions actions in
    omega (arith, length-append (action_bytes action) (flat_map action_bytes actions), length_action action, rest)

length_five : (config : Config) → length (numbers_bytes (failure_numbers config)) ≡ 20
unfolding numbers_bytes
length_five config = refl

-- the numbers and the actions
length_front : (config : Config) → length (numbers_bytes (failure_numbers config) ++ flat_map action_bytes config.actions) ≡ 20
    + 8 * length config.actions
length_front config =
    omega (
      arith,
      length-append (numbers_bytes (failure_numbers config)) (flat_map action_bytes config.actions),
      length_five config,
      length_actions config.actions,
    )

length_failure : (config : Config) → length (failure_bytes config) ≡ 20 + 8 * length config.actions + some_text_size config.command
length_failure config =
    let front = numbers_bytes (failure_numbers config) ++ flat_map action_bytes config.actions in
    omega (arith, length-append front (some_text_bytes config.command), length_front config, length_some_text config.command)

length_trigger : (trigger : Trigger) → length trigger.subtype ≡ 16 → length (trigger_bytes trigger) ≡ 24
unfolding numbers_bytes
length_trigger trigger is = omega (arith, is)

length_all_triggers : (triggers : List Trigger) → AllByRecursion HasUuid triggers
    → length (flat_map trigger_bytes triggers) ≡ 24 * length triggers
length_all_triggers [] all = refl
length_all_triggers (trigger ∷ triggers) all =
    let rest = length_all_triggers triggers all.1 in
    omega (arith, length-append (trigger_bytes trigger) (flat_map trigger_bytes triggers), length_trigger trigger all.0, rest)

length_triggers : (triggers : List Trigger) → AllByRecursion HasUuid triggers → length (triggers_bytes triggers) ≡ 4 + 24 * length triggers
length_triggers triggers all =
    omega (
      arith,
      length-append (numbers_bytes (length triggers ∷ [])) (flat_map trigger_bytes triggers),
      length_number (length triggers),
      length_all_triggers triggers all,
    )

pub levels_sized : LevelsHaveTheirSizes
levels_sized = record {
  description = length_description;
  failure = length_failure;
  flag = λ on. length_number (cond on 1 0);
  triggers = length_triggers;
}

-- ## Places

drop_behind : (n : ℕ) (xs ys : List ℕ) → length xs ≡ n → drop n (xs ++ ys) ≡ ys
drop_behind n [] ys is = subst (λ (m : ℕ). drop m ys ≡ ys) is refl
drop_behind n (x ∷ xs) ys is = subst (λ (m : ℕ). drop m (x ∷ xs ++ ys) ≡ ys) is (drop_behind (length xs) xs ys refl)

described : (text : List ℕ) → drop 4 (description_bytes text) ≡ some_text_bytes text
described text = drop_behind 4 (numbers_bytes (offset_at 4 text ∷ [])) (some_text_bytes text) (length_number (offset_at 4 text))

commanded : (config : Config) → drop (20 + 8 * length config.actions) (failure_bytes config) ≡ some_text_bytes config.command
commanded config =
    drop_behind (20 + 8 * length config.actions) (numbers_bytes (failure_numbers config) ++ flat_map action_bytes config.actions)
    (some_text_bytes config.command) (length_front config)

pub levels_placed : LevelsHaveTheirParts
levels_placed = record { description = described; command = commanded }
