-- A configuration that is accepted, and whose numbers and units are those of their types, has an entry.
use Rattle.std.proofs.Common.{ℕ, ◌≡◌, ◌≤◌, ◌+◌, ◌*◌, ◌==◌, ◌||◌, ◌&&◌, Bool, true, false, not, eqb-true, ltb-false, List, [], ◌∷◌, ◌++◌}
use Rattle.std.proofs.Common.{length, None, refl, arith, ap, ◌∙◌}
use Rattle.std.specs.Prelude.{All, nat_le, nat_lt}
use Rattle.std.specs.Int.{w16, to_le_bytes}
use Rattle.std.specs.List.{flat_map, list_any}
use Rattle.std.proofs.lemmas.Bool.{and_parts, leb-true, not-false, or_parts}
use Rattle.std.proofs.lemmas.List.{length-append}
use Rattle.std.proofs.lemmas.List.Concat.{flat_map-cons, length-flat_map}
use Rattle.std.proofs.lemmas.List.Elements.{All-weaker}
use Rattle.std.proofs.lemmas.List.Sums.{sum_by-le}
use Rattle.scm_model.specs.declared.flat.Action.{Action}
use Rattle.scm_model.specs.declared.flat.Config.{Config}
use Rattle.scm_model.specs.declared.flat.Need.{Need}
use Rattle.scm_model.specs.declared.flat.Need.TheVariants as needs
use Rattle.scm_model.specs.declared.flat.Trigger.{Trigger}
use Rattle.service_record.specs.Checks.{check_new, has_bad_lists, has_bad_names, has_bad_numbers, has_bad_texts, is_bad_account}
use Rattle.service_record.specs.Checks.{is_bad_line, is_longer, name_of_need}
use Rattle.service_record.specs.Spelling.{FitsNumber, FitsText, IsConfig, IsNeed, IsTrigger, action, back, counted_items, encoding}
use Rattle.service_record.specs.Spelling.{encoding_1, end, flag, front, middle, need_bytes, number, text, trigger_bytes}
use Rattle.scm_runs.proofs.Calls.{all_pass}
use Rattle.scm_runs.proofs.Lists.{none_any}
use Rattle.scm_runs.proofs.Sizes.{are_short}
use Rattle.scm_kept.specs.Fitting.{AreUnits}
use Rattle.scm_kept.proofs.Given.{HasText, HasUnits}

-- ## What is accepted

abbrev IsShortNeed : Need → Type 0
IsShortNeed need = length (name_of_need need) ≤ 256

abbrev IsKnown : Action → Type 0
IsKnown action = action.what ≤ 3

pub record IsSmall (config : Config) : Type 0 where
  pub name : length config.name ≤ 256
  pub display : length config.display ≤ 256
  pub kind : config.kind ≤ 32
  pub start : config.start ≤ 4
  pub error : config.error ≤ 3
  pub path : length config.path ≤ 2048
  pub group : length config.group ≤ 256
  pub description : length config.description ≤ 2048
  pub command : length config.command ≤ 2048
  pub needs : length config.needs ≤ 512
  pub needed : All IsShortNeed config.needs
  pub actions : length config.actions ≤ 64
  pub known : All IsKnown config.actions
  pub triggers : length config.triggers ≤ 64

kind_small : (kind : ℕ) → not (kind == 16 || kind == 32) ≡ false → kind ≤ 32
kind_small kind fine =
    elim (kind == 16) as (λ b. (kind == 16) ≡ b → not (b || kind == 32) ≡ false → kind ≤ 32) [
      | true ↦ λ e h. (let is = eqb-true kind 16 e in omega (arith, is))
      | false ↦ λ e h. (let is = eqb-true kind 32 (not-false (kind == 32) h) in omega (arith, is))
    ] refl fine

pub is_small : (config : Config) → check_new config None ≡ 0 → IsSmall config
unfolding check_new
is_small config e =
    let short = are_short config e in
    let p = all_pass ((has_bad_names config, 123) ∷ (has_bad_numbers config || has_bad_texts config || has_bad_lists config, 87) ∷
    (is_bad_account None, 1057) ∷ []) (refl, (refl, (refl, tt))) e in
    let parts = or_parts (has_bad_numbers config || has_bad_texts config) (has_bad_lists config) p.1.0 in
    let both = or_parts (has_bad_numbers config) (has_bad_texts config) parts.0 in
    let delayed = or_parts (not (config.kind == 16 || config.kind == 32) || not
    (nat_le 2 config.start && nat_le config.start 4) || nat_lt 3 config.error) _ both.0 in
    let error = or_parts (not (config.kind == 16 || config.kind == 32) || not (nat_le 2 config.start && nat_le config.start 4))
    (nat_lt 3 config.error) delayed.0 in
    let start = or_parts (not (config.kind == 16 || config.kind == 32)) (not (nat_le 2 config.start && nat_le config.start 4)) error.0 in
    let lines = or_parts (is_bad_line config.path || is_longer 256 config.group || is_longer 2048 config.description) _ both.1 in
    let texts = or_parts (is_bad_line config.path || is_longer 256 config.group) (is_longer 2048 config.description) lines.0 in
    let triggers = or_parts (nat_lt 512 (length config.needs) || list_any (λ need. is_longer 256 (name_of_need need)) config.needs
    || nat_lt 64 (length config.actions) || list_any (λ (action : Action). nat_lt 3 action.what) config.actions)
    (nat_lt 64 (length config.triggers)) parts.1 in
    let known = or_parts (nat_lt 512 (length config.needs) || list_any (λ need. is_longer 256 (name_of_need need)) config.needs
    || nat_lt 64 (length config.actions)) (list_any (λ (action : Action). nat_lt 3 action.what) config.actions) triggers.0 in
    let lists = or_parts (nat_lt 512 (length config.needs) || list_any (λ need. is_longer 256 (name_of_need need)) config.needs)
    (nat_lt 64 (length config.actions)) known.0 in
    let many = or_parts (nat_lt 512 (length config.needs)) (list_any (λ need. is_longer 256 (name_of_need need)) config.needs) lists.0 in
    record {
      name = short.name;
      display = short.display;
      kind = kind_small config.kind start.0;
      start = leb-true config.start 4 (and_parts (nat_le 2 config.start) (nat_le config.start 4) (not-false _ start.1)).1;
      error = ltb-false 3 config.error error.1;
      path = short.path;
      group = short.group;
      description = ltb-false 2048 (length config.description) texts.1;
      command = short.command;
      needs = ltb-false 512 (length config.needs) many.0;
      needed = All-weaker (λ need. is_longer 256 (name_of_need need) ≡ false) IsShortNeed
          (λ need h. ltb-false 256 (length (name_of_need need)) h) config.needs
          (none_any (λ need. is_longer 256 (name_of_need need)) config.needs many.1);
      actions = ltb-false 64 (length config.actions) lists.1;
      known = All-weaker (λ (a : Action). nat_lt 3 a.what ≡ false) IsKnown (λ a h. ltb-false 3 a.what h) config.actions
          (none_any (λ (a : Action). nat_lt 3 a.what) config.actions known.1);
      triggers = ltb-false 64 (length config.triggers) triggers.1;
    }

-- ## It has an encoding

text_fits : (units : List ℕ) → length units ≤ 2048 → AreUnits units → FitsText units
text_fits units short is = (omega (arith, short), is)

need_fits : (need : Need) → IsShortNeed need → HasText need → IsNeed need
need_fits (needs.Service name) short is = text_fits name (omega (arith, short)) is
need_fits (needs.Group name) short is = text_fits name (omega (arith, short)) is

pub config_fits : (config : Config) → IsSmall config → HasUnits config → IsConfig config
config_fits config small is = (
  record {
    name = text_fits config.name (let n = small.name in omega (arith, n)) is.name;
    display = text_fits config.display (let n = small.display in omega (arith, n)) is.display;
    kind = let n = small.kind in omega (arith, n);
    start = let n = small.start in omega (arith, n);
    error = let n = small.error in omega (arith, n);
    path = text_fits config.path small.path is.path;
  },
  record {
    group = text_fits config.group (let n = small.group in omega (arith, n)) is.group;
    tag = is.tag;
    needs = ((let n = small.needs in omega (arith, n)), λ k d lt. need_fits _ (small.needed k d lt) (is.needs k d lt));
    description = text_fits config.description small.description is.description;
  },
  record {
    reset = is.reset;
    actions = (
      (let n = small.actions in omega (arith, n)),
      λ k d lt.
          ((let n = small.known k d lt in omega (arith, n)), is.actions k d lt),
    );
    command = text_fits config.command small.command is.command;
  },
  record { triggers = ((let n = small.triggers in omega (arith, n)), is.triggers) },
)

need_text : (need : Need) → IsNeed need → HasText need
need_text (needs.Service name) fits = fits.1
need_text (needs.Group name) fits = fits.1

-- what has an encoding has its numbers and units
pub units_of : (config : Config) → IsConfig config → HasUnits config
units_of config fits = record {
  name = fits.0.name.1;
  display = fits.0.display.1;
  path = fits.0.path.1;
  group = fits.1.group.1;
  tag = fits.1.tag;
  needs = λ k d lt. need_text _ (fits.1.needs.1 k d lt);
  description = fits.1.description.1;
  reset = fits.2.reset;
  actions = λ k d lt. (fits.2.actions.1 k d lt).1;
  command = fits.2.command.1;
  triggers = fits.3.triggers.1;
}

-- ## Its encoding is short

units_long : (units : List ℕ) → length (flat_map (to_le_bytes w16) units) ≡ 2 * length units
units_long [] = refl
units_long (u ∷ units) = ap (λ (bytes : List ℕ). length bytes) (flat_map-cons (to_le_bytes w16) u units) ∙
    (let rest = units_long units in omega (arith, rest))

pub text_long : (units : List ℕ) (n : ℕ) → length units ≤ n → length (text units) ≤ 4 + 2 * n
text_long units n short = let long = units_long units in let both = length-append (number (length units))
    (flat_map (to_le_bytes w16) units) in omega (arith, long, both, short)

need_long : (need : Need) → IsShortNeed need → length (need_bytes need) ≤ 517
need_long (needs.Service name) short = let long = text_long name 256 short in omega (arith, long)
need_long (needs.Group name) short = let long = text_long name 256 short in omega (arith, long)

both_long : (a b : List ℕ) (m n : ℕ) → length a ≤ m → length b ≤ n → length (a ++ b) ≤ m + n
both_long a b m n left right = let long = length-append a b in omega (arith, long, left, right)

needs_long : (rows : List Need) → length rows ≤ 512 → All IsShortNeed rows → length (counted_items need_bytes rows) ≤ 4 + 264704
needs_long rows few short =
    let each = All-weaker IsShortNeed (λ need. length (need_bytes need) ≤ 517) need_long rows short in
    let long = length-flat_map need_bytes rows in
    let least = sum_by-le (λ need. length (need_bytes need)) 517 rows each in
    both_long (number (length rows)) (flat_map need_bytes rows) 4 264704 (omega arith) (omega (arith, long, least, few))

actions_long : (rows : List Action) → length rows ≤ 64 → length (counted_items action rows) ≤ 4 + 512
actions_long rows few =
    let long = length-flat_map action rows in
    let least = sum_by-le (λ a. length (action a)) 8 rows (λ k d lt. omega arith) in
    both_long (number (length rows)) (flat_map action rows) 4 512 (omega arith) (omega (arith, long, least, few))

four : (n : ℕ) → length (number n) ≤ 4
four n = omega arith

flag_long : (b : Bool) → length (flag b) ≤ 1
flag_long true = omega arith
flag_long false = omega arith

front_long : (config : Config) → IsSmall config → length (front config) ≤ 5144
front_long config small =
    let names = text config.name ++ text config.display in
    let a = both_long (text config.name) (text config.display) 516 516 (text_long config.name 256 small.name)
    (text_long config.display 256 small.display) in
    let b = both_long names (number config.kind) 1032 4 a (four config.kind) in
    let c = both_long (names ++ number config.kind) (number config.start) 1036 4 b (four config.start) in
    let d = both_long (names ++ number config.kind ++ number config.start) (number config.error) 1040 4 c (four config.error) in
    both_long (names ++ number config.kind ++ number config.start ++ number config.error) (text config.path) 1044 4100 d
    (text_long config.path 2048 small.path)

middle_long : (config : Config) → IsSmall config → length (middle config) ≤ 269328
middle_long config small =
    let a = both_long (text config.group) (number config.tag) 516 4 (text_long config.group 256 small.group) (four config.tag) in
    let b = both_long (text config.group ++ number config.tag) (counted_items need_bytes config.needs) 520 264708 a
    (needs_long config.needs small.needs small.needed) in
    both_long (text config.group ++ number config.tag ++ counted_items need_bytes config.needs) (text config.description) 265228 4100 b
    (text_long config.description 2048 small.description)

back_long : (config : Config) → IsSmall config → length (back config) ≤ 4621
back_long config small =
    let a = both_long (number config.reset) (counted_items action config.actions) 4 516 (four config.reset)
    (actions_long config.actions small.actions) in
    let b = both_long (number config.reset ++ counted_items action config.actions) (text config.command) 520 4100 a
    (text_long config.command 2048 small.command) in
    both_long (number config.reset ++ counted_items action config.actions ++ text config.command) (flag config.on_exit) 4620 1 b
    (flag_long config.on_exit)

trigger_long : (trigger : Trigger) → IsTrigger trigger → length (trigger_bytes trigger) ≤ 20
trigger_long trigger is =
    let long = length-append (number trigger.action) trigger.subtype in
    let size = is.1 in
    omega (arith, long, size)

triggers_long : (rows : List Trigger) → length rows ≤ 64 → All IsTrigger rows → length (counted_items trigger_bytes rows) ≤ 4 + 1280
triggers_long rows few is =
    let each = All-weaker IsTrigger (λ trigger. length (trigger_bytes trigger) ≤ 20) trigger_long rows is in
    let long = length-flat_map trigger_bytes rows in
    let least = sum_by-le (λ trigger. length (trigger_bytes trigger)) 20 rows each in
    both_long (number (length rows)) (flat_map trigger_bytes rows) 4 1280 (omega arith) (omega (arith, long, least, few))

end_long : (config : Config) → IsSmall config → HasUnits config → length (end config) ≤ 1285
end_long config small is = both_long (flag config.delayed) (counted_items trigger_bytes config.triggers) 1 1284 (flag_long config.delayed)
    (triggers_long config.triggers small.triggers is.triggers)

pub spelling_long : (config : Config) → IsSmall config → HasUnits config → FitsNumber (length (encoding config))
spelling_long config small is =
    let a = both_long (front config) (middle config) 5144 269328 (front_long config small) (middle_long config small) in
    let b = both_long (front config ++ middle config) (back config) 274472 4621 a (back_long config small) in
    let long = both_long (encoding_1 config) (end config) 279093 1285 b (end_long config small is) in
    omega (arith, long)
