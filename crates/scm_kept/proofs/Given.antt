-- What a request gives for a configuration makes one whose numbers and units are those of their types.
use Rattle.std.proofs.Common.{ℕ, zero, suc, ◌<◌, ◌+◌, ◌*◌, ◌^◌, ◌==◌, Bool, true, false, cond, List, [], ◌∷◌, Option, None, Some, Ok, Err}
use Rattle.std.proofs.Common.{length, map, arith, refl}
use Rattle.std.specs.Prelude.{All, IfOk, IfSome, option_and_then, option_map, unwrap_or}
use Rattle.std.specs.List.{AllByRecursion}
use Rattle.std.proofs.lemmas.List.Elements.{All-cons, All-from_recursion, All-head, All-map, All-nil, All-tail, All-weaker}
use Rattle.scm_text.specs.declared.multi.MultiFault.TheVariants.{EmptyName}
use Rattle.scm_text.specs.Multi.{Reading, is_mark, names_from, names_of, pieces, read_behind, with_front}
use Rattle.scm_model.specs.declared.flat.Action.{Action}
use Rattle.scm_model.specs.declared.flat.Config.{Config}
use Rattle.scm_model.specs.declared.flat.Flat.{Flat}
use Rattle.scm_model.specs.declared.flat.Need.{Need}
use Rattle.scm_model.specs.declared.flat.Need.TheVariants as needs
use Rattle.scm_model.specs.declared.flat.Trigger.{Trigger}
use Rattle.scm_model.specs.declared.calls.ChangeService.{ChangeService}
use Rattle.scm_model.specs.declared.calls.Info.{Info}
use Rattle.scm_model.specs.declared.calls.Info.TheVariants as info
use Rattle.scm_model.specs.declared.calls.NewService.{NewService}
use Rattle.scm_model.specs.declared.calls.TriggerIn.{TriggerIn}
use Rattle.service_record.specs.Checks.{name_of_need}
use Rattle.service_record.specs.Spelling.{FitsNumber, IsSubtype, IsTrigger, IsUnit}
use Rattle.scm_rules.specs.Change.{changed_config, display_or, tag_or}
use Rattle.scm_rules.specs.Change2.{config_at, trigger_of, zero_subtype}
use Rattle.scm_rules.specs.Create.{created_config, display_of, next_tag, tag_of}
use Rattle.scm_rules.specs.Needs.{need_named, needs_in_bytes, needs_or, needs_read, units_in_bytes}
use Rattle.scm_kept.specs.Fitting.{AreBytes, AreBytesIn, FitsDelay, IsByte, AreUnits, IsTextIn, FitsChange, FitsCreation, FitsLevel}
use Rattle.scm_kept.specs.Fitting.{FitsTrigger}

-- ## Needs in bytes

abbrev IsLow : ℕ → Type 0
IsLow u = u < 2 ^ 16

abbrev AreTexts : List (List ℕ) → Type 0
AreTexts texts = AllByRecursion AreUnits texts

unit_before : (low high : ℕ) (read : Option (List ℕ)) → IsByte low → IsByte high → IfSome read (All IsLow)
    → IfSome (option_map (λ units. (low + 256 * high) ∷ units) read) (All IsLow)
unit_before low high None small large each = tt
unit_before low high (Some units) small large each = All-cons IsLow (low + 256 * high) units (omega (arith, small, large)) each

units_low : (bytes : List ℕ) → AreBytes bytes → IfSome (units_in_bytes bytes) (All IsLow)
units_low [] each = All-nil IsLow
units_low (low ∷ []) each = tt
units_low (low ∷ high ∷ bytes) each =
    let rest = All-tail IsByte low (high ∷ bytes) each in
    unit_before low high (units_in_bytes bytes) (All-head IsByte low (high ∷ bytes) each) (All-head IsByte high bytes rest)
    (units_low bytes (All-tail IsByte high bytes rest))

front_text : (u : ℕ) (texts : List (List ℕ)) → IsUnit u → AreTexts texts → AreTexts (with_front u texts)
front_text u [] one each = tt
front_text u (text ∷ texts) one each = (All-cons IsUnit u text one each.0, each.1)

pieces_are : (units : List ℕ) → All IsLow units → AreTexts (pieces units)
unfolding pieces
pieces_are [] each = tt
pieces_are (zero ∷ units) each = (All-nil IsUnit, pieces_are units (All-tail IsLow zero units each))
pieces_are (suc u ∷ units) each =
    front_text (suc u) (pieces units) (omega arith, All-head IsLow (suc u) units each)
    (pieces_are units (All-tail IsLow (suc u) units each))

one_behind : (name : List ℕ) (read : Reading) → AreUnits name → IfOk read AreTexts → IfOk (read_behind (name ∷ []) read) AreTexts
one_behind name (Ok more) is each = (is, each)
one_behind name (Err fault) is each = tt

names_are : (place : ℕ) (texts : List (List ℕ)) → AreTexts texts → IfOk (names_from place texts) AreTexts
unfolding names_from
names_are place [] each = tt
names_are place ([] ∷ texts) each = tt
names_are place ((u ∷ name) ∷ texts) each =
    elim (is_mark (u ∷ name)) as (λ b. IfOk
    (cond b (Err (EmptyName place)) (read_behind ((u ∷ name) ∷ []) (names_from (place + length (u ∷ name) + 1) texts))) AreTexts) [
      | true ↦ tt
      | false ↦ one_behind (u ∷ name) (names_from (place + length (u ∷ name) + 1) texts) each.0
          (names_are (place + length (u ∷ name) + 1) texts each.1)
    ]

-- a need's name is a text
abbrev pub HasText : Need → Type 0
HasText need = AreUnits (name_of_need need)

need_is : (name : List ℕ) → AreUnits name → HasText (need_named name)
need_is [] is = is
need_is (u ∷ name) is =
    elim (u == 43) as (λ b. HasText (cond b (needs.Group name)
    (needs.Service (u ∷ name)))) [ true ↦ All-tail IsUnit u name is | false ↦ is ]

needs_are : (names : List (List ℕ)) → AreTexts names → AllByRecursion HasText (map need_named names)
needs_are [] each = tt
needs_are (name ∷ names) each = (need_is name each.0, needs_are names each.1)

read_are : (read : Reading) → IfOk read AreTexts → IfSome (needs_read read) (All HasText)
read_are (Ok names) each = All-from_recursion HasText (map need_named names) (needs_are names each)
read_are (Err fault) each = tt

names_in : (read : Option (List ℕ)) → IfSome read (All IsLow)
    → IfSome (option_and_then (λ units. needs_read (names_of units)) read) (All HasText)
names_in None each = tt
names_in (Some units) each = read_are (names_of units) (names_are 0 (pieces units) (pieces_are units each))

some_or : (read : Option (List Need)) (old : List Need) → IfSome read (All HasText) → All HasText old → All HasText (unwrap_or read old)
some_or None old each is = is
some_or (Some names) old each is = each

needs_given : (old : List Need) (given : Option (List ℕ)) → All HasText old → AreBytesIn given → All HasText (needs_or old given)
needs_given old None is each = is
needs_given old (Some bytes) is each = some_or (needs_in_bytes bytes) old (names_in (units_in_bytes bytes) (units_low bytes each)) is

-- ## Configurations

pub record HasUnits (config : Config) : Type 0 where
  pub name : AreUnits config.name
  pub display : AreUnits config.display
  pub path : AreUnits config.path
  pub group : AreUnits config.group
  pub tag : FitsNumber config.tag
  pub needs : All HasText config.needs
  pub description : AreUnits config.description
  pub reset : FitsNumber config.reset
  pub actions : All FitsDelay config.actions
  pub command : AreUnits config.command
  pub triggers : All IsTrigger config.triggers

given_or : (given : Option (List ℕ)) (old : List ℕ) → IsTextIn given → AreUnits old → AreUnits (unwrap_or given old)
given_or None old each is = is
given_or (Some text) old each is = each

display_is : (name : List ℕ) (given : Option (List ℕ)) → AreUnits name → IsTextIn given → AreUnits (display_of name given)
display_is name None is each = is
display_is name (Some display) is each = elim (length display == 0) as (λ b. AreUnits (cond b name display)) [ true ↦ is | false ↦ each ]

tag_is : (f : Flat) (group : List ℕ) (asked : Option ℕ) → FitsNumber (tag_of f group asked)
tag_is f group None = omega arith
tag_is f group (Some asked) = elim (length group == 0) as
    (λ b. FitsNumber (cond b 0 (next_tag f group))) [ true ↦ omega arith | false ↦ omega arith ]

pub created_units : (f : Flat) (new : NewService) → FitsCreation new → HasUnits (created_config f new)
created_units f new fits = record {
  name = fits.name;
  display = display_is new.name new.display fits.name fits.display;
  path = fits.path;
  group = given_or new.group [] fits.group (All-nil IsUnit);
  tag = tag_is f (unwrap_or new.group []) new.tag;
  needs = needs_given [] new.needs (All-nil HasText) fits.needs;
  description = All-nil IsUnit;
  reset = omega arith;
  actions = All-nil FitsDelay;
  command = All-nil IsUnit;
  triggers = All-nil IsTrigger;
}

display_left : (old : Config) (given : Option (List ℕ)) → HasUnits old → IsTextIn given → AreUnits (display_or old given)
display_left old None is each = is.display
display_left old (Some display) is each = display_is old.name (Some display) is.name each

tag_left : (f : Flat) (old : Config) (group : List ℕ) (asked : Option ℕ) → HasUnits old → FitsNumber (tag_or f old group asked)
tag_left f old group None is = is.tag
tag_left f old group (Some asked) is = omega arith

pub changed_units : (f : Flat) (change : ChangeService) (old : Config) → FitsChange change → HasUnits old
    → HasUnits (changed_config f change old)
changed_units f change old fits is = record {
  name = is.name;
  display = display_left old change.display is fits.display;
  path = given_or change.path old.path fits.path is.path;
  group = given_or change.group old.group fits.group is.group;
  tag = tag_left f old (unwrap_or change.group old.group) change.tag is;
  needs = needs_given old.needs change.needs is.needs fits.needs;
  description = is.description;
  reset = is.reset;
  actions = is.actions;
  command = is.command;
  triggers = is.triggers;
}

-- a configuration in which a change at one level may be new
with_level : (old : Config) {description command : List ℕ} {reset : ℕ} {actions : List Action} {on_exit delayed : Bool}
    {triggers : List Trigger} → HasUnits old → AreUnits description → FitsNumber reset → All FitsDelay actions → AreUnits command
    → All IsTrigger triggers → HasUnits (record old {
      description = description;
      reset = reset;
      actions = actions;
      command = command;
      on_exit = on_exit;
      delayed = delayed;
      triggers = triggers;
    })
with_level old is description reset actions command triggers = record {
  name = is.name;
  display = is.display;
  path = is.path;
  group = is.group;
  tag = is.tag;
  needs = is.needs;
  description = description;
  reset = reset;
  actions = actions;
  command = command;
  triggers = triggers;
}

with_flags : (old : Config) (on_exit delayed : Bool) (triggers : List Trigger) → All IsTrigger triggers → HasUnits old
    → HasUnits (record old { on_exit = on_exit; delayed = delayed; triggers = triggers })
with_flags old on_exit delayed triggers each is = with_level old is is.description is.reset is.actions is.command each

with_actions : (old : Config) (reset : ℕ) (actions : List Action) (command : Option (List ℕ)) → FitsNumber reset → All FitsDelay actions
    → IsTextIn command → HasUnits old
    → HasUnits (record old { reset = reset; actions = actions; command = unwrap_or command old.command })
with_actions old reset actions command fits each given is =
    with_level old is is.description fits each (given_or command old.command given is.command) is.triggers

with_description : (old : Config) (text : Option (List ℕ)) → IsTextIn text → HasUnits old
    → HasUnits (record old { description = unwrap_or text old.description })
with_description old text given is =
    with_level old is (given_or text old.description given is.description) is.reset is.actions is.command is.triggers

-- a subtype that is absent is of 16 bytes too
subtype_is : (given : Option (List ℕ)) → IfSome given IsSubtype → IsSubtype (unwrap_or given zero_subtype)
subtype_is None is = refl
subtype_is (Some subtype) is = is

trigger_is : (asked : TriggerIn) → FitsTrigger asked → IsTrigger (trigger_of asked)
trigger_is asked fits = (fits.0, subtype_is asked.subtype fits.1)

triggers_are : (list : List TriggerIn) → All FitsTrigger list → All IsTrigger (map trigger_of list)
triggers_are list each =
    All-map IsTrigger trigger_of list (All-weaker FitsTrigger (λ (asked : TriggerIn). IsTrigger (trigger_of asked)) trigger_is list each)

pub level_units : (asked : Info) (old : Config) → FitsLevel asked → HasUnits old → HasUnits (config_at asked old)
level_units (info.Description text) old fits is = with_description old text fits is
level_units (info.Failure reset command None) old fits is = with_actions old old.reset old.actions command is.reset is.actions fits.1 is
level_units (info.Failure reset command (Some [])) old fits is = with_actions old 0 [] command (omega arith) (All-nil FitsDelay) fits.1 is
level_units (info.Failure reset command (Some (action ∷ actions))) old fits is = with_actions old reset
    (action ∷ actions) command fits.0 fits.2 fits.1 is
level_units (info.Delayed on) old fits is = with_flags old old.on_exit on old.triggers is.triggers is
level_units (info.OnExit on) old fits is = with_flags old on old.delayed old.triggers is.triggers is
level_units (info.Triggers list) old fits is = with_flags old old.on_exit old.delayed (map trigger_of list) (triggers_are list fits) is
level_units (info.Other level) old fits is = is
level_units (info.Nothing level) old fits is = is
