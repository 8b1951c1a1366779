-- What is asked to be changed at one level of a configuration: how it is read, where it stands, and the one form that is written.
-- A level, the level again, and at a level that is served a pointer to what is to be.
use Rattle.std.specs.Prelude.{◌≡◌, ◌||◌, ◌==◌, ◌<◌, ◌^◌, ℕ, Bool, true, false, List, [], length, Option, None, Some, is_some, unwrap_or}
use Rattle.std.specs.Prelude.{IfSome, Ok, if◌then◌else◌}
use Rattle.std.specs.List.{AllByRecursion}
use Rattle.scm_model.specs.declared.flat.Action.{Action}
use Rattle.scm_model.specs.declared.calls.Info.{Info}
use Rattle.scm_model.specs.declared.calls.Info.TheVariants as info
use Rattle.scm_model.specs.declared.calls.TriggerIn.{TriggerIn}
use Rattle.scm_model.specs.declared.codes.TheConstants.{SC_MAX_ACTIONS, SC_MAX_TRIGGERS, SERVICE_CONFIG_DELAYED_AUTO_START_INFO}
use Rattle.scm_model.specs.declared.codes.TheConstants.{SERVICE_CONFIG_DESCRIPTION, SERVICE_CONFIG_FAILURE_ACTIONS}
use Rattle.scm_model.specs.declared.codes.TheConstants.{SERVICE_CONFIG_FAILURE_ACTIONS_FLAG, SERVICE_CONFIG_TRIGGER_INFO}
use Rattle.scm_model.specs.Ranges.{is_level}
use Rattle.ndr_body.specs.Reading.{number_at, text_at, some_text_at, uuid_at}
use Rattle.ndr_body.specs.Writing.{Draft, put_number, put_text, put_some_text, put_uuid}
use Rattle.ndr_body.specs.Spelled.{IsNumber, IsText, IsUuid, IsPointed, Stands}
use Rattle.ndr_body.specs.Laws.{IsSent}
use Rattle.scm_shapes.specs.declared.levels.FailureHead.{FailureHead}
use Rattle.scm_shapes.specs.declared.levels.TriggerHead.{TriggerHead}
use Rattle.scm_shapes.specs.Each.{each_at, CountedStand}
use Rattle.scm_shapes.specs.Ranges.{within_at, WithinStands}
use Rattle.scm_shapes.specs.Parts.{Reads, made_at, then_at, both_at, checked_at, unkept_at, if_at, for_each_at, same_at, nonzero_at}
use Rattle.scm_shapes.specs.Parts.{ThenStands, BothStand, Holds, CheckedStands, IfStands, ForEachStands, SameStands, NonzeroStands}
use Rattle.scm_shapes.specs.Parts.{put_pointer, put_flag, put_if, put_all}

-- ## Failures: five numbers, the texts of the second and the third, and the actions of the last. The reboot message isn't kept.

abbrev pub failure_head : ℕ × (Bool × (Bool × (ℕ × Bool))) → FailureHead
failure_head v = record { reset = v.0; reboot = v.1.0; command = v.1.1.0; count = v.1.1.1.0; listed = v.1.1.1.1 }

abbrev pub failure_head_at : Reads FailureHead
failure_head_at = made_at failure_head (both_at number_at (both_at nonzero_at
    (both_at nonzero_at (both_at (within_at SC_MAX_ACTIONS) nonzero_at))))

abbrev pub FailureHeadStands : List ℕ → ℕ → FailureHead → ℕ → Type 0
FailureHeadStands = Holds failure_head (BothStand (Stands IsNumber) (BothStand NonzeroStands
    (BothStand NonzeroStands (BothStand (WithinStands SC_MAX_ACTIONS) NonzeroStands))))

abbrev pub action_of : ℕ × ℕ → Action
action_of v = record { what = v.0; delay = v.1 }

abbrev pub action_at : Reads Action
action_at = made_at action_of (both_at number_at number_at)

abbrev pub ActionStands : List ℕ → ℕ → Action → ℕ → Type 0
ActionStands = Holds action_of (BothStand (Stands IsNumber) (Stands IsNumber))

-- the count again, and the actions
abbrev pub actions_at : ℕ → Reads (List Action)
actions_at count = made_at (λ v. v.1) (both_at (same_at count) (each_at action_at count))

abbrev pub ActionsStand : ℕ → List ℕ → ℕ → List Action → ℕ → Type 0
ActionsStand count = Holds (λ v. v.1) (BothStand (SameStands count) (CountedStand count ActionStands))

abbrev pub failure_tail_at : FailureHead → Reads (Unit {0} × (Option (List ℕ) × Option (List Action)))
failure_tail_at head = both_at (unkept_at (if_at head.reboot text_at)) (both_at (if_at head.command text_at)
    (if_at head.listed (actions_at head.count)))

abbrev pub FailureTailStands : FailureHead → List ℕ → ℕ → Unit {0} × (Option (List ℕ) × Option (List Action)) → ℕ → Type 0
FailureTailStands head = BothStand (Holds (λ text. tt) (IfStands head.reboot (Stands IsText)))
    (BothStand (IfStands head.command (Stands IsText)) (IfStands head.listed (ActionsStand head.count)))

abbrev pub failure_info : FailureHead × (Unit {0} × (Option (List ℕ) × Option (List Action))) → Info
failure_info v = info.Failure v.0.reset v.1.1.0 v.1.1.1

unfoldable pub failure_at : Reads Info
failure_at = made_at failure_info (then_at failure_head_at failure_tail_at)

abbrev pub FailureStands : List ℕ → ℕ → Info → ℕ → Type 0
FailureStands = Holds failure_info (ThenStands FailureHeadStands FailureTailStands)

-- ## Triggers: a count, a pointer and a zero pointer, the triggers, and the subtypes that they point to. No trigger needs no list.

abbrev pub trigger_head : ℕ × (ℕ × (Bool × (ℕ × ℕ))) → TriggerHead
trigger_head v = record { kind = v.0; action = v.1.0; named = v.1.1.0; items = v.1.1.1.0 }

abbrev pub trigger_head_at : Reads TriggerHead
trigger_head_at = made_at trigger_head (both_at number_at (both_at number_at (both_at nonzero_at (both_at number_at (same_at 0)))))

abbrev pub TriggerHeadStands : List ℕ → ℕ → TriggerHead → ℕ → Type 0
TriggerHeadStands = Holds trigger_head (BothStand (Stands IsNumber) (BothStand (Stands IsNumber)
    (BothStand NonzeroStands (BothStand (Stands IsNumber) (SameStands 0)))))

abbrev pub trigger_from : TriggerHead → Option (List ℕ) → TriggerIn
trigger_from head subtype = record { kind = head.kind; action = head.action; subtype = subtype; items = head.items }

abbrev pub trigger_at : TriggerHead → Reads TriggerIn
trigger_at head = made_at (trigger_from head) (if_at head.named uuid_at)

abbrev pub TriggerStands : TriggerHead → List ℕ → ℕ → TriggerIn → ℕ → Type 0
TriggerStands head = Holds (trigger_from head) (IfStands head.named (Stands IsUuid))

-- the count again, the triggers, and their subtypes
abbrev pub trigger_heads_at : ℕ → Reads (List TriggerHead)
trigger_heads_at count = made_at (λ v. v.1) (both_at (same_at count) (each_at trigger_head_at count))

abbrev pub TriggerHeadsStand : ℕ → List ℕ → ℕ → List TriggerHead → ℕ → Type 0
TriggerHeadsStand count = Holds (λ v. v.1) (BothStand (SameStands count) (CountedStand count TriggerHeadStands))

abbrev pub listed_triggers_at : ℕ → Reads (List TriggerIn)
listed_triggers_at count = made_at (λ v. v.1) (then_at (trigger_heads_at count) (for_each_at trigger_at))

abbrev pub ListedTriggersStand : ℕ → List ℕ → ℕ → List TriggerIn → ℕ → Type 0
ListedTriggersStand count = Holds (λ v. v.1) (ThenStands (TriggerHeadsStand count) (ForEachStands TriggerStands))

-- whether there is a list: it has to be where the count isn't 0
abbrev pub is_listed : ℕ → Bool → Bool
is_listed count listed = listed || count == 0

abbrev pub listing_at : Reads (ℕ × (Bool × ℕ))
listing_at = then_at (within_at SC_MAX_TRIGGERS) (λ count. both_at (checked_at (is_listed count) nonzero_at) (same_at 0))

abbrev pub ListingStands : List ℕ → ℕ → ℕ × (Bool × ℕ) → ℕ → Type 0
ListingStands = ThenStands (WithinStands SC_MAX_TRIGGERS) (λ count. BothStand (CheckedStands (is_listed count) NonzeroStands)
    (SameStands 0))

abbrev pub triggers_of : (ℕ × (Bool × ℕ)) × Option (List TriggerIn) → List TriggerIn
triggers_of v = unwrap_or v.1 []

unfoldable pub triggers_at : Reads (List TriggerIn)
triggers_at = made_at triggers_of (then_at listing_at (λ listing. if_at listing.1.0 (listed_triggers_at listing.0)))

abbrev pub TriggersStand : List ℕ → ℕ → List TriggerIn → ℕ → Type 0
TriggersStand = Holds triggers_of (ThenStands ListingStands (λ listing. IfStands listing.1.0 (ListedTriggersStand listing.0)))

-- ## Every level

abbrev pub level_of : Info → ℕ
level_of (info.Description text) = SERVICE_CONFIG_DESCRIPTION
level_of (info.Failure reset command actions) = SERVICE_CONFIG_FAILURE_ACTIONS
level_of (info.Delayed on) = SERVICE_CONFIG_DELAYED_AUTO_START_INFO
level_of (info.OnExit on) = SERVICE_CONFIG_FAILURE_ACTIONS_FLAG
level_of (info.Triggers list) = SERVICE_CONFIG_TRIGGER_INFO
level_of (info.Other level) = level
level_of (info.Nothing level) = level

-- what a pointer at a level points to
unfoldable pub referent_at : ℕ → Reads Info
referent_at level =
    if level == SERVICE_CONFIG_DESCRIPTION then made_at info.Description some_text_at
    else if level == SERVICE_CONFIG_FAILURE_ACTIONS then failure_at
    else if level == SERVICE_CONFIG_DELAYED_AUTO_START_INFO then made_at info.Delayed nonzero_at
    else if level == SERVICE_CONFIG_FAILURE_ACTIONS_FLAG then made_at info.OnExit nonzero_at
    else made_at info.Triggers triggers_at

abbrev pub ReferentStands : Info → List ℕ → ℕ → ℕ → Type 0
ReferentStands (info.Description text) bytes place after = Stands (IsPointed IsText) bytes place text after
ReferentStands (info.Failure reset command actions) bytes place after = FailureStands bytes place (info.Failure reset command actions) after
ReferentStands (info.Delayed on) bytes place after = NonzeroStands bytes place on after
ReferentStands (info.OnExit on) bytes place after = NonzeroStands bytes place on after
ReferentStands (info.Triggers list) bytes place after = TriggersStand bytes place list after
ReferentStands (info.Other level) bytes place after = ⊥
ReferentStands (info.Nothing level) bytes place after = ⊥

-- a zero pointer asks for nothing
unfoldable pub served_at : ℕ → Reads Info
served_at level = made_at (λ v. unwrap_or v.1 (info.Nothing level)) (then_at nonzero_at (λ points. if_at points (referent_at level)))

-- anything may follow a level that isn't served
unfoldable pub level_at : ℕ → Reads Info
level_at level = if is_level level then served_at level else (λ body place. Ok (info.Other level, place))

abbrev pub LevelStands : Info → List ℕ → ℕ → ℕ → Type 0
LevelStands (info.Other level) bytes place after = (is_level level ≡ false) × (after ≡ place)
LevelStands (info.Nothing level) bytes place after = (is_level level ≡ true) × Stands IsNumber bytes place 0 after
LevelStands asked bytes place after = (middle : ℕ) × NonzeroStands bytes place true middle × ReferentStands asked bytes middle after

unfoldable pub info_at : Reads Info
info_at = made_at (λ v. v.1.1) (then_at number_at (λ level. both_at (same_at level) (level_at level)))

pub record InfoStands (bytes : List ℕ) (place : ℕ) (asked : Info) (after : ℕ) : Type 0 where
  pub middle : ℕ
  pub level_stands : Stands IsNumber bytes place (level_of asked) middle
  pub after_again : ℕ
  pub again_stands : Stands IsNumber bytes middle (level_of asked) after_again
  pub stands : LevelStands asked bytes after_again after

-- ## Writing

abbrev pub count_of : {A : Type 0} → Option (List A) → ℕ
count_of None = 0
count_of (Some listed) = length listed

unfoldable pub put_failure_head : ℕ → Option (List ℕ) → Option (List Action) → Draft → Draft
put_failure_head reset command actions d = put_pointer (is_some actions)
    (put_number (count_of actions) (put_pointer (is_some command) (put_pointer false (put_number reset d))))

unfoldable pub put_action : Action → Draft → Draft
put_action action d = put_number action.delay (put_number action.what d)

unfoldable pub put_actions : List Action → Draft → Draft
put_actions actions d = put_all put_action actions (put_number (length actions) d)

unfoldable pub put_failure : ℕ → Option (List ℕ) → Option (List Action) → Draft → Draft
put_failure reset command actions d = put_if put_actions actions (put_if put_text command (put_failure_head reset command actions d))

unfoldable pub put_trigger_head : TriggerIn → Draft → Draft
put_trigger_head trigger d = put_number 0 (put_number trigger.items (put_pointer (is_some trigger.subtype)
    (put_number trigger.action (put_number trigger.kind d))))

unfoldable pub put_subtype : TriggerIn → Draft → Draft
put_subtype trigger d = put_if put_uuid trigger.subtype d

unfoldable pub put_trigger_list : List TriggerIn → Draft → Draft
put_trigger_list triggers d = put_all put_subtype triggers (put_all put_trigger_head triggers (put_number (length triggers) d))

unfoldable pub put_listing : ℕ → Bool → Draft → Draft
put_listing count listed d = put_number 0 (put_pointer listed (put_number count d))

unfoldable pub put_triggers : List TriggerIn → Draft → Draft
put_triggers triggers d = if length triggers == 0 then put_listing 0 false d
    else put_trigger_list triggers (put_listing (length triggers) true d)

-- the referent of a pointer
unfoldable pub put_referent_of : Info → Draft → Draft
put_referent_of (info.Description text) d = put_some_text text d
put_referent_of (info.Failure reset command actions) d = put_failure reset command actions d
put_referent_of (info.Delayed on) d = put_flag on d
put_referent_of (info.OnExit on) d = put_flag on d
put_referent_of (info.Triggers list) d = put_triggers list d
put_referent_of (info.Other level) d = d
put_referent_of (info.Nothing level) d = d

unfoldable pub put_level : Info → Draft → Draft
put_level (info.Other level) d = d
put_level (info.Nothing level) d = put_pointer false d
put_level asked d = put_referent_of asked (put_pointer true d)

unfoldable pub put_info : Info → Draft → Draft
put_info asked d = put_level asked (put_number (level_of asked) (put_number (level_of asked) d))

-- ## What a body can hold

pub record IsActionSent (action : Action) : Type 0 where
  pub what : action.what < 2 ^ 32
  pub delay : action.delay < 2 ^ 32

pub record IsTriggerSent (trigger : TriggerIn) : Type 0 where
  pub kind : trigger.kind < 2 ^ 32
  pub action : trigger.action < 2 ^ 32
  pub subtype : IfSome trigger.subtype (λ uuid. length uuid ≡ 16)
  pub items : trigger.items < 2 ^ 32

abbrev pub IsInfoSent : Info → Type 0
IsInfoSent (info.Description text) = IfSome text IsSent
IsInfoSent (info.Failure reset command actions) = (reset < 2 ^ 32) × (IfSome command IsSent
    × IfSome actions (λ listed. AllByRecursion IsActionSent listed))
IsInfoSent (info.Delayed on) = Unit {0}
IsInfoSent (info.OnExit on) = Unit {0}
IsInfoSent (info.Triggers list) = AllByRecursion IsTriggerSent list
IsInfoSent (info.Other level) = level < 2 ^ 32
IsInfoSent (info.Nothing level) = level < 2 ^ 32
