-- The bodies of values are bytes, where the lists of bytes in these are.
use Rattle.std.proofs.Common.{ℕ, Bool, true, false, cond, eqb, List, [], ◌∷◌, length, take, replicate, Option, Some, None}
use Rattle.std.specs.Prelude.{IfSome, is_some}
use Rattle.std.specs.List.{AllByRecursion}
use Rattle.scm_model.specs.declared.flat.Action.{Action}
use Rattle.scm_model.specs.declared.calls.Info.{Info}
use Rattle.scm_model.specs.declared.calls.Info.TheVariants as info
use Rattle.scm_model.specs.declared.calls.TriggerIn.{TriggerIn}
use Rattle.ndr_body.specs.Writing.{Draft, blank, put_bytes, put_number, put_referent, put_text, put_uuid}
use Rattle.scm_shapes.specs.declared.item.Value.{Value}
use Rattle.scm_shapes.specs.declared.item.Value.TheVariants as value
use Rattle.scm_shapes.specs.Each.{put_each}
use Rattle.scm_shapes.specs.Levels.{count_of, level_of, put_action, put_actions, put_failure, put_failure_head, put_info, put_level}
use Rattle.scm_shapes.specs.Levels.{put_listing, put_referent_of, put_subtype, put_trigger_head, put_trigger_list, put_triggers}
use Rattle.scm_shapes.specs.Parts.{put_all, put_flag, put_if, put_pointer}
use Rattle.scm_shapes.specs.Records.{lock_marks, lock_texts, put_mark, put_marks, put_record, shown_marks, shown_texts}
use Rattle.scm_shapes.specs.Shapes.{body_bytes, put_value, put_values}
use Rattle.scm_shapes.specs.Sized.{put_sized, put_sized_array}
use Rattle.scm_shapes.specs.Words.{put_list, put_words}
use Rattle.trail_export.proofs.Bodies.{AreBytes, Keeps, keeps_both, keeps_bytes, keeps_handle, keeps_nothing, keeps_number, keeps_referent}
use Rattle.trail_export.proofs.Bodies.{keeps_some_number, keeps_some_text, keeps_text, keeps_uuid, taken_bytes}

-- ## Parts

keeps_pointer : (points : Bool) → Keeps (put_pointer points)
unfolding put_pointer
keeps_pointer true = keeps_referent
keeps_pointer false = keeps_number 0

keeps_flag : (on : Bool) → Keeps (put_flag on)
unfolding put_flag
keeps_flag true = keeps_number 1
keeps_flag false = keeps_number 0

keeps_if : {A : Type 0} (put : A → Draft → Draft) (o : Option A) → IfSome o (λ v. Keeps (put v)) → Keeps (put_if put o)
keeps_if put None law = keeps_nothing
keeps_if put (Some v) law = law

keeps_all : {A : Type 0} (put : A → Draft → Draft) (vs : List A) → AllByRecursion (λ v. Keeps (put v)) vs → Keeps (put_all put vs)
unfolding put_all
keeps_all put [] laws = keeps_nothing
keeps_all put (v ∷ vs) laws = keeps_both (put v) (put_all put vs) laws.0 (keeps_all put vs laws.1)

each : {A : Type 0} (put : A → Draft → Draft) → ((v : A) → Keeps (put v)) → (vs : List A) → AllByRecursion (λ v. Keeps (put v)) vs
each put law [] = tt
each put law (v ∷ vs) = (law v, each put law vs)

keeps_by : (b : Bool) (p q : Draft → Draft) → Keeps p → Keeps q → Keeps (λ d. cond b (p d) (q d))
keeps_by true p q first second = first
keeps_by false p q first second = second

keeps_each : (texts : List (List ℕ)) → Keeps (put_each texts)
keeps_each [] = keeps_nothing
keeps_each (text ∷ texts) = keeps_both (put_text text) (put_each texts) (keeps_text text) (keeps_each texts)

keeps_mark : (mark : Option ℕ) → Keeps (put_mark mark)
keeps_mark None = keeps_referent
keeps_mark (Some n) = keeps_number n

keeps_marks : (marks : List (Option ℕ)) → Keeps (put_marks marks)
keeps_marks [] = keeps_nothing
keeps_marks (mark ∷ marks) = keeps_both (put_mark mark) (put_marks marks) (keeps_mark mark) (keeps_marks marks)

keeps_record : (marks : List (Option ℕ)) (texts : List (List ℕ)) → Keeps (put_record marks texts)
unfolding put_record
keeps_record marks texts = keeps_both (put_marks marks) (put_each texts) (keeps_marks marks) (keeps_each texts)

keeps_sized_array : (held : List ℕ) → AreBytes held → Keeps (put_sized_array held)
keeps_sized_array held all = keeps_both (put_bytes held (length held)) (put_number (length held)) (keeps_bytes held (length held) all)
    (keeps_number (length held))

keeps_sized : (held : Option (List ℕ)) → IfSome held AreBytes → Keeps (put_sized held)
unfolding put_sized
keeps_sized None all = keeps_both (put_number 0) (put_number 0) (keeps_number 0) (keeps_number 0)
keeps_sized (Some held) all = keeps_both put_referent (put_sized_array held) keeps_referent (keeps_sized_array held all)

-- ## Words

keeps_list : (words : List (List ℕ)) → Keeps (put_list words)
unfolding put_list
keeps_list words =
    let n = length words in
    keeps_both _ _ (keeps_both _ _ (keeps_both _ _ (keeps_both _ _ (keeps_number n) keeps_referent) (keeps_number n))
    (keeps_marks (replicate n None))) (keeps_each words)

keeps_words : (words : Option (List (List ℕ))) → Keeps (put_words words)
unfolding put_words
keeps_words None = keeps_both (put_number 1) (put_number 0) (keeps_number 1) (keeps_number 0)
keeps_words (Some words) = keeps_by (eqb (length words) 0) (λ d. put_number 0 (put_number 0 d)) (put_list words)
    (keeps_both (put_number 0) (put_number 0) (keeps_number 0) (keeps_number 0)) (keeps_list words)

-- ## Levels

keeps_failure_head : (reset : ℕ) (command : Option (List ℕ)) (actions : Option (List Action))
    → Keeps (put_failure_head reset command actions)
unfolding put_failure_head
keeps_failure_head reset command actions =
    keeps_both _ _ (keeps_both _ _ (keeps_both _ _ (keeps_both _ _ (keeps_number reset) (keeps_pointer false))
    (keeps_pointer (is_some command))) (keeps_number (count_of actions))) (keeps_pointer (is_some actions))

keeps_action : (action : Action) → Keeps (put_action action)
unfolding put_action
keeps_action action = keeps_both _ _ (keeps_number action.what) (keeps_number action.delay)

keeps_actions : (actions : List Action) → Keeps (put_actions actions)
unfolding put_actions
keeps_actions actions = keeps_both _ _ (keeps_number (length actions)) (keeps_all put_action actions (each put_action keeps_action actions))

texts_if : (text : Option (List ℕ)) → Keeps (put_if put_text text)
texts_if None = keeps_nothing
texts_if (Some text) = keeps_text text

actions_if : (actions : Option (List Action)) → Keeps (put_if put_actions actions)
actions_if None = keeps_nothing
actions_if (Some actions) = keeps_actions actions

keeps_failure : (reset : ℕ) (command : Option (List ℕ)) (actions : Option (List Action)) → Keeps (put_failure reset command actions)
unfolding put_failure
keeps_failure reset command actions =
    keeps_both _ _ (keeps_both _ _ (keeps_failure_head reset command actions) (texts_if command)) (actions_if actions)

keeps_trigger_head : (trigger : TriggerIn) → Keeps (put_trigger_head trigger)
unfolding put_trigger_head
keeps_trigger_head trigger =
    keeps_both _ _ (keeps_both _ _ (keeps_both _ _ (keeps_both _ _ (keeps_number trigger.kind) (keeps_number trigger.action))
    (keeps_pointer (is_some trigger.subtype))) (keeps_number trigger.items)) (keeps_number 0)

-- the subtype of a trigger is bytes
abbrev pub HasBytes : TriggerIn → Type 0
HasBytes trigger = IfSome trigger.subtype AreBytes

subtype_if : (subtype : Option (List ℕ)) → IfSome subtype AreBytes → Keeps (put_if put_uuid subtype)
subtype_if None all = keeps_nothing
subtype_if (Some subtype) all = keeps_uuid subtype all

keeps_subtype : (trigger : TriggerIn) → HasBytes trigger → Keeps (put_subtype trigger)
unfolding put_subtype
keeps_subtype trigger all = subtype_if trigger.subtype all

subtypes : (triggers : List TriggerIn) → AllByRecursion HasBytes triggers → AllByRecursion (λ trigger. Keeps (put_subtype trigger)) triggers
subtypes [] all = tt
subtypes (trigger ∷ triggers) all = (keeps_subtype trigger all.0, subtypes triggers all.1)

keeps_listed : (triggers : List TriggerIn) → AllByRecursion HasBytes triggers → Keeps (put_trigger_list triggers)
unfolding put_trigger_list
keeps_listed triggers all =
    keeps_both _ _ (keeps_both _ _ (keeps_number (length triggers))
    (keeps_all put_trigger_head triggers (each put_trigger_head keeps_trigger_head triggers)))
    (keeps_all put_subtype triggers (subtypes triggers all))

keeps_listing : (count : ℕ) (listed : Bool) → Keeps (put_listing count listed)
unfolding put_listing
keeps_listing count listed = keeps_both _ _ (keeps_both _ _ (keeps_number count) (keeps_pointer listed)) (keeps_number 0)

keeps_triggers : (triggers : List TriggerIn) → AllByRecursion HasBytes triggers → Keeps (put_triggers triggers)
unfolding put_triggers
keeps_triggers triggers all =
    keeps_by (eqb (length triggers) 0) (put_listing 0 false) (λ (d : Draft). put_trigger_list triggers
    (put_listing (length triggers) true d)) (keeps_listing 0 false)
    (keeps_both _ _ (keeps_listing (length triggers) true) (keeps_listed triggers all))

-- the subtypes of what is asked at a level are bytes
abbrev pub InfoHasBytes : Info → Type 0
InfoHasBytes (info.Triggers triggers) = AllByRecursion HasBytes triggers
InfoHasBytes _ = Unit {0}

keeps_referent_of : (asked : Info) → InfoHasBytes asked → Keeps (put_referent_of asked)
unfolding put_referent_of
keeps_referent_of (info.Description text) all = keeps_some_text text
keeps_referent_of (info.Failure reset command actions) all = keeps_failure reset command actions
keeps_referent_of (info.Delayed on) all = keeps_flag on
keeps_referent_of (info.OnExit on) all = keeps_flag on
keeps_referent_of (info.Triggers list) all = keeps_triggers list all
keeps_referent_of (info.Other level) all = keeps_nothing
keeps_referent_of (info.Nothing level) all = keeps_nothing

pointed : (asked : Info) → InfoHasBytes asked → Keeps (λ d. put_referent_of asked (put_pointer true d))
pointed asked all = keeps_both (put_pointer true) (put_referent_of asked) (keeps_pointer true) (keeps_referent_of asked all)

keeps_level : (asked : Info) → InfoHasBytes asked → Keeps (put_level asked)
unfolding put_level
keeps_level (info.Other level) all = keeps_nothing
keeps_level (info.Nothing level) all = keeps_pointer false
keeps_level (info.Description text) all = pointed (info.Description text) all
keeps_level (info.Failure reset command actions) all = pointed (info.Failure reset command actions) all
keeps_level (info.Delayed on) all = pointed (info.Delayed on) all
keeps_level (info.OnExit on) all = pointed (info.OnExit on) all
keeps_level (info.Triggers list) all = pointed (info.Triggers list) all

keeps_info : (asked : Info) → InfoHasBytes asked → Keeps (put_info asked)
unfolding put_info
keeps_info asked all =
    keeps_both _ _ (keeps_both _ _ (keeps_number (level_of asked)) (keeps_number (level_of asked))) (keeps_level asked all)

-- ## Values

-- the lists of bytes in a value are bytes
abbrev pub HoldsBytes : Value → Type 0
HoldsBytes (value.SomeBytes held) = IfSome held AreBytes
HoldsBytes (value.SizedArray held) = AreBytes held
HoldsBytes (value.Bytes size held) = AreBytes held
HoldsBytes (value.Info asked) = InfoHasBytes asked
HoldsBytes _ = Unit {0}

keeps_value : (v : Value) → HoldsBytes v → Keeps (put_value v)
unfolding put_value
keeps_value (value.Handle handle) all = keeps_handle handle
keeps_value (value.Number number) all = keeps_number number
keeps_value (value.Text text) all = keeps_text text
keeps_value (value.SomeText text) all = keeps_some_text text
keeps_value value.UnkeptText all = keeps_some_text None
keeps_value (value.SomeNumber number) all = keeps_some_number number
keeps_value (value.SomeBytes held) all = keeps_sized held all
keeps_value value.UnkeptBytes all = keeps_sized None tt
keeps_value (value.SizedArray held) all = keeps_sized_array held all
keeps_value (value.Bytes size held) all = keeps_bytes (take size held) size (taken_bytes size held all)
keeps_value (value.Words words) all = keeps_words words
keeps_value (value.Lock held owner seconds) all = keeps_record (lock_marks held owner seconds) (lock_texts owner)
keeps_value (value.Shown shown) all = keeps_record (shown_marks shown) (shown_texts shown)
keeps_value (value.Info asked) all = keeps_info asked all

keeps_values : (vs : List Value) → AllByRecursion HoldsBytes vs → Keeps (put_values vs)
unfolding put_values
keeps_values [] all = keeps_nothing
keeps_values (v ∷ vs) all = keeps_both (put_value v) (put_values vs) (keeps_value v all.0) (keeps_values vs all.1)

pub body_fits : (vs : List Value) → AllByRecursion HoldsBytes vs → AreBytes (body_bytes vs)
unfolding body_bytes
body_fits vs all = (keeps_values vs all).keeps blank tt
