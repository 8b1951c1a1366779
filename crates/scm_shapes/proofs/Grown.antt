-- Drafts with what is asked at a level only grow, by as many bytes wherever it begins.
use Rattle.std.proofs.Common.{◌≡◌, ◌≤◌, ◌+◌, ◌*◌, ◌<◌, ℕ, Bool, true, false, cond, eqb, List, [], ◌∷◌, length, get_or, drop, Option, Some}
use Rattle.std.proofs.Common.{None, refl, ap, arith, add-one, drop-cons}
use Rattle.std.proofs.lemmas.List.{drop_all}
use Rattle.std.specs.Prelude.{is_some}
use Rattle.scm_model.specs.declared.flat.Action.{Action}
use Rattle.scm_model.specs.declared.calls.Info.{Info}
use Rattle.scm_model.specs.declared.calls.Info.TheVariants as info
use Rattle.scm_model.specs.declared.calls.TriggerIn.{TriggerIn}
use Rattle.ndr_body.specs.Reading.{aligned}
use Rattle.ndr_body.specs.Writing.{Draft, blank, put_number, put_text, put_some_text, put_uuid, put_referent}
use Rattle.ndr_body.proofs.Lengths.{length_with_item, length_put_number, length_put_text, length_put_referent, length_no_text}
use Rattle.ndr_body.proofs.Lengths.{length_some_text}
use Rattle.scm_shapes.specs.Parts.{put_pointer, put_flag, put_if, put_all}
use Rattle.scm_shapes.specs.Levels.{count_of, level_of, put_failure_head, put_action, put_actions, put_failure, put_trigger_head}
use Rattle.scm_shapes.specs.Levels.{put_subtype, put_trigger_list, put_listing, put_triggers, put_referent_of, put_level, put_info}

-- ## So many bytes, after a place that 4 divides

-- where a part ends, so far after a place that 4 divides
pub record Ends (put : Draft → Draft) : Type 0 where
  pub end : ℕ → ℕ
  pub grows : (k : ℕ) → k ≤ end k
  pub ends : (d : Draft) (base k : ℕ) → length d.bytes ≡ aligned base + k → length (put d).bytes ≡ aligned base + end k

ends_item : (put : Draft → Draft) (width : ℕ) → ((d : Draft) → length (put d).bytes ≡ aligned (length d.bytes) + width) → Ends put
ends_item put width law = record { end = λ k. aligned k + width; grows = λ k. omega arith; ends = λ d base k e. omega (arith, law d, e) }

ends_both : (p q : Draft → Draft) → Ends p → Ends q → Ends (λ d. q (p d))
ends_both p q first second = record {
  end = λ k. second.end (first.end k);
  grows = λ k. omega (arith, first.grows k, second.grows (first.end k));
  ends = λ d base k e. second.ends (p d) base (first.end k) (first.ends d base k e);
}

ends_nothing : Ends (λ d. d)
ends_nothing = record { end = λ k. k; grows = λ k. omega arith; ends = λ d base k e. e }

ends_number : (n : ℕ) → Ends (put_number n)
ends_number n = ends_item (put_number n) 4 (length_put_number n)

ends_text : (text : List ℕ) → Ends (put_text text)
ends_text text = ends_item (put_text text) (14 + 2 * length text) (length_put_text text)

ends_some_text : (text : Option (List ℕ)) → Ends (put_some_text text)
ends_some_text None = ends_item (put_some_text None) 4 length_no_text
ends_some_text (Some text) = ends_item (put_some_text (Some text)) (4 + (14 + 2 * length text)) (length_some_text text)

ends_uuid : (uuid : List ℕ) → Ends (put_uuid uuid)
unfolding put_uuid
ends_uuid uuid = ends_item (put_uuid uuid) (length uuid) (length_with_item uuid)

ends_pointer : (points : Bool) → Ends (put_pointer points)
unfolding put_pointer
ends_pointer true = ends_item put_referent 4 length_put_referent
ends_pointer false = ends_number 0

ends_flag : (on : Bool) → Ends (put_flag on)
unfolding put_flag
ends_flag true = ends_number 1
ends_flag false = ends_number 0

ends_if : {A : Type 0} (put : A → Draft → Draft) (o : Option A) → ((v : A) → Ends (put v)) → Ends (put_if put o)
ends_if put None laws = ends_nothing
ends_if put (Some v) laws = laws v

ends_all : {A : Type 0} (put : A → Draft → Draft) (vs : List A) → ((v : A) → Ends (put v)) → Ends (put_all put vs)
unfolding put_all
ends_all put [] laws = ends_nothing
ends_all put (v ∷ vs) laws = ends_both (put v) (put_all put vs) (laws v) (ends_all put vs laws)

ends_failure_head : (reset : ℕ) (command : Option (List ℕ)) (actions : Option (List Action)) → Ends (put_failure_head reset command actions)
unfolding put_failure_head
ends_failure_head reset command actions =
    ends_both _ _ (ends_both _ _ (ends_both _ _ (ends_both _ _ (ends_number reset) (ends_pointer false)) (ends_pointer (is_some command)))
    (ends_number (count_of actions))) (ends_pointer (is_some actions))

pub ends_action : (action : Action) → Ends (put_action action)
unfolding put_action
ends_action action = ends_both _ _ (ends_number action.what) (ends_number action.delay)

ends_actions : (actions : List Action) → Ends (put_actions actions)
unfolding put_actions
ends_actions actions = ends_both _ _ (ends_number (length actions)) (ends_all put_action actions ends_action)

ends_failure : (reset : ℕ) (command : Option (List ℕ)) (actions : Option (List Action)) → Ends (put_failure reset command actions)
unfolding put_failure
ends_failure reset command actions = ends_both _ _ (ends_both _ _ (ends_failure_head reset command actions)
    (ends_if put_text command ends_text)) (ends_if put_actions actions ends_actions)

pub ends_trigger_head : (trigger : TriggerIn) → Ends (put_trigger_head trigger)
unfolding put_trigger_head
ends_trigger_head trigger =
    ends_both _ _ (ends_both _ _ (ends_both _ _ (ends_both _ _ (ends_number trigger.kind) (ends_number trigger.action))
    (ends_pointer (is_some trigger.subtype))) (ends_number trigger.items)) (ends_number 0)

pub ends_subtype : (trigger : TriggerIn) → Ends (put_subtype trigger)
unfolding put_subtype
ends_subtype trigger = ends_if put_uuid trigger.subtype ends_uuid

ends_listed : (triggers : List TriggerIn) → Ends (put_trigger_list triggers)
unfolding put_trigger_list
ends_listed triggers = ends_both _ _ (ends_both _ _ (ends_number (length triggers)) (ends_all put_trigger_head triggers ends_trigger_head))
    (ends_all put_subtype triggers ends_subtype)

ends_listing : (count : ℕ) (listed : Bool) → Ends (put_listing count listed)
unfolding put_listing
ends_listing count listed = ends_both _ _ (ends_both _ _ (ends_number count) (ends_pointer listed)) (ends_number 0)

triggers_by : (b : Bool) (p q : Draft → Draft) → Ends p → Ends q → Ends (λ d. cond b (p d) (q d))
triggers_by true p q first second = first
triggers_by false p q first second = second

ends_triggers : (triggers : List TriggerIn) → Ends (put_triggers triggers)
unfolding put_triggers
ends_triggers triggers =
    triggers_by (eqb (length triggers) 0) (put_listing 0 false) (λ (d : Draft). put_trigger_list triggers
    (put_listing (length triggers) true d)) (ends_listing 0 false)
    (ends_both _ _ (ends_listing (length triggers) true) (ends_listed triggers))

ends_referent : (asked : Info) → Ends (put_referent_of asked)
unfolding put_referent_of
ends_referent (info.Description text) = ends_some_text text
ends_referent (info.Failure reset command actions) = ends_failure reset command actions
ends_referent (info.Delayed on) = ends_flag on
ends_referent (info.OnExit on) = ends_flag on
ends_referent (info.Triggers list) = ends_triggers list
ends_referent (info.Other level) = ends_nothing
ends_referent (info.Nothing level) = ends_nothing

ends_level : (asked : Info) → Ends (put_level asked)
unfolding put_level
ends_level (info.Other level) = ends_nothing
ends_level (info.Nothing level) = ends_pointer false
ends_level (info.Description text) = ends_both _ _ (ends_pointer true) (ends_referent (info.Description text))
ends_level (info.Failure reset command actions) = ends_both _ _ (ends_pointer true) (ends_referent (info.Failure reset command actions))
ends_level (info.Delayed on) = ends_both _ _ (ends_pointer true) (ends_referent (info.Delayed on))
ends_level (info.OnExit on) = ends_both _ _ (ends_pointer true) (ends_referent (info.OnExit on))
ends_level (info.Triggers list) = ends_both _ _ (ends_pointer true) (ends_referent (info.Triggers list))

-- what is asked has its own bytes after the padding
pub length_info : (asked : Info) (d : Draft) → length (put_info asked d).bytes ≡ aligned (length d.bytes)
    + length (put_info asked blank).bytes
unfolding put_info
length_info asked d =
    let n = level_of asked in
    let rest = ends_both _ _ (ends_number n) (ends_level asked) in
    omega (
      arith,
      rest.ends (put_number n d) (length d.bytes) 4 (length_put_number n d),
      rest.ends (put_number n blank) 0 4 (length_put_number n blank),
    )

-- ## Drafts only grow

grown_by : (put : Draft → Draft) → Ends put → (d : Draft) → length d.bytes ≤ length (put d).bytes
grown_by put ends d = omega (arith, ends.ends d 0 (length d.bytes) (omega arith), ends.grows (length d.bytes))

pub grown_number : (n : ℕ) (d : Draft) → length d.bytes ≤ length (put_number n d).bytes
grown_number n d = grown_by (put_number n) (ends_number n) d

pub grown_pointer : (points : Bool) (d : Draft) → length d.bytes ≤ length (put_pointer points d).bytes
grown_pointer points d = grown_by (put_pointer points) (ends_pointer points) d

pub grown_text_if : (text : Option (List ℕ)) (d : Draft) → length d.bytes ≤ length (put_if put_text text d).bytes
grown_text_if text d = grown_by (put_if put_text text) (ends_if put_text text ends_text) d

pub grown_actions : (actions : List Action) (d : Draft) → length d.bytes ≤ length (put_all put_action actions d).bytes
grown_actions actions d = grown_by (put_all put_action actions) (ends_all put_action actions ends_action) d

pub grown_actions_if : (actions : Option (List Action)) (d : Draft) → length d.bytes ≤ length (put_if put_actions actions d).bytes
grown_actions_if actions d = grown_by (put_if put_actions actions) (ends_if put_actions actions ends_actions) d

pub grown_heads : (triggers : List TriggerIn) (d : Draft) → length d.bytes ≤ length (put_all put_trigger_head triggers d).bytes
grown_heads triggers d = grown_by (put_all put_trigger_head triggers) (ends_all put_trigger_head triggers ends_trigger_head) d

pub grown_subtypes : (triggers : List TriggerIn) (d : Draft) → length d.bytes ≤ length (put_all put_subtype triggers d).bytes
grown_subtypes triggers d = grown_by (put_all put_subtype triggers) (ends_all put_subtype triggers ends_subtype) d

pub grown_listed : (triggers : List TriggerIn) (d : Draft) → length d.bytes ≤ length (put_trigger_list triggers d).bytes
grown_listed triggers d = grown_by (put_trigger_list triggers) (ends_listed triggers) d

pub grown_referent : (asked : Info) (d : Draft) → length d.bytes ≤ length (put_referent_of asked d).bytes
grown_referent asked d = grown_by (put_referent_of asked) (ends_referent asked) d

pub grown_level : (asked : Info) (d : Draft) → length d.bytes ≤ length (put_level asked d).bytes
grown_level asked d = grown_by (put_level asked) (ends_level asked) d

pub ruleset all = (
  grown_number,
  grown_pointer,
  grown_text_if,
  grown_actions,
  grown_actions_if,
  grown_heads,
  grown_subtypes,
  grown_listed,
  grown_referent,
  grown_level,
)

-- ## Some one after the other, as a loop puts them

pub all_more : {A : Type 0} (put : A → Draft → Draft) (xs : List A) (i : ℕ) (x : A) (d : Draft) → i < length xs
    → put_all put (drop i xs) d ≡ put_all put (drop (i + 1) xs) (put (get_or xs i x) d)
unfolding put_all
all_more put xs i x d lt = rw (add-one, drop-cons xs i x lt) refl

pub all_done : {A : Type 0} (put : A → Draft → Draft) (xs : List A) (i : ℕ) (d : Draft) → length xs ≤ i → put_all put (drop i xs) d ≡ d
unfolding put_all
all_done put xs i d le = rw (drop_all i xs le) refl

-- where all that is left has room, the next one has
pub each_fits : {A : Type 0} (put : A → Draft → Draft) (laws : (v : A) → Ends (put v)) (xs : List A) (i : ℕ) (x : A) (d : Draft) (space : ℕ)
    (P : Type 0)
    → i < length xs → (length (put (get_or xs i x) d).bytes ≤ space → P) → length (put_all put (drop i xs) d).bytes ≤ space → P
each_fits put laws xs i x d space P lt enough le =
    let grown = grown_by (put_all put (drop (i + 1) xs)) (ends_all put (drop (i + 1) xs) laws) (put (get_or xs i x) d) in
    let more = ap (λ (e : Draft). length e.bytes) (all_more put xs i x d lt) in
    enough (omega (arith, le, more, grown))
