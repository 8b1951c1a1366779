-- Configurations that are equal by the test are equal.
use Rattle.std.proofs.Common.{ℕ, ◌≡◌, ◌==◌, ◌&&◌, Bool, true, false, List, [], ◌∷◌, refl, sym, ap, eqb-true}
use Rattle.std.specs.Cmp.Lexicographic.{pointwise, same_text}
use Rattle.std.proofs.lemmas.Bool.{and_parts}
use Rattle.scm_model.specs.declared.flat.Action.{Action}
use Rattle.scm_model.specs.declared.flat.Config.{Config}
use Rattle.scm_model.specs.declared.flat.Need.{Need}
use Rattle.scm_model.specs.declared.flat.Need.TheVariants as needs
use Rattle.scm_model.specs.declared.flat.Trigger.{Trigger}
use Rattle.scm_rules.specs.Change.{config_alike, end_alike, front_alike, is_action, is_flag, is_need, is_text, is_trigger, middle_alike}

text_is : (a b : List ℕ) → is_text a b ≡ true → a ≡ b
text_is a b e = same_text a b (sym e)

flag_is : (a b : Bool) → is_flag a b ≡ true → a ≡ b
flag_is true true e = refl
flag_is true false e = absurd cc
flag_is false true e = absurd cc
flag_is false false e = refl

need_is : (a b : Need) → is_need a b ≡ true → a ≡ b
need_is (needs.Service a) (needs.Service b) e = ap needs.Service (text_is a b e)
need_is (needs.Group a) (needs.Group b) e = ap needs.Group (text_is a b e)
need_is (needs.Service a) (needs.Group b) e = absurd cc
need_is (needs.Group a) (needs.Service b) e = absurd cc

-- lists of equal items are equal
list_is : {A : Type 0} (E : A → A → Bool) → ((a b : A) → E a b ≡ true → a ≡ b) → (xs ys : List A) → pointwise E xs ys ≡ true → xs ≡ ys
list_is E one [] [] e = refl
list_is E one [] (y ∷ ys) e = absurd cc
list_is E one (x ∷ xs) [] e = absurd cc
list_is E one (x ∷ xs) (y ∷ ys) e =
    let p = and_parts (E x y) (pointwise E xs ys) e in
    let first = one x y p.0 in
    let rest = list_is E one xs ys p.1 in cc

-- ## Actions and triggers

-- an action whose fields are equal to those of another is that one
rebuilt_action : (a b : Action) → a.what ≡ b.what → a.delay ≡ b.delay → a ≡ record { what = b.what; delay = b.delay }
rebuilt_action a b what delay = rw (sym what, sym delay) refl

action_is : (a b : Action) → is_action a b ≡ true → a ≡ b
action_is a b e =
    let p = and_parts (a.what == b.what) (a.delay == b.delay) e in
    rebuilt_action a b (eqb-true a.what b.what p.0) (eqb-true a.delay b.delay p.1)

-- the same of a trigger
rebuilt_trigger : (a b : Trigger) → a.action ≡ b.action → a.subtype ≡ b.subtype → a ≡ record { action = b.action; subtype = b.subtype }
rebuilt_trigger a b action subtype = rw (sym action, sym subtype) refl

trigger_is : (a b : Trigger) → is_trigger a b ≡ true → a ≡ b
trigger_is a b e =
    let p = and_parts (a.action == b.action) (is_text a.subtype b.subtype) e in
    rebuilt_trigger a b (eqb-true a.action b.action p.0) (text_is a.subtype b.subtype p.1)

-- ## Configurations

-- a configuration whose fields are equal to those of another is that one
rebuilt : (a b : Config)
    → a.name ≡ b.name
    → a.display ≡ b.display
    → a.kind ≡ b.kind
    → a.start ≡ b.start
    → a.error ≡ b.error
    → a.path ≡ b.path
    → a.group ≡ b.group
    → a.tag ≡ b.tag
    → a.needs ≡ b.needs
    → a.description ≡ b.description
    → a.reset ≡ b.reset
    → a.actions ≡ b.actions
    → a.command ≡ b.command
    → a.on_exit ≡ b.on_exit
    → a.delayed ≡ b.delayed
    → a.triggers ≡ b.triggers
    → a ≡ record {
      name = b.name;
      display = b.display;
      kind = b.kind;
      start = b.start;
      error = b.error;
      path = b.path;
      group = b.group;
      tag = b.tag;
      needs = b.needs;
      description = b.description;
      reset = b.reset;
      actions = b.actions;
      command = b.command;
      on_exit = b.on_exit;
      delayed = b.delayed;
      triggers = b.triggers;
    }
rebuilt a b name display kind start error path group tag needed description reset actions command on_exit delayed triggers =
    rw (
      sym name,
      sym display,
      sym kind,
      sym start,
      sym error,
      sym path,
      sym group,
      sym tag,
      sym needed,
      sym description,
      sym reset,
      sym actions,
      sym command,
      sym on_exit,
      sym delayed,
      sym triggers,
    ) refl

pub alike_same : (a b : Config) → config_alike a b ≡ true → a ≡ b
alike_same a b e =
    let parts = and_parts (front_alike a b && middle_alike a b) (end_alike a b) e in
    let both = and_parts (front_alike a b) (middle_alike a b) parts.0 in
    let f5 = and_parts
    (is_text a.name b.name && is_text a.display b.display && a.kind == b.kind && a.start == b.start && a.error == b.error)
    (is_text a.path b.path) both.0 in
    let f4 = and_parts (is_text a.name b.name && is_text a.display b.display && a.kind == b.kind && a.start == b.start) (a.error == b.error)
    f5.0 in
    let f3 = and_parts (is_text a.name b.name && is_text a.display b.display && a.kind == b.kind) (a.start == b.start) f4.0 in
    let f2 = and_parts (is_text a.name b.name && is_text a.display b.display) (a.kind == b.kind) f3.0 in
    let f1 = and_parts (is_text a.name b.name) (is_text a.display b.display) f2.0 in
    let m3 = and_parts (is_text a.group b.group && a.tag == b.tag && pointwise is_need a.needs b.needs)
    (is_text a.description b.description) both.1 in
    let m2 = and_parts (is_text a.group b.group && a.tag == b.tag) (pointwise is_need a.needs b.needs) m3.0 in
    let m1 = and_parts (is_text a.group b.group) (a.tag == b.tag) m2.0 in
    let e5 = and_parts (a.reset == b.reset && pointwise is_action a.actions b.actions && is_text a.command b.command
    && is_flag a.on_exit b.on_exit && is_flag a.delayed b.delayed) (pointwise is_trigger a.triggers b.triggers) parts.1 in
    let e4 = and_parts (a.reset == b.reset && pointwise is_action a.actions b.actions && is_text a.command b.command
    && is_flag a.on_exit b.on_exit) (is_flag a.delayed b.delayed) e5.0 in
    let e3 = and_parts (a.reset == b.reset && pointwise is_action a.actions b.actions && is_text a.command b.command)
    (is_flag a.on_exit b.on_exit) e4.0 in
    let e2 = and_parts (a.reset == b.reset && pointwise is_action a.actions b.actions) (is_text a.command b.command) e3.0 in
    let e1 = and_parts (a.reset == b.reset) (pointwise is_action a.actions b.actions) e2.0 in
    let name = text_is a.name b.name f1.0 in
    let display = text_is a.display b.display f1.1 in
    let kind = eqb-true a.kind b.kind f2.1 in
    let start = eqb-true a.start b.start f3.1 in
    let error = eqb-true a.error b.error f4.1 in
    let path = text_is a.path b.path f5.1 in
    let group = text_is a.group b.group m1.0 in
    let tag = eqb-true a.tag b.tag m1.1 in
    let needed = list_is is_need need_is a.needs b.needs m2.1 in
    let description = text_is a.description b.description m3.1 in
    let reset = eqb-true a.reset b.reset e1.0 in
    let actions = list_is is_action action_is a.actions b.actions e1.1 in
    let command = text_is a.command b.command e2.1 in
    let on_exit = flag_is a.on_exit b.on_exit e3.1 in
    let delayed = flag_is a.delayed b.delayed e4.1 in
    let triggers = list_is is_trigger trigger_is a.triggers b.triggers e5.1 in
    rebuilt a b name display kind start error path group tag needed description reset actions command on_exit delayed triggers
