-- The two laws: what is read is spelled so, and what is spelled so is read.
use Rattle.std.proofs.Common.{◌≡◌, ℕ, zero, suc, Bool, true, false, cond, ◌==◌, List, [], ◌∷◌, ◌++◌, length, Result, Ok, Err, refl, sym, ap}
use Rattle.std.proofs.Common.{subst, ◌∙◌, append_assoc, arith}
use Rattle.std.specs.Prelude.{IfOk}
use Rattle.std.specs.List.{flat_map, AllByRecursion}
use Rattle.std.proofs.lemmas.Bool.{eqb-true}
use Rattle.std.proofs.lemmas.List.{append-nil, nil_from_length}
use Rattle.std.proofs.lemmas.List.Concat.{flat_map-cons}
use Rattle.std.proofs.lemmas.List.Elements.{All-from_recursion, recursion_from_All}
use Rattle.scm_model.specs.declared.flat.Action.{Action}
use Rattle.scm_model.specs.declared.flat.Config.{Config}
use Rattle.scm_model.specs.declared.flat.Need.{Need}
use Rattle.scm_model.specs.declared.flat.Need.TheVariants as needs
use Rattle.scm_model.specs.declared.flat.Trigger.{Trigger}
use Rattle.service_record.specs.declared.reading.Front.{Front}
use Rattle.service_record.specs.declared.reading.Middle.{Middle}
use Rattle.service_record.specs.declared.reading.Back.{Back}
use Rattle.service_record.specs.declared.reading.End.{End}
use Rattle.service_record.specs.declared.reading.RecordFault.{RecordFault}
use Rattle.service_record.specs.Spelling.{number, flag, text, need_bytes, action, trigger_bytes, counted_items, front, middle, back, end}
use Rattle.service_record.specs.Spelling.{encoding, encoding_1, held, FitsNumber, FitsText, IsNeed, IsAction, IsTrigger, AreItems, IsConfig}
use Rattle.service_record.specs.Spelling.{IsConfig_1}
use Rattle.service_record.specs.Reading.{◌>>=◌, Item, Tells, take_number, need_of, take_need, take_action, take_subtype, take_trigger}
use Rattle.service_record.specs.Reading.{take_items, take_counted, take_front, take_middle, take_back, take_end, config_from, with_end}
use Rattle.service_record.specs.Reading.{take_config, take_config_1, all_of, whole_of, whole_of_1, placed, record_of, record_of_1}
use Rattle.service_record.proofs.Fields.{IsBytes, bind_ok, Takes, Takes-then, IsField, step, ok_is, a_number, a_flag, a_subtype}
use Rattle.service_record.proofs.Texts.{a_text}

-- ## Needs, actions and triggers

need_made : (bytes : List ℕ) (group : Bool) (name rest : List ℕ) → Takes bytes (flag group ++ text name) rest → FitsText name
    → Takes bytes (need_bytes (need_of group name)) rest × IsNeed (need_of group name)
need_made bytes true name rest taken fits = (taken, fits)
need_made bytes false name rest taken fits = (taken, fits)

need_takes : (bytes : List ℕ) (x : Need × List ℕ) → IsBytes bytes → take_need bytes ≡ Ok x → Takes bytes (need_bytes x.0) x.1 × IsNeed x.0
unfolding take_need
need_takes bytes x fits e =
    step a_flag _ bytes x fits e (λ group r1 t1 _ e1.
    step a_text _ r1 x t1.rest_fits e1 (λ name r2 t2 f2 e2.
    subst (λ (y : Need × List ℕ). Takes bytes (need_bytes y.0) y.1 × IsNeed y.0) (ok_is (need_of group name, r2) x e2)
    (need_made bytes group name r2 (Takes-then bytes (flag group) r1 (text name) r2 t1 t2) f2)))

need_again : (n : Need) (rest : List ℕ) → IsNeed n → take_need (need_bytes n ++ rest) ≡ Ok (n, rest)
unfolding take_need
need_again (needs.Service name) rest fits = rw (a_flag.again false (text name ++ rest) tt, a_text.again name rest fits) refl
need_again (needs.Group name) rest fits = rw (a_flag.again true (text name ++ rest) tt, a_text.again name rest fits) refl

a_need : IsField Need take_need need_bytes IsNeed
a_need = record { takes = need_takes; again = need_again }

action_takes : (bytes : List ℕ) (x : Action × List ℕ) → IsBytes bytes → take_action bytes ≡ Ok x → Takes bytes (action x.0) x.1
    × IsAction x.0
unfolding take_action
action_takes bytes x fits e =
    step a_number _ bytes x fits e (λ what r1 t1 f1 e1.
    step a_number _ r1 x t1.rest_fits e1 (λ delay r2 t2 f2 e2.
    let made : Action × List ℕ = (record { what = what; delay = delay }, r2) in
    subst (λ (y : Action × List ℕ). Takes bytes (action y.0) y.1 × IsAction y.0) (ok_is made x e2)
    (Takes-then bytes (number what) r1 (number delay) r2 t1 t2, (f1, f2))))

action_again : (a : Action) (rest : List ℕ) → IsAction a → take_action (action a ++ rest) ≡ Ok (a, rest)
unfolding take_action
action_again a rest fits =
    ap (λ (r : Item ℕ). r >>= λ what. take_number what.1 >>= λ delay. Ok (record { what = what.0; delay = delay.0 }, delay.1))
    (a_number.again a.what (number a.delay ++ rest) fits.0)
    ∙ ap (λ (r : Item ℕ). r >>= λ delay. Ok (record { what = a.what; delay = delay.0 }, delay.1)) (a_number.again a.delay rest fits.1)

an_action : IsField Action take_action action IsAction
an_action = record { takes = action_takes; again = action_again }

trigger_takes : (bytes : List ℕ) (x : Trigger × List ℕ) → IsBytes bytes → take_trigger bytes ≡ Ok x → Takes bytes (trigger_bytes x.0) x.1
    × IsTrigger x.0
unfolding take_trigger
trigger_takes bytes x fits e =
    step a_number _ bytes x fits e (λ action r1 t1 f1 e1.
    step a_subtype _ r1 x t1.rest_fits e1 (λ subtype r2 t2 f2 e2.
    let made : Trigger × List ℕ = (record { action = action; subtype = subtype }, r2) in
    subst (λ (y : Trigger × List ℕ). Takes bytes (trigger_bytes y.0) y.1 × IsTrigger y.0) (ok_is made x e2)
    (Takes-then bytes (number action) r1 subtype r2 t1 t2, (f1, f2))))

trigger_again : (t : Trigger) (rest : List ℕ) → IsTrigger t → take_trigger (trigger_bytes t ++ rest) ≡ Ok (t, rest)
unfolding take_trigger
trigger_again t rest fits =
    ap (λ (r : Item ℕ). r >>= λ action. take_subtype action.1 >>= λ subtype. Ok
    (record { action = action.0; subtype = subtype.0 }, subtype.1))
    (a_number.again t.action (t.subtype ++ rest) fits.0)
    ∙ ap (λ (r : Item (List ℕ)). r >>= λ subtype. Ok (record { action = t.action; subtype = subtype.0 }, subtype.1))
    (a_subtype.again t.subtype rest fits.1)

a_trigger : IsField Trigger take_trigger trigger_bytes IsTrigger
a_trigger = record { takes = trigger_takes; again = trigger_again }

-- ## Lists

items_take : {A : Type 0} {read : List ℕ → Item A} {spell : A → List ℕ} {Fits : A → Type 0} (field : IsField A read spell Fits) (n : ℕ)
    (bytes : List ℕ) (x : List A × List ℕ)
    → IsBytes bytes → take_items read n bytes ≡ Ok x → Takes bytes (flat_map spell x.0) x.1 × (length x.0 ≡ n) × AllByRecursion Fits x.0
unfolding take_items
items_take {A} {read} {spell} {Fits} field zero bytes x fits e =
    subst (λ (y : List A × List ℕ). Takes bytes (flat_map spell y.0) y.1 × (length y.0 ≡ 0) × AllByRecursion Fits y.0)
    (ok_is ([], bytes) x e) (record { parts = refl; rest_fits = fits }, refl, tt)
items_take {A} {read} {spell} {Fits} field (suc n) bytes x fits e =
    step field _ bytes x fits e (λ a r1 t1 f1 e1.
    let b = bind_ok (take_items read n r1) (λ others. Ok (a ∷ others.0, others.1)) x e1 in
    let second = items_take field n r1 b.0 t1.rest_fits b.1 in
    let both = Takes-then bytes (spell a) r1 (flat_map spell b.0.0) b.0.1 t1 second.0 in
    let made : List A × List ℕ = (a ∷ b.0.0, b.0.1) in
    subst (λ (y : List A × List ℕ). Takes bytes (flat_map spell y.0) y.1 × (length y.0 ≡ suc n) × AllByRecursion Fits y.0)
    (ok_is made x b.2) (rw flat_map-cons both, ap suc second.1, (f1, second.2)))

items_again : {A : Type 0} {read : List ℕ → Item A} {spell : A → List ℕ} {Fits : A → Type 0} (field : IsField A read spell Fits)
    (xs : List A) (rest : List ℕ)
    → AllByRecursion Fits xs → take_items read (length xs) (flat_map spell xs ++ rest) ≡ Ok (xs, rest)
unfolding take_items
items_again field [] rest fits = refl
items_again {A} {read} {spell} {Fits} field (x ∷ xs) rest fits =
    let regrouped : flat_map spell (x ∷ xs) ++ rest ≡ spell x ++ (flat_map spell xs ++ rest) =
    ap (λ (t : List ℕ). t ++ rest) (flat_map-cons spell x xs) ∙ append_assoc (spell x) (flat_map spell xs) rest in
    ap (take_items read (suc (length xs))) regrouped ∙ rw (
      field.again x (flat_map spell xs ++ rest) fits.0,
      items_again field xs rest fits.1,
    ) refl

counted_takes : {A : Type 0} {read : List ℕ → Item A} {spell : A → List ℕ} {Fits : A → Type 0} (field : IsField A read spell Fits)
    (bytes : List ℕ) (x : List A × List ℕ)
    → IsBytes bytes → take_counted read bytes ≡ Ok x → Takes bytes (counted_items spell x.0) x.1 × AreItems Fits x.0
unfolding take_counted
counted_takes {A} {read} {spell} {Fits} field bytes x fits e =
    step a_number _ bytes x fits e (λ n r1 t1 f1 e1.
    let items = items_take field n r1 x t1.rest_fits e1 in
    let both = Takes-then bytes (number n) r1 (flat_map spell x.0) x.1 t1 items.0 in
    let whole : Takes bytes (counted_items spell x.0) x.1 = subst (λ (k : ℕ). Takes bytes (number k ++ flat_map spell x.0) x.1)
    (sym items.1) both in
    let small : FitsNumber (length x.0) = omega (arith, items.1, f1) in
    (whole, (small, All-from_recursion Fits x.0 items.2)))

counted_again : {A : Type 0} {read : List ℕ → Item A} {spell : A → List ℕ} {Fits : A → Type 0} (field : IsField A read spell Fits)
    (xs : List A) (rest : List ℕ)
    → AreItems Fits xs → take_counted read (counted_items spell xs ++ rest) ≡ Ok (xs, rest)
unfolding take_counted
counted_again {A} {read} {spell} {Fits} field xs rest fits =
    ap (λ (r : Item ℕ). r >>= λ n. take_items read n.0 n.1) (a_number.again (length xs) (flat_map spell xs ++ rest) fits.0)
    ∙ items_again field xs rest (recursion_from_All Fits xs fits.1)

pub are_items : {A : Type 0} {read : List ℕ → Item A} {spell : A → List ℕ} {Fits : A → Type 0} → IsField A read spell Fits
    → IsField (List A) (take_counted read) (counted_items spell) (AreItems Fits)
are_items field = record { takes = counted_takes field; again = counted_again field }

some_needs : IsField (List Need) (take_counted take_need) (counted_items need_bytes) (AreItems IsNeed)
some_needs = are_items a_need

some_actions : IsField (List Action) (take_counted take_action) (counted_items action) (AreItems IsAction)
some_actions = are_items an_action

some_triggers : IsField (List Trigger) (take_counted take_trigger) (counted_items trigger_bytes) (AreItems IsTrigger)
some_triggers = are_items a_trigger

-- ## The parts of a configuration

abbrev pub front_text : Front → List ℕ
front_text f = text f.name ++ text f.display ++ number f.kind ++ number f.start ++ number f.error ++ text f.path

pub record IsFront (f : Front) : Type 0 where
  pub name : FitsText f.name
  pub display : FitsText f.display
  pub kind : FitsNumber f.kind
  pub start : FitsNumber f.start
  pub error : FitsNumber f.error
  pub path : FitsText f.path

front_made : (bytes r1 r2 r3 r4 r5 r6 : List ℕ) (f : Front) → Takes bytes (text f.name) r1 → Takes r1 (text f.display) r2
    → Takes r2 (number f.kind) r3
    → Takes r3 (number f.start) r4 → Takes r4 (number f.error) r5 → Takes r5 (text f.path) r6 → Takes bytes (front_text f) r6
front_made bytes r1 r2 r3 r4 r5 r6 f t1 t2 t3 t4 t5 t6 =
    let p2 = Takes-then bytes (text f.name) r1 (text f.display) r2 t1 t2 in
    let p3 = Takes-then bytes (text f.name ++ text f.display) r2 (number f.kind) r3 p2 t3 in
    let p4 = Takes-then bytes (text f.name ++ text f.display ++ number f.kind) r3 (number f.start) r4 p3 t4 in
    let p5 = Takes-then bytes (text f.name ++ text f.display ++ number f.kind ++ number f.start) r4 (number f.error) r5 p4 t5 in
    Takes-then bytes (text f.name ++ text f.display ++ number f.kind ++ number f.start ++ number f.error) r5 (text f.path) r6 p5 t6

front_takes : (bytes : List ℕ) (x : Front × List ℕ) → IsBytes bytes → take_front bytes ≡ Ok x → Takes bytes (front_text x.0) x.1
    × IsFront x.0
unfolding take_front
front_takes bytes x fits e =
    step a_text _ bytes x fits e (λ name r1 t1 f1 e1.
    step a_text _ r1 x t1.rest_fits e1 (λ display r2 t2 f2 e2.
    step a_number _ r2 x t2.rest_fits e2 (λ kind r3 t3 f3 e3.
    step a_number _ r3 x t3.rest_fits e3 (λ start r4 t4 f4 e4.
    step a_number _ r4 x t4.rest_fits e4 (λ error r5 t5 f5 e5.
    step a_text _ r5 x t5.rest_fits e5 (λ path r6 t6 f6 e6.
    let f : Front = record { name = name; display = display; kind = kind; start = start; error = error; path = path } in
    subst (λ (y : Front × List ℕ). Takes bytes (front_text y.0) y.1 × IsFront y.0) (ok_is (f, r6) x e6) (
      front_made bytes r1 r2 r3 r4 r5 r6 f t1 t2 t3 t4 t5 t6,
      record {
        name = f1;
        display = f2;
        kind = f3;
        start = f4;
        error = f5;
        path = f6;
      },
    )))))))

front_again : (f : Front) (rest : List ℕ) → IsFront f → take_front (front_text f ++ rest) ≡ Ok (f, rest)
unfolding take_front
front_again f rest fits =
    let last = text f.path ++ rest in
    let numbers = number f.kind ++ (number f.start ++ (number f.error ++ last)) in
    let r1 = text f.display ++ numbers in
    let regrouped : front_text f ++ rest ≡ text f.name ++ r1 =
    append_assoc (text f.name ++ text f.display ++ number f.kind ++ number f.start ++ number f.error) (text f.path) rest
    ∙ append_assoc (text f.name ++ text f.display ++ number f.kind ++ number f.start) (number f.error) last
    ∙ append_assoc (text f.name ++ text f.display ++ number f.kind) (number f.start) (number f.error ++ last)
    ∙ append_assoc (text f.name ++ text f.display) (number f.kind) (number f.start ++ (number f.error ++ last))
    ∙ append_assoc (text f.name) (text f.display) numbers in
    ap take_front regrouped ∙ rw (
      a_text.again f.name r1 fits.name,
      a_text.again f.display numbers fits.display,
      a_number.again f.kind (number f.start ++ (number f.error ++ last)) fits.kind,
      a_number.again f.start (number f.error ++ last) fits.start,
      a_number.again f.error last fits.error,
      a_text.again f.path rest fits.path,
    ) refl

pub a_front : IsField Front take_front front_text IsFront
a_front = record { takes = front_takes; again = front_again }

abbrev pub middle_text : Middle → List ℕ
middle_text m = text m.group ++ number m.tag ++ counted_items need_bytes m.needs ++ text m.description

pub record IsMiddle (m : Middle) : Type 0 where
  pub group : FitsText m.group
  pub tag : FitsNumber m.tag
  pub needs : AreItems IsNeed m.needs
  pub description : FitsText m.description

middle_made : (bytes r1 r2 r3 r4 : List ℕ) (m : Middle) → Takes bytes (text m.group) r1 → Takes r1 (number m.tag) r2
    → Takes r2 (counted_items need_bytes m.needs) r3
    → Takes r3 (text m.description) r4 → Takes bytes (middle_text m) r4
middle_made bytes r1 r2 r3 r4 m t1 t2 t3 t4 =
    let p2 = Takes-then bytes (text m.group) r1 (number m.tag) r2 t1 t2 in
    let p3 = Takes-then bytes (text m.group ++ number m.tag) r2 (counted_items need_bytes m.needs) r3 p2 t3 in
    Takes-then bytes (text m.group ++ number m.tag ++ counted_items need_bytes m.needs) r3 (text m.description) r4 p3 t4

middle_takes : (bytes : List ℕ) (x : Middle × List ℕ) → IsBytes bytes → take_middle bytes ≡ Ok x → Takes bytes (middle_text x.0) x.1
    × IsMiddle x.0
unfolding take_middle
middle_takes bytes x fits e =
    step a_text _ bytes x fits e (λ group r1 t1 f1 e1.
    step a_number _ r1 x t1.rest_fits e1 (λ tag r2 t2 f2 e2.
    step some_needs _ r2 x t2.rest_fits e2 (λ asked r3 t3 f3 e3.
    step a_text _ r3 x t3.rest_fits e3 (λ description r4 t4 f4 e4.
    let m : Middle = record { group = group; tag = tag; needs = asked; description = description } in
    subst (λ (y : Middle × List ℕ). Takes bytes (middle_text y.0) y.1 × IsMiddle y.0) (ok_is (m, r4) x e4)
    (middle_made bytes r1 r2 r3 r4 m t1 t2 t3 t4, record { group = f1; tag = f2; needs = f3; description = f4 })))))

middle_again : (m : Middle) (rest : List ℕ) → IsMiddle m → take_middle (middle_text m ++ rest) ≡ Ok (m, rest)
unfolding take_middle
middle_again m rest fits =
    let last = text m.description ++ rest in
    let r2 = counted_items need_bytes m.needs ++ last in
    let regrouped : middle_text m ++ rest ≡ text m.group ++ (number m.tag ++ r2) =
    append_assoc (text m.group ++ number m.tag ++ counted_items need_bytes m.needs) (text m.description) rest
    ∙ append_assoc (text m.group ++ number m.tag) (counted_items need_bytes m.needs) last
    ∙ append_assoc (text m.group) (number m.tag) r2 in
    ap take_middle regrouped ∙ rw (
      a_text.again m.group (number m.tag ++ r2) fits.group,
      a_number.again m.tag r2 fits.tag,
      some_needs.again m.needs last fits.needs,
      a_text.again m.description rest fits.description,
    ) refl

a_middle : IsField Middle take_middle middle_text IsMiddle
a_middle = record { takes = middle_takes; again = middle_again }

abbrev pub back_text : Back → List ℕ
back_text b = number b.reset ++ counted_items action b.actions ++ text b.command ++ flag b.on_exit

pub record IsBack (b : Back) : Type 0 where
  pub reset : FitsNumber b.reset
  pub actions : AreItems IsAction b.actions
  pub command : FitsText b.command

back_made : (bytes r1 r2 r3 r4 : List ℕ) (b : Back) → Takes bytes (number b.reset) r1 → Takes r1 (counted_items action b.actions) r2
    → Takes r2 (text b.command) r3
    → Takes r3 (flag b.on_exit) r4 → Takes bytes (back_text b) r4
back_made bytes r1 r2 r3 r4 b t1 t2 t3 t4 =
    let p2 = Takes-then bytes (number b.reset) r1 (counted_items action b.actions) r2 t1 t2 in
    let p3 = Takes-then bytes (number b.reset ++ counted_items action b.actions) r2 (text b.command) r3 p2 t3 in
    Takes-then bytes (number b.reset ++ counted_items action b.actions ++ text b.command) r3 (flag b.on_exit) r4 p3 t4

back_takes : (bytes : List ℕ) (x : Back × List ℕ) → IsBytes bytes → take_back bytes ≡ Ok x → Takes bytes (back_text x.0) x.1 × IsBack x.0
unfolding take_back
back_takes bytes x fits e =
    step a_number _ bytes x fits e (λ reset r1 t1 f1 e1.
    step some_actions _ r1 x t1.rest_fits e1 (λ actions r2 t2 f2 e2.
    step a_text _ r2 x t2.rest_fits e2 (λ command r3 t3 f3 e3.
    step a_flag _ r3 x t3.rest_fits e3 (λ on_exit r4 t4 f4 e4.
    let b : Back = record { reset = reset; actions = actions; command = command; on_exit = on_exit } in
    subst (λ (y : Back × List ℕ). Takes bytes (back_text y.0) y.1 × IsBack y.0) (ok_is (b, r4) x e4)
    (back_made bytes r1 r2 r3 r4 b t1 t2 t3 t4, record { reset = f1; actions = f2; command = f3 })))))

back_again : (b : Back) (rest : List ℕ) → IsBack b → take_back (back_text b ++ rest) ≡ Ok (b, rest)
unfolding take_back
back_again b rest fits =
    let last = flag b.on_exit ++ rest in
    let r2 = text b.command ++ last in
    let regrouped : back_text b ++ rest ≡ number b.reset ++ (counted_items action b.actions ++ r2) =
    append_assoc (number b.reset ++ counted_items action b.actions ++ text b.command) (flag b.on_exit) rest
    ∙ append_assoc (number b.reset ++ counted_items action b.actions) (text b.command) last
    ∙ append_assoc (number b.reset) (counted_items action b.actions) r2 in
    ap take_back regrouped ∙ rw (
      a_number.again b.reset (counted_items action b.actions ++ r2) fits.reset,
      some_actions.again b.actions r2 fits.actions,
      a_text.again b.command last fits.command,
      a_flag.again b.on_exit rest tt,
    ) refl

a_back : IsField Back take_back back_text IsBack
a_back = record { takes = back_takes; again = back_again }

abbrev pub end_text : End → List ℕ
end_text e = flag e.delayed ++ counted_items trigger_bytes e.triggers

pub record IsEnd (e : End) : Type 0 where
  pub triggers : AreItems IsTrigger e.triggers

end_takes : (bytes : List ℕ) (x : End × List ℕ) → IsBytes bytes → take_end bytes ≡ Ok x → Takes bytes (end_text x.0) x.1 × IsEnd x.0
unfolding take_end
end_takes bytes x fits e =
    step a_flag _ bytes x fits e (λ delayed r1 t1 _ e1.
    step some_triggers _ r1 x t1.rest_fits e1 (λ triggers r2 t2 f2 e2.
    let made : End = record { delayed = delayed; triggers = triggers } in
    subst (λ (y : End × List ℕ). Takes bytes (end_text y.0) y.1 × IsEnd y.0) (ok_is (made, r2) x e2)
    (Takes-then bytes (flag delayed) r1 (counted_items trigger_bytes triggers) r2 t1 t2, record { triggers = f2 })))

end_again : (e : End) (rest : List ℕ) → IsEnd e → take_end (end_text e ++ rest) ≡ Ok (e, rest)
unfolding take_end
end_again e rest fits =
    let triggers = counted_items trigger_bytes e.triggers in
    ap take_end (append_assoc (flag e.delayed) triggers rest) ∙ rw (
      a_flag.again e.delayed (triggers ++ rest) tt,
      some_triggers.again e.triggers rest fits.triggers,
    ) refl

an_end : IsField End take_end end_text IsEnd
an_end = record { takes = end_takes; again = end_again }

-- ## A configuration

abbrev front_in : Config → Front
front_in c = record { name = c.name; display = c.display; kind = c.kind; start = c.start; error = c.error; path = c.path }

abbrev middle_in : Config → Middle
middle_in c = record { group = c.group; tag = c.tag; needs = c.needs; description = c.description }

abbrev back_in : Config → Back
back_in c = record { reset = c.reset; actions = c.actions; command = c.command; on_exit = c.on_exit }

abbrev end_in : Config → End
end_in c = record { delayed = c.delayed; triggers = c.triggers }

fits_of : (f : Front) (m : Middle) (b : Back) → IsFront f → IsMiddle m → IsBack b → IsConfig_1 (config_from f m b)
fits_of f m b x y z = (
  record { name = x.name; display = x.display; kind = x.kind; start = x.start; error = x.error; path = x.path },
  record { group = y.group; tag = y.tag; needs = y.needs; description = y.description },
  record { reset = z.reset; actions = z.actions; command = z.command },
)

front_fits : (c : Config) → IsConfig_1 c → IsFront (front_in c)
front_fits c h = record { name = h.0.name; display = h.0.display; kind = h.0.kind; start = h.0.start; error = h.0.error; path = h.0.path }

middle_fits : (c : Config) → IsConfig_1 c → IsMiddle (middle_in c)
middle_fits c h = record { group = h.1.group; tag = h.1.tag; needs = h.1.needs; description = h.1.description }

back_fits : (c : Config) → IsConfig_1 c → IsBack (back_in c)
back_fits c h = record { reset = h.2.reset; actions = h.2.actions; command = h.2.command }

-- what form 2 adds to form 1 leaves the rest as it is
fits_more : (c : Config) (e : End) → IsConfig_1 c → IsEnd e → IsConfig (with_end c e)
fits_more c e h last = (
  record { name = h.0.name; display = h.0.display; kind = h.0.kind; start = h.0.start; error = h.0.error; path = h.0.path },
  record { group = h.1.group; tag = h.1.tag; needs = h.1.needs; description = h.1.description },
  record { reset = h.2.reset; actions = h.2.actions; command = h.2.command },
  record { triggers = last.triggers },
)

pub fits_1 : (c : Config) → IsConfig c → IsConfig_1 c
fits_1 c h = (h.0, h.1, h.2)

-- a form of configurations: what is read is spelled so, and holds no more than that; what is spelled so is read
record IsForm (read : List ℕ → Item Config) (spell : Config → List ℕ) (Fits : Config → Type 0) (hold : Config → Config) : Type 0 where
  takes : (bytes : List ℕ) (x : Config × List ℕ) → IsBytes bytes → read bytes ≡ Ok x
      → Takes bytes (spell x.0) x.1 × Fits x.0 × (hold x.0 ≡ x.0)
  again : (c : Config) (rest : List ℕ) → Fits c → read (spell c ++ rest) ≡ Ok (hold c, rest)

config_takes_1 : (bytes : List ℕ) (x : Config × List ℕ) → IsBytes bytes → take_config_1 bytes ≡ Ok x
    → Takes bytes (encoding_1 x.0) x.1 × IsConfig_1 x.0 × (held x.0 ≡ x.0)
unfolding take_config_1
config_takes_1 bytes x fits e =
    step a_front _ bytes x fits e (λ f r1 t1 f1 e1.
    step a_middle _ r1 x t1.rest_fits e1 (λ m r2 t2 f2 e2.
    step a_back _ r2 x t2.rest_fits e2 (λ b r3 t3 f3 e3.
    let p2 = Takes-then bytes (front_text f) r1 (middle_text m) r2 t1 t2 in
    let p3 = Takes-then bytes (front_text f ++ middle_text m) r2 (back_text b) r3 p2 t3 in
    subst (λ (y : Config × List ℕ). Takes bytes (encoding_1 y.0) y.1 × IsConfig_1 y.0 × (held y.0 ≡ y.0))
    (ok_is (config_from f m b, r3) x e3) (p3, fits_of f m b f1 f2 f3, refl))))

pub config_again_1 : (c : Config) (rest : List ℕ) → IsConfig_1 c → take_config_1 (encoding_1 c ++ rest) ≡ Ok (held c, rest)
unfolding take_config_1
config_again_1 c rest fits =
    let last = back c ++ rest in
    let r1 = middle c ++ last in
    let regrouped : encoding_1 c ++ rest ≡ front c ++ r1 = append_assoc (front c ++ middle c) (back c) rest
    ∙ append_assoc (front c) (middle c) last in
    ap take_config_1 regrouped ∙ rw (
      a_front.again (front_in c) r1 (front_fits c fits),
      a_middle.again (middle_in c) last (middle_fits c fits),
      a_back.again (back_in c) rest (back_fits c fits),
    ) refl

form_1 : IsForm take_config_1 encoding_1 IsConfig_1 held
form_1 = record { takes = config_takes_1; again = config_again_1 }

-- all of it is held
abbrev all_held : Config → Config
all_held c = c

config_takes : (bytes : List ℕ) (x : Config × List ℕ) → IsBytes bytes → take_config bytes ≡ Ok x
    → Takes bytes (encoding x.0) x.1 × IsConfig x.0 × (all_held x.0 ≡ x.0)
unfolding take_config
config_takes bytes x fits e =
    let b = bind_ok (take_config_1 bytes) (λ config. take_end config.1 >>= λ last. Ok (with_end config.0 last.0, last.1)) x e in
    let t = config_takes_1 bytes b.0 fits b.1 in
    step an_end _ b.0.1 x t.0.rest_fits b.2 (λ last r2 t2 f2 e2.
    subst (λ (y : Config × List ℕ). Takes bytes (encoding y.0) y.1 × IsConfig y.0 × (all_held y.0 ≡ y.0))
    (ok_is (with_end b.0.0 last, r2) x e2)
    (Takes-then bytes (encoding_1 b.0.0) b.0.1 (end_text last) r2 t.0 t2, fits_more b.0.0 last t.1 f2, refl))

config_again : (c : Config) (rest : List ℕ) → IsConfig c → take_config (encoding c ++ rest) ≡ Ok (c, rest)
unfolding take_config
config_again c rest fits =
    ap take_config (append_assoc (encoding_1 c) (end c) rest) ∙ rw (
      config_again_1 c (end c ++ rest) (fits_1 c fits),
      an_end.again (end_in c) rest (record { triggers = fits.3.triggers }),
    ) refl

form_2 : IsForm take_config encoding IsConfig all_held
form_2 = record { takes = config_takes; again = config_again }

-- ## All of the bytes

guard_ended : {A : Type 0} (b : Bool) (d : ℕ) (x y : A) → cond b (Ok x) (Err d) ≡ Ok y → (b ≡ true) × (x ≡ y)
guard_ended true d x y e = (refl, cc)
guard_ended false d x y e = absurd cc

abbrev ended : {A : Type 0} → A × List ℕ → Result A ℕ
ended {A} x = cond {A = Result A ℕ} (length x.1 == 0) (Ok x.0) (Err (length x.1))

whole_takes : {read : List ℕ → Item Config} {spell : Config → List ℕ} {Fits : Config → Type 0} {hold : Config → Config}
    → IsForm read spell Fits hold → (bytes : List ℕ) (c : Config) → IsBytes bytes → all_of read bytes ≡ Ok c
    → Fits c × (hold c ≡ c) × (bytes ≡ spell c)
whole_takes {read} {spell} {Fits} {hold} form bytes c fits e =
    let a = bind_ok (read bytes) ended c e in
    let g = guard_ended (length a.0.1 == 0) (length a.0.1) a.0.0 c a.2 in
    let t = form.takes bytes a.0 fits a.1 in
    let nothing : a.0.1 ≡ [] = nil_from_length a.0.1 (eqb-true _ _ g.0) in
    let whole : bytes ≡ spell a.0.0 = t.0.parts ∙ ap (λ (r : List ℕ). spell a.0.0 ++ r) nothing ∙ append-nil (spell a.0.0) in
    subst (λ (d : Config). Fits d × (hold d ≡ d) × (bytes ≡ spell d)) g.1 (t.1, t.2, whole)

whole_again : {read : List ℕ → Item Config} {spell : Config → List ℕ} {Fits : Config → Type 0} {hold : Config → Config}
    → IsForm read spell Fits hold → (c : Config) → Fits c → placed (length (spell c)) (all_of read (spell c)) ≡ Ok (hold c)
whole_again {read} {spell} {Fits} {hold} form c fits =
    let e : read (spell c) ≡ Ok (hold c, []) = ap read (sym (append-nil (spell c))) ∙ form.again c [] fits in
    ap (λ (r : Item Config). placed (length (spell c)) (r >>= ended)) e

placed_ok : {A : Type 0} (size : ℕ) (r : Result A ℕ) (x : A) → placed size r ≡ Ok x → r ≡ Ok x
placed_ok size (Ok y) x e = cc
placed_ok size (Err left) x e = absurd cc

pub record_again_1 : (c : Config) → IsConfig_1 c → record_of_1 (encoding_1 c) ≡ Ok (held c)
unfolding whole_of_1
record_again_1 c fits = whole_again form_1 c fits

pub record_again : (c : Config) → IsConfig c → record_of (encoding c) ≡ Ok c
unfolding whole_of
record_again c fits = whole_again form_2 c fits

abbrev pub IsFound_1 : List ℕ → Config → Type 0
IsFound_1 bytes c = IsConfig_1 c × (held c ≡ c) × (bytes ≡ encoding_1 c)

abbrev pub IsFound : List ℕ → Config → Type 0
IsFound bytes c = IsConfig c × (bytes ≡ encoding c)

pub is_found_1 : (bytes : List ℕ) (r : Result Config RecordFault) → IsBytes bytes → Tells r (record_of_1 bytes) → IfOk r (IsFound_1 bytes)
unfolding whole_of_1
is_found_1 bytes (Ok c) fits told = whole_takes form_1 bytes c fits (placed_ok (length bytes) (whole_of_1 bytes) c told)
is_found_1 bytes (Err e) fits told = tt

pub is_found : (bytes : List ℕ) (r : Result Config RecordFault) → IsBytes bytes → Tells r (record_of bytes) → IfOk r (IsFound bytes)
unfolding whole_of
is_found bytes (Ok c) fits told =
    let w = whole_takes form_2 bytes c fits (placed_ok (length bytes) (whole_of bytes) c told) in (w.0, w.2)
is_found bytes (Err e) fits told = tt

pub read_back : (c : Config) (bytes : List ℕ) → IsConfig c → bytes ≡ encoding c → record_of bytes ≡ Ok c
read_back c bytes fits e = ap record_of e ∙ record_again c fits
