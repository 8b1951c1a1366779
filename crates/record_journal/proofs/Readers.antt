-- What is read of a configuration or a name is read whatever stands after it.
use Rattle.std.proofs.Common.{◌≡◌, ℕ, zero, suc, ◌*◌, ◌≤◌, ◌==◌, ◌||◌, true, false, List, [], ◌∷◌, ◌++◌, length, take, drop, Ok, Err, refl}
use Rattle.std.proofs.Common.{sym, ap, subst, ◌∙◌, append_assoc, arith, nat_lt, cond}
use Rattle.std.specs.Int.{w32, from_le_bytes}
use Rattle.std.specs.List.{list_any}
use Rattle.std.proofs.lemmas.Bool.{ltb-false, le-ltb, or_parts}
use Rattle.std.proofs.lemmas.List.{drop_at, length-append, length-take-le, take-append-drop, take_at}
use Rattle.ndr_body.specs.Units.{half, le_units}
use Rattle.service_record.specs.Reading.{◌>>=◌, Item, take_action, take_back, take_config, take_config_1, take_counted, take_end, take_flag}
use Rattle.service_record.specs.Reading.{take_front, take_items, take_middle, take_need, take_number, take_subtype, take_text, take_trigger}
use Rattle.service_record.proofs.Fields.{a_subtype, bind_ok, guard_ok, ok_is}
use Rattle.scm_model.specs.declared.steps.Form.{Form}
use Rattle.scm_model.specs.declared.steps.Form.TheVariants.{First, Second}
use Rattle.record_journal.specs.Entries.{take_in}

-- the front of some bytes that was read, and read again before anything else
pub record Took {A : Type 0} (read : List ℕ → Item A) (bytes : List ℕ) (x : A × List ℕ) : Type 0 where
  pub front : List ℕ
  pub parts : bytes ≡ front ++ x.1
  pub any : (after : List ℕ) → read (front ++ after) ≡ Ok (x.0, after)

abbrev pub IsReader : {A : Type 0} → (List ℕ → Item A) → Type 0
IsReader {A} read = (bytes : List ℕ) (x : A × List ℕ) → read bytes ≡ Ok x → Took read bytes x

-- ## One after the other

-- what is made of what was read
gives : {A : Type 0} (a : A) → IsReader (λ (bytes : List ℕ). Ok (a, bytes))
gives {A} a bytes x is = record {
  front = [];
  parts = ap (λ (y : A × List ℕ). y.1) (ok_is (a, bytes) x is);
  any = λ after. ap
      (λ (y : A × List ℕ). Ok (y.0, after)) (ok_is (a, bytes) x is);
}

and_then : {A B : Type 0} (read : List ℕ → Item A) (next : A × List ℕ → Item B) → IsReader read
    → ((a : A) → IsReader (λ (rest : List ℕ). next (a, rest))) → IsReader (λ (bytes : List ℕ). read bytes >>= next)
and_then {A} {B} read next first second bytes y is =
    let b = bind_ok (read bytes) next y is in
    let p = first bytes b.0 b.1 in
    let q = second b.0.0 b.0.1 y b.2 in
    record {
      front = p.front ++ q.front;
      parts = p.parts ∙ ap (λ (xs : List ℕ). p.front ++ xs) q.parts ∙ sym (append_assoc p.front q.front y.1);
      any = λ after.
          ap (λ (xs : List ℕ). read xs >>= next) (append_assoc p.front q.front after)
          ∙ ap (λ (r : Item A). r >>= next) (p.any (q.front ++ after))
          ∙ q.any after;
    }

-- ## Numbers, flags and texts

pub number_before : (p x : List ℕ) → length p ≡ 4 → take_number (p ++ x) ≡ Ok (from_le_bytes w32 p, x)
number_before p x four =
    let long = length-append p x in
    rw (le-ltb (length (p ++ x)) 4 (omega (arith, long, four)), take_at p x 4 four, drop_at p x 4 four) refl

number_reader : IsReader take_number
number_reader bytes x is =
    let g = guard_ok (nat_lt (length bytes) 4) (length bytes) (from_le_bytes w32 (take 4 bytes), drop 4 bytes) x is in
    let four = length-take-le 4 bytes (ltb-false (length bytes) 4 g.0) in
    subst (λ (y : ℕ × List ℕ). Took take_number bytes y) g.1
    (record { front = take 4 bytes; parts = sym (take-append-drop 4 bytes); any = λ after. number_before (take 4 bytes) after four })

flag_reader : IsReader take_flag
unfolding take_flag
flag_reader [] x is = absurd cc
flag_reader (zero ∷ bytes) x is = subst (λ (y : _). Took take_flag (0 ∷ bytes) y) (ok_is (false, bytes) x is)
    (record { front = 0 ∷ []; parts = refl; any = λ after. refl })
flag_reader (suc zero ∷ bytes) x is = subst (λ (y : _). Took take_flag (1 ∷ bytes) y) (ok_is (true, bytes) x is)
    (record { front = 1 ∷ []; parts = refl; any = λ after. refl })
flag_reader (suc (suc b) ∷ bytes) x is = absurd cc

-- units are those of their own bytes
units_before : (n : ℕ) (bytes after : List ℕ) → 2 * n ≤ length bytes → le_units n (take (2 * n) bytes ++ after) ≡ le_units n bytes
unfolding le_units half
units_before zero bytes after long = refl
units_before (suc n) [] after long = absurd (omega (arith, long))
units_before (suc n) (a ∷ []) after long = absurd (omega (arith, long))
units_before (suc n) (a ∷ b ∷ bytes) after long =
    let two : 2 * suc n ≡ suc (suc (2 * n)) = omega arith in
    ap (λ (k : ℕ). le_units (suc n) (take k (a ∷ b ∷ bytes) ++ after)) two
    ∙ ap (λ (us : List ℕ). half (a ∷ b ∷ bytes) ∷ us) (units_before n bytes after (omega (arith, long)))

-- what is made of a count and what stands after it
abbrev text_in : ℕ → ℕ × List ℕ → Item (List ℕ)
text_in left n = cond {A = Item (List ℕ)} (nat_lt (length n.1) (2 * n.0) || list_any (λ u. u == 0) (le_units n.0 n.1)) (Err left)
    (Ok (le_units n.0 n.1, drop (2 * n.0) n.1))

record IsText (n : ℕ) (rest : List ℕ) (x : List ℕ × List ℕ) : Type 0 where
  long : 2 * n ≤ length rest
  whole : list_any (λ u. u == 0) (le_units n rest) ≡ false
  is : (le_units n rest, drop (2 * n) rest) ≡ x

is_text : (bytes : List ℕ) (n : ℕ) (rest : List ℕ) (x : List ℕ × List ℕ)
    → text_in (length bytes) (n, rest) ≡ Ok x → IsText n rest x
is_text bytes n rest x is =
    let g = guard_ok (nat_lt (length rest) (2 * n) || list_any (λ u. u == 0) (le_units n rest)) (length bytes)
    (le_units n rest, drop (2 * n) rest) x is in
    let tests = or_parts (nat_lt (length rest) (2 * n)) (list_any (λ u. u == 0) (le_units n rest)) g.0 in
    record { long = ltb-false _ _ tests.0; whole = tests.1; is = g.1 }

-- a text of so many units that no other bytes stand in
text_before : (left n : ℕ) (rest after : List ℕ) → 2 * n ≤ length rest → list_any (λ u. u == 0) (le_units n rest) ≡ false
    → text_in left (n, take (2 * n) rest ++ after) ≡ Ok (le_units n rest, after)
text_before left n rest after long whole =
    let size = length-take-le (2 * n) rest long in
    let all = length-append (take (2 * n) rest) after in
    rw (
      le-ltb (length (take (2 * n) rest ++ after)) (2 * n) (omega (arith, size, all)),
      units_before n rest after long,
      whole,
      drop_at
          (take (2 * n) rest) after (2 * n) size,
    ) refl

pub text_reader : IsReader take_text
unfolding take_text
text_reader bytes x is =
    let b = bind_ok (take_number bytes) (text_in (length bytes)) x is in
    let p = number_reader bytes b.0 b.1 in
    let n = b.0.0 in
    let rest = b.0.1 in
    let t = is_text bytes n rest x b.2 in
    subst (λ (y : List ℕ × List ℕ). Took take_text bytes y) t.is
    (record {
      front = p.front ++ take (2 * n) rest;
      parts = p.parts ∙ ap (λ (xs : List ℕ). p.front ++ xs) (sym (take-append-drop (2 * n) rest))
          ∙ sym (append_assoc p.front (take (2 * n) rest) (drop (2 * n) rest));
      any = λ after.
          let behind = take (2 * n) rest ++ after in
          ap take_text (append_assoc p.front (take (2 * n) rest) after)
          ∙ ap (λ (r : Item ℕ). r >>= text_in (length (p.front ++ behind))) (p.any behind)
          ∙ text_before (length (p.front ++ behind)) n rest after t.long t.whole;
    })

-- ## Items

need_reader : IsReader take_need
unfolding take_need
need_reader = and_then take_flag _ flag_reader (λ group. and_then take_text _ text_reader (λ name. gives _))

action_reader : IsReader take_action
unfolding take_action
action_reader = and_then take_number _ number_reader (λ what. and_then take_number _ number_reader (λ delay. gives _))

subtype_reader : IsReader take_subtype
subtype_reader bytes x is =
    let g = guard_ok (nat_lt (length bytes) 16) (length bytes) (take 16 bytes, drop 16 bytes) x is in
    let size = length-take-le 16 bytes (ltb-false (length bytes) 16 g.0) in
    subst (λ (y : List ℕ × List ℕ). Took take_subtype bytes y) g.1
    (record { front = take 16 bytes; parts = sym (take-append-drop 16 bytes); any = λ after. a_subtype.again (take 16 bytes) after size })

trigger_reader : IsReader take_trigger
unfolding take_trigger
trigger_reader = and_then take_number _ number_reader (λ action. and_then take_subtype _ subtype_reader (λ subtype. gives _))

items_reader : {A : Type 0} (item : List ℕ → Item A) → IsReader item → (n : ℕ) → IsReader (take_items item n)
unfolding take_items
items_reader item one zero = gives []
items_reader item one (suc n) = and_then item _ one (λ first. and_then (take_items item n) _ (items_reader item one n) (λ others. gives _))

counted_reader : {A : Type 0} (item : List ℕ → Item A) → IsReader item → IsReader (take_counted item)
unfolding take_counted
counted_reader item one = and_then take_number _ number_reader (λ n. items_reader item one n)

-- ## A configuration

front_reader : IsReader take_front
unfolding take_front
front_reader =
    and_then take_text _ text_reader (λ name. and_then take_text _ text_reader (λ display. and_then take_number _ number_reader (λ kind.
    and_then take_number _ number_reader (λ start. and_then take_number _ number_reader
    (λ error. and_then take_text _ text_reader (λ path. gives _))))))

middle_reader : IsReader take_middle
unfolding take_middle
middle_reader =
    and_then take_text _ text_reader (λ group. and_then take_number _ number_reader
    (λ tag. and_then (take_counted take_need) _ (counted_reader take_need need_reader) (λ wanted.
    and_then take_text _ text_reader (λ description. gives _))))

back_reader : IsReader take_back
unfolding take_back
back_reader =
    and_then take_number _ number_reader (λ reset. and_then (take_counted take_action) _ (counted_reader take_action action_reader)
    (λ actions.
    and_then take_text _ text_reader (λ command. and_then take_flag _ flag_reader (λ on_exit. gives _))))

end_reader : IsReader take_end
unfolding take_end
end_reader = and_then take_flag _ flag_reader
    (λ delayed. and_then (take_counted take_trigger) _ (counted_reader take_trigger trigger_reader) (λ triggers. gives _))

config_reader_1 : IsReader take_config_1
unfolding take_config_1
config_reader_1 = and_then take_front _ front_reader
    (λ front. and_then take_middle _ middle_reader (λ middle. and_then take_back _ back_reader (λ back. gives _)))

config_reader_2 : IsReader take_config
unfolding take_config
config_reader_2 = and_then take_config_1 _ config_reader_1 (λ config. and_then take_end _ end_reader (λ last. gives _))

pub config_reader : (form : Form) → IsReader (take_in form)
config_reader First = config_reader_1
config_reader Second = config_reader_2
