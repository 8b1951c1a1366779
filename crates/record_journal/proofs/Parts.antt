-- What is less than an entry, and what is a part of one.
use Rattle.std.proofs.Common.{◌≡◌, ℕ, ◌<◌, ◌≤◌, ◌-◌, ◌==◌, ◌||◌, Bool, not, true, false, cond, List, [], ◌∷◌, ◌++◌, length, take, drop}
use Rattle.std.proofs.Common.{None, Ok, Err, refl, sym, ap, subst, ◌∙◌, append_assoc, arith, lt-ltb, eqb-true, ne_eqb}
use Rattle.std.specs.Prelude.{Result, is_ok}
use Rattle.std.proofs.lemmas.List.{append-nil, drop_at, length-append, take-append-drop, take_at}
use Rattle.scm_model.specs.declared.flat.Config.{Config}
use Rattle.scm_model.specs.declared.steps.Change.{Change}
use Rattle.scm_model.specs.declared.steps.Change.TheVariants.{Created, Changed, Removed}
use Rattle.service_record.specs.Reading.{◌>>=◌, Item, Tells, placed, take_config, take_config_1, take_front, take_number, take_text}
use Rattle.service_record.specs.Reading.{whole_of, whole_of_1}
use Rattle.service_record.specs.declared.reading.RecordFault.{RecordFault}
use Rattle.service_record.specs.declared.reading.RecordFault.TheVariants as faults
use Rattle.service_record.specs.Spelling.{FitsNumber, FitsText, held, number, encoding, encoding_1, text}
use Rattle.service_record.proofs.Fields.{a_number, bind_ok, ok_is}
use Rattle.service_record.proofs.Records.{record_again, record_again_1}
use Rattle.service_record.proofs.Texts.{a_text}
use Rattle.record_journal.specs.Entries.{IsPart, begins_switch, can_grow, if_read, record_in, take_in, whole_in, with_body}
use Rattle.record_journal.specs.Format.{HasConfig, HasEntryIn, body_in, config_in, entry_in, entry_kind, switch}
use Rattle.record_journal.specs.ReadBack.{HasParts}
use Rattle.scm_model.specs.declared.steps.Form.{Form}
use Rattle.scm_model.specs.declared.steps.Form.TheVariants.{First, Second}
use Rattle.record_journal.proofs.Readers.{IsReader, Took, config_reader, text_reader}

-- ## Fronts of what is read

-- what is read is read before anything else
pub still : {A : Type 0} (read : List ℕ → Item A) → IsReader read → (bytes after : List ℕ) (x : A × List ℕ) → read bytes ≡ Ok x
    → read (bytes ++ after) ≡ Ok (x.0, x.1 ++ after)
still read one bytes after x is =
    let p = one bytes x is in
    ap read (ap (λ (xs : List ℕ). xs ++ after) p.parts ∙ append_assoc p.front x.1 after) ∙ p.any (x.1 ++ after)

none_left : {A : Type 0} (after : List ℕ) (x y : A × List ℕ) → ◌≡◌ {A = Item A} (Ok (x.0, x.1 ++ after)) (Ok y) → length y.1 ≡ 0
    → 1 ≤ length after → ⊥
none_left after x y is end some =
    let left = ap (λ (z : _). length z.1) (ok_is (x.0, x.1 ++ after) y is) in
    let long = length-append x.1 after in
    omega (arith, left, long, end, some)

-- a front of what is read to its end isn't read, where it isn't all of it
not_yet : {A : Type 0} (read : List ℕ → Item A) → IsReader read → (bytes after : List ℕ) (y : A × List ℕ) → read (bytes ++ after) ≡ Ok y
    → length y.1 ≡ 0 → 1 ≤ length after → is_ok (read bytes) ≡ false
not_yet {A} read one bytes after y all end some =
    elim (read bytes) as (λ r. read bytes ≡ r → is_ok r ≡ false) [
      | Err left ↦ λ e. refl
      | Ok x ↦ λ e. absurd (none_left after x y (sym (still read one bytes after x e) ∙ all) end some)
    ] refl

-- ## A configuration at the front of a body

abbrev pub ended : {A : Type 0} → A × List ℕ → Result A ℕ
ended {A} x = cond {A = Result A ℕ} (length x.1 == 0) (Ok x.0) (Err (length x.1))

pub whole_is : (form : Form) (bytes : List ℕ) → whole_in form bytes ≡ (take_in form bytes >>= ended)
unfolding whole_of whole_of_1
whole_is First bytes = refl
whole_is Second bytes = refl

pub is_placed : (size : ℕ) (read : Result Config ℕ) → is_ok (placed size read) ≡ is_ok read
is_placed size (Ok x) = refl
is_placed size (Err left) = refl

pub begins_so : (form : Form) (bytes : List ℕ) (c : Config) → record_in form bytes ≡ Ok c → is_ok (take_in form bytes) ≡ true
begins_so form bytes c is =
    elim (take_in form bytes) as (λ r. placed (length bytes) (r >>= ended) ≡ Ok c → is_ok r ≡ true) [
      | Ok x ↦ λ e. refl
      | Err left ↦ λ e. absurd cc
    ] (ap (placed (length bytes)) (sym (whole_is form bytes)) ∙ is)

err_is : (a b : ℕ) → ◌≡◌ {A = Result Config ℕ} (Err a) (Err b) → a ≡ b
err_is a b is = cc

-- where reading all of some bytes fails after a configuration
fails_at : (front rest : List ℕ) (c : Config) (place : ℕ) → placed (length (front ++ rest)) (ended (c, rest)) ≡ Err place
    → place ≡ length front
fails_at front [] c place is = absurd cc
fails_at front (x ∷ rest) c place is =
    let some : (length (x ∷ rest) == 0) ≡ false = ne_eqb (length (x ∷ rest)) 0 (λ q. absurd (omega (arith, q))) in
    let all = length (front ++ x ∷ rest) in
    let left = err_is (all - length (x ∷ rest)) place
    (sym (ap (λ b. placed all (cond {A = Result Config ℕ} b (Ok c) (Err (length (x ∷ rest))))) some) ∙ is) in
    let long = length-append front (x ∷ rest) in
    omega (arith, left, long)

whole_front : (form : Form) (front : List ℕ) (c : Config) → take_in form (front ++ []) ≡ Ok (c, []) → whole_in form front ≡ Ok c
whole_front form front c is = whole_is form front ∙ ap (λ (r : Item Config). r >>= ended)
    (ap (take_in form) (sym (append-nil front)) ∙ is)

at_front : (form : Form) (bytes : List ℕ) (place : ℕ) (x : Config × List ℕ) → Took (take_in form) bytes x
    → placed (length bytes) (ended x) ≡ Err place → is_ok (whole_in form (take place bytes)) ≡ true
at_front form bytes place x p is =
    let at : place ≡ length p.front = fails_at p.front x.1 x.0 place
    (subst (λ (xs : List ℕ). placed (length xs) (ended x) ≡ Err place) p.parts is) in
    let same : take place bytes ≡ p.front = ap (take place) p.parts ∙ take_at p.front x.1 place (sym at) in
    ap (λ (xs : List ℕ). is_ok (whole_in form xs)) same ∙ ap is_ok (whole_front form p.front x.0 (p.any []))

no_front : (form : Form) (bytes : List ℕ) (place left : ℕ) → take_in form bytes ≡ Err left
    → is_ok (whole_in form (take place bytes)) ≡ false
no_front form bytes place left none =
    ap is_ok (whole_is form (take place bytes))
    ∙ elim (take_in form (take place bytes)) as (λ r. take_in form (take place bytes) ≡ r → is_ok (r >>= ended) ≡ false) [
      | Err other ↦ λ e. refl
      | Ok x ↦ λ e. absurd (let all = sym (ap (take_in form) (take-append-drop place bytes))
          ∙ still (take_in form) (config_reader form) (take place bytes) (drop place bytes) x e in cc)
    ] refl

-- what fails to be a configuration begins with one where it is one up to there
pub begins_as : (form : Form) (bytes : List ℕ) (place : ℕ) → record_in form bytes ≡ Err place
    → is_ok (whole_in form (take place bytes)) ≡ is_ok (take_in form bytes)
begins_as form bytes place is =
    elim (take_in form bytes) as (λ r. take_in form bytes ≡ r → placed (length bytes) (r >>= ended) ≡ Err place
    → is_ok (whole_in form (take place bytes)) ≡ is_ok r) [
      | Ok x ↦ λ e at. at_front form bytes place x (config_reader form bytes x e) at
      | Err left ↦ λ e at. no_front form bytes place left e
    ] refl (ap (placed (length bytes)) (sym (whole_is form bytes)) ∙ is)

-- where it is told to fail
pub told_at : (form : Form) (bytes : List ℕ) (place : ℕ) (fault : RecordFault) → fault ≡ faults.Bad place
    → Tells {X = Config} (Err fault) (record_in form bytes) → record_in form bytes ≡ Err place
told_at form bytes place fault is told = subst (λ (f : RecordFault). Tells {X = Config} (Err f) (record_in form bytes)) is told

placed_within : (size place : ℕ) (read : Result Config ℕ) → placed size read ≡ Err place → place ≤ size
placed_within size place (Ok x) is = absurd cc
placed_within size place (Err left) is = let at = err_is (size - left) place is in omega (arith, at)

pub fails_within : (form : Form) (bytes : List ℕ) (place : ℕ) → record_in form bytes ≡ Err place → place ≤ length bytes
fails_within form bytes place is = placed_within (length bytes) place (whole_in form bytes) is

-- ## An entry

pub placed_ok : {A : Type 0} (size : ℕ) (r : Result A ℕ) (x : A) → placed size r ≡ Ok x → r ≡ Ok x
placed_ok size (Ok y) x e = cc
placed_ok size (Err left) x e = absurd cc

-- some bytes are read to their end
pub record Ends {A : Type 0} (read : List ℕ → Item A) (bytes : List ℕ) : Type 0 where
  pub item : A × List ℕ
  pub is : read bytes ≡ Ok item
  pub end : length item.1 ≡ 0

all_read : {A : Type 0} (x : A × List ℕ) (y : A) → ended x ≡ Ok y → length x.1 ≡ 0
all_read {A} x y is =
    elim (length x.1 == 0) as (λ b. (length x.1 == 0) ≡ b → cond {A = Result A ℕ} b (Ok x.0) (Err (length x.1)) ≡ Ok y → length x.1 ≡ 0) [
      | true ↦ λ e o. eqb-true (length x.1) 0 e
      | false ↦ λ e o. absurd cc
    ] refl is

pub ends_of : {A : Type 0} (read : List ℕ → Item A) (bytes : List ℕ) (y : A) → (read bytes >>= ended) ≡ Ok y → Ends read bytes
ends_of read bytes y is =
    let b = bind_ok (read bytes) ended y is in
    record { item = b.0; is = b.1; end = all_read b.0 y b.2 }

-- what an entry of a form holds of a configuration
abbrev pub config_held : Form → Config → Config
config_held First config = held config
config_held Second config = config

pub config_back : (form : Form) (config : Config) → HasConfig form config → whole_in form (config_in form config)
    ≡ Ok (config_held form config)
config_back First config fits = placed_ok (length (encoding_1 config)) (whole_of_1 (encoding_1 config)) (held config)
    (record_again_1 config fits)
config_back Second config fits = placed_ok (length (encoding config)) (whole_of (encoding config)) config (record_again config fits)

pub config_ends : (form : Form) (config : Config) → HasConfig form config → Ends (take_in form) (config_in form config)
config_ends form config fits =
    ends_of (take_in form) (config_in form config) (config_held form config)
    (sym (whole_is form (config_in form config)) ∙ config_back form config fits)

pub name_ends : (name : List ℕ) → FitsText name → Ends take_text (text name)
name_ends name fits = record { item = (name, []); is = ap take_text (sym (append-nil (text name))) ∙ a_text.again name [] fits; end = refl }

-- a front of bytes that are read to their end isn't read, where it isn't all of them
not_read : {A : Type 0} (read : List ℕ → Item A) → IsReader read → (bytes front more : List ℕ) → Ends read bytes → bytes ≡ front ++ more
    → 1 ≤ length more → is_ok (read front) ≡ false
not_read read one bytes front more y is some = not_yet read one front more y.item (ap read (sym is) ∙ y.is) y.end some

-- a front of a body that isn't all of it can grow
body_grows : (form : Form) (change : Change) → HasEntryIn form change → (front more : List ℕ) → body_in form change ≡ front ++ more
    → 1 ≤ length more → can_grow form (entry_kind change) front ≡ true
body_grows form (Created config) entry front more is some = ap not
    (not_read (take_in form) (config_reader form) (config_in form config) front more (config_ends form config entry.body) is some)
body_grows form (Changed config) entry front more is some = ap not
    (not_read (take_in form) (config_reader form) (config_in form config) front more (config_ends form config entry.body) is some)
body_grows form (Removed name) entry front more is some = ap not
    (not_read take_text text_reader (text name) front more (name_ends name entry.body) is some)

nothing_grows : (form : Form) (change : Change) → can_grow form (entry_kind change) [] ≡ true
unfolding take_config take_config_1 take_front take_text
nothing_grows First (Created config) = refl
nothing_grows First (Changed config) = refl
nothing_grows First (Removed name) = refl
nothing_grows Second (Created config) = refl
nothing_grows Second (Changed config) = refl
nothing_grows Second (Removed name) = refl

-- less of a body than its length says
too_short : (kind n : ℕ) (p rest : List ℕ) → number n ≡ p → FitsNumber n → length rest < n
    → with_body kind (if_read (take_number (p ++ rest))) ≡ None
too_short kind n p rest is fits less =
    ap (λ (q : List ℕ). with_body kind (if_read (take_number (q ++ rest)))) (sym is)
    ∙ ap (λ (r : Item ℕ). with_body kind (if_read r)) (a_number.again n rest fits)
    ∙ rw (lt-ltb (length rest) n less) refl

or_second : (a b : Bool) → b ≡ true → (a || b) ≡ true
or_second true b is = refl
or_second false b is = is

-- a part whose body can grow
grows_on : (form : Form) (kind : ℕ) (change : Change) (body bytes : List ℕ) → entry_kind change ≡ kind
    → can_grow form (entry_kind change) body ≡ true → (begins_switch form (kind ∷ bytes) || can_grow form kind body) ≡ true
grows_on form kind change body bytes is grows =
    or_second (begins_switch form (kind ∷ bytes)) (can_grow form kind body) (subst (λ (k : ℕ). can_grow form k body ≡ true) is grows)

-- the kind, the length and a front of the body
with_length : (form : Form) (change : Change) → HasEntryIn form change → (kind a b c d : ℕ) (rest more : List ℕ) → entry_kind change ≡ kind
    → number (length (body_in form change)) ++ body_in form change ≡ (a ∷ b ∷ c ∷ d ∷ []) ++ (rest ++ more) → 1 ≤ length more
    → IsPart form (kind ∷ a ∷ b ∷ c ∷ d ∷ rest)
with_length form change entry kind a b c d rest more same is some =
    let n = length (body_in form change) in
    let p = a ∷ b ∷ c ∷ d ∷ [] in
    let size : number n ≡ p = sym (take_at (number n) (body_in form change) 4 refl) ∙ ap (take 4) is in
    let body : body_in form change ≡ rest ++ more = sym (drop_at (number n) (body_in form change) 4 refl) ∙ ap (drop 4) is in
    let long = length-append rest more in
    let whole = ap length body in
    record {
      less = too_short kind n p rest size entry.length (omega (arith, long, whole, some));
      unfinished = grows_on form kind change rest (a ∷ b ∷ c ∷ d ∷ rest) same (body_grows form change entry rest more body some);
    }

-- the kind and less than a length
without_length : (form : Form) (change : Change) (kind : ℕ) (front : List ℕ) → entry_kind change ≡ kind → drop 4 front ≡ []
    → with_body kind (if_read (take_number front)) ≡ None → IsPart form (kind ∷ front)
without_length form change kind front same none less = record {
  less = less;
  unfinished = ap (λ (xs : List ℕ). begins_switch form (kind ∷ front) || can_grow form kind xs) none
      ∙ grows_on form kind change [] front same (nothing_grows form change);
}

part_after : (form : Form) (change : Change) → HasEntryIn form change → (kind : ℕ) (front more : List ℕ) → entry_kind change ≡ kind
    → number (length (body_in form change)) ++ body_in form change ≡ front ++ more → 1 ≤ length more → IsPart form (kind ∷ front)
part_after form change entry kind [] more same is some = without_length form change kind [] same refl refl
part_after form change entry kind (a ∷ []) more same is some = without_length form change kind (a ∷ []) same refl refl
part_after form change entry kind (a ∷ b ∷ []) more same is some = without_length form change kind (a ∷ b ∷ []) same refl refl
part_after form change entry kind (a ∷ b ∷ c ∷ []) more same is some = without_length form change kind (a ∷ b ∷ c ∷ []) same refl refl
part_after form change entry kind (a ∷ b ∷ c ∷ d ∷ rest) more same is some =
    with_length form change entry kind a b c d rest more same is some

pub has_parts : (form : Form) (change : Change) → HasEntryIn form change → HasParts form (entry_in form change)
unfolding entry_in
has_parts form change entry [] more is some = record { less = refl; unfinished = refl }
has_parts form change entry (kind ∷ front) more is some =
    let same : entry_kind change ≡ kind = cc in
    let parts : number (length (body_in form change)) ++ body_in form change ≡ front ++ more = cc in
    part_after form change entry kind front more same parts some

-- ## The entry that ends form 1

abbrev IsPartOfFirst : List ℕ → Type 0
IsPartOfFirst bytes = IsPart First bytes

pub switch_parts : HasParts First switch
switch_parts [] more is some = record { less = refl; unfinished = refl }
switch_parts (a ∷ []) more is some =
    let same : 4 ∷ [] ≡ a ∷ [] = cc in
    subst IsPartOfFirst same (record { less = refl; unfinished = refl })
switch_parts (a ∷ b ∷ []) more is some =
    let same : 4 ∷ 0 ∷ [] ≡ a ∷ b ∷ [] = cc in
    subst IsPartOfFirst same (record { less = refl; unfinished = refl })
switch_parts (a ∷ b ∷ c ∷ []) more is some =
    let same : 4 ∷ 0 ∷ 0 ∷ [] ≡ a ∷ b ∷ c ∷ [] = cc in
    subst IsPartOfFirst same (record { less = refl; unfinished = refl })
switch_parts (a ∷ b ∷ c ∷ d ∷ []) more is some =
    let same : 4 ∷ 0 ∷ 0 ∷ 0 ∷ [] ≡ a ∷ b ∷ c ∷ d ∷ [] = cc in
    subst IsPartOfFirst same (record { less = refl; unfinished = refl })
switch_parts (a ∷ b ∷ c ∷ d ∷ e ∷ front) more is some =
    let long = ap (λ (xs : List ℕ). length xs) is in
    let both = length-append front more in
    absurd (omega (arith, long, both, some))
