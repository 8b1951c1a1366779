-- A field that was written is read again, whatever comes after it.
use Rattle.std.proofs.Common.{◌≡◌, ℕ, suc, ◌^◌, ◌<◌, Bool, true, false, cond, ltb, ◌==◌, List, [], ◌∷◌, ◌++◌, length, take, drop}
use Rattle.std.proofs.Common.{Option, None, Some, refl, ap, ◌∙◌, append_assoc, arith, length-append}
use Rattle.std.specs.Int.{w16, w32, w64, from_le_bytes}
use Rattle.std.specs.List.{flat_map, list_any, AllByRecursion}
use Rattle.std.proofs.lemmas.Bool.{le-ltb, or_from, ne_eqb}
use Rattle.std.proofs.lemmas.List.{take_at, drop_at}
use Rattle.std.proofs.lemmas.List.Concat.{flat_map-cons}
use Rattle.std.proofs.lemmas.List.Elements.{recursion_from_All}
use Rattle.std.proofs.lemmas.Nat.{from_le_bytes-to_le_bytes_2, from_le_bytes-to_le_bytes_4, from_le_bytes-to_le_bytes_8}
use Rattle.scm_model.specs.declared.flat.Action.{Action}
use Rattle.scm_model.specs.declared.flat.Status.{Status}
use Rattle.scm_model.specs.declared.calls.TriggerIn.{TriggerIn}
use Rattle.step_code.specs.Codes.{n2, n4, n8, flag, some, list, text, byte_list, subtype, joined, status, action, trigger}
use Rattle.step_code.specs.Fits.{Is4, Is8, IsUnit, IsAbsentOr, AreItems, IsText, IsByteList, IsSubtype, IsStatus, IsAction, IsTrigger}
use Rattle.step_code.specs.Reading.{◌>>=◌, Item, n2_at, n4_at, n8_at, flag_at, some_at, items_at, list_at, text_at, byte_list_at}
use Rattle.step_code.specs.Reading.{subtype_at, status_at, action_at, trigger_at}

-- a reader reads what was written
pub record IsField (A : Type 0) (read : List ℕ → Item A) (encode : A → List ℕ) (Fits : A → Type 0) : Type 0 where
  pub again : (x : A) (rest : List ℕ) → Fits x → read (encode x ++ rest) ≡ Some (x, rest)

-- a field is read, and reading goes on
pub last : {A B : Type 0} {read : List ℕ → Item A} {encode : A → List ℕ} {Fits : A → Type 0} (field : IsField A read encode Fits)
    (next : A × List ℕ → Option B) (x : A) (rest : List ℕ) (y : Option B)
    → Fits x → next (x, rest) ≡ y → (read (encode x ++ rest) >>= next) ≡ y
last {A} field next x rest y fits goes_on = ap (λ (r : Item A). r >>= next) (field.again x rest fits) ∙ goes_on

-- the same of a field that others follow
pub part : {A B : Type 0} {read : List ℕ → Item A} {encode : A → List ℕ} {Fits : A → Type 0} (field : IsField A read encode Fits)
    (next : A × List ℕ → Option B) (x : A) (more rest : List ℕ) (y : Option B)
    → Fits x → next (x, more ++ rest) ≡ y → (read ((encode x ++ more) ++ rest) >>= next) ≡ y
part {A} {B} {read} {encode} field next x more rest y fits goes_on =
    ap (λ (bytes : List ℕ). read bytes >>= next) (append_assoc (encode x) more rest)
    ∙ last field next x (more ++ rest) y fits goes_on

-- ## Numbers

abbrev pub Is2 : ℕ → Type 0
Is2 n = n < 2 ^ 16

abbrev read_as : Bool → ℕ → List ℕ → Item ℕ
read_as short n rest = cond short None (Some (n, rest))

n2_again : (n : ℕ) (rest : List ℕ) → Is2 n → n2_at (n2 n ++ rest) ≡ Some (n, rest)
unfolding n2_at
n2_again n rest fits =
    let long : ltb (length (n2 n ++ rest)) 2 ≡ false = le-ltb _ _ (omega arith) in
    ap (λ (b : Bool). read_as b (from_le_bytes w16 (take 2 (n2 n ++ rest))) (drop 2 (n2 n ++ rest))) long
    ∙ ap (λ (m : ℕ). read_as false m rest) (from_le_bytes-to_le_bytes_2 n fits)

n4_again : (n : ℕ) (rest : List ℕ) → Is4 n → n4_at (n4 n ++ rest) ≡ Some (n, rest)
unfolding n4_at
n4_again n rest fits =
    let long : ltb (length (n4 n ++ rest)) 4 ≡ false = le-ltb _ _ (omega arith) in
    ap (λ (b : Bool). read_as b (from_le_bytes w32 (take 4 (n4 n ++ rest))) (drop 4 (n4 n ++ rest))) long
    ∙ ap (λ (m : ℕ). read_as false m rest) (from_le_bytes-to_le_bytes_4 n fits)

n8_again : (n : ℕ) (rest : List ℕ) → Is8 n → n8_at (n8 n ++ rest) ≡ Some (n, rest)
unfolding n8_at
n8_again n rest fits =
    let long : ltb (length (n8 n ++ rest)) 8 ≡ false = le-ltb _ _ (omega arith) in
    ap (λ (b : Bool). read_as b (from_le_bytes w64 (take 8 (n8 n ++ rest))) (drop 8 (n8 n ++ rest))) long
    ∙ ap (λ (m : ℕ). read_as false m rest) (from_le_bytes-to_le_bytes_8 n fits)

pub an_n2 : IsField ℕ n2_at n2 Is2
an_n2 = record { again = n2_again }

pub an_n4 : IsField ℕ n4_at n4 Is4
an_n4 = record { again = n4_again }

pub an_n8 : IsField ℕ n8_at n8 Is8
an_n8 = record { again = n8_again }

-- ## Flags and options

abbrev pub IsAny : {A : Type 0} → A → Type 0
IsAny x = Unit {0}

flag_again : (b : Bool) (rest : List ℕ) → IsAny b → flag_at (flag b ++ rest) ≡ Some (b, rest)
unfolding flag_at
flag_again false rest any = refl
flag_again true rest any = refl

pub a_flag : IsField Bool flag_at flag IsAny
a_flag = record { again = flag_again }

some_again : {A : Type 0} {read : List ℕ → Item A} {encode : A → List ℕ} {Fits : A → Type 0} (field : IsField A read encode Fits)
    (x : Option A) (rest : List ℕ) → IsAbsentOr Fits x → some_at read (some encode x ++ rest) ≡ Some (x, rest)
unfolding some_at flag_at
some_again field None rest fits = refl
some_again {A} field (Some x) rest fits = last field (λ (y : A × List ℕ). Some (Some y.0, y.1)) x rest (Some (Some x, rest)) fits refl

pub maybe : {A : Type 0} {read : List ℕ → Item A} {encode : A → List ℕ} {Fits : A → Type 0} → IsField A read encode Fits
    → IsField (Option A) (some_at read) (some encode) (IsAbsentOr Fits)
maybe field = record { again = some_again field }

-- ## Lists

pub items_again : {A : Type 0} {read : List ℕ → Item A} {encode : A → List ℕ} {Fits : A → Type 0} (field : IsField A read encode Fits)
    (xs : List A) (rest : List ℕ)
    → AllByRecursion Fits xs → items_at read (length xs) (flat_map encode xs ++ rest) ≡ Some (xs, rest)
unfolding items_at
items_again field [] rest fits = refl
items_again {A} {read} {encode} field (x ∷ xs) rest fits =
    let regrouped : flat_map encode (x ∷ xs) ++ rest ≡ encode x ++ (flat_map encode xs ++ rest) =
    ap (λ (t : List ℕ). t ++ rest) (flat_map-cons encode x xs) ∙ append_assoc (encode x) (flat_map encode xs) rest in
    ap (items_at read (suc (length xs))) regrouped ∙ rw (
      field.again x (flat_map encode xs ++ rest) fits.0,
      items_again field xs rest fits.1,
    ) refl

list_of : {A : Type 0} {read : List ℕ → Item A} {encode : A → List ℕ} {Fits : A → Type 0} (field : IsField A read encode Fits)
    (xs : List A) (rest : List ℕ)
    → Is4 (length xs) → AllByRecursion Fits xs → list_at read (list encode xs ++ rest) ≡ Some (xs, rest)
unfolding list_at
list_of {A} {read} {encode} field xs rest few fits =
    ap (λ (r : Item ℕ). r >>= λ n. items_at read n.0 n.1) (n4_again (length xs) (flat_map encode xs ++ rest) few)
    ∙ items_again field xs rest fits

list_again : {A : Type 0} {read : List ℕ → Item A} {encode : A → List ℕ} {Fits : A → Type 0} (field : IsField A read encode Fits)
    (xs : List A) (rest : List ℕ) → AreItems Fits xs → list_at read (list encode xs ++ rest) ≡ Some (xs, rest)
list_again {A} {read} {encode} {Fits} field xs rest fits = list_of field xs rest fits.0 (recursion_from_All Fits xs fits.1)

pub listed : {A : Type 0} {read : List ℕ → Item A} {encode : A → List ℕ} {Fits : A → Type 0} → IsField A read encode Fits
    → IsField (List A) (list_at read) (list encode) (AreItems Fits)
listed field = record { again = list_again field }

-- ## Texts and bytes

units_low : (us : List ℕ) → AllByRecursion IsUnit us → AllByRecursion Is2 us
units_low [] fits = tt
units_low (u ∷ us) fits = (fits.0.1, units_low us fits.1)

units_none : (us : List ℕ) → AllByRecursion IsUnit us → list_any (λ u. u == 0) us ≡ false
units_none [] fits = refl
units_none (u ∷ us) fits =
    let more : 0 < u = fits.0.0 in
    or_from (u == 0) (list_any (λ v. v == 0) us) (ne_eqb u 0 (omega arith)) (units_none us fits.1)

text_again : (us rest : List ℕ) → IsText us → text_at (text us ++ rest) ≡ Some (us, rest)
unfolding text_at
text_again us rest fits =
    let units = recursion_from_All IsUnit us fits.1 in
    rw (list_of an_n2 us rest fits.0 (units_low us units), units_none us units) refl

pub a_text : IsField (List ℕ) text_at text IsText
a_text = record { again = text_again }

byte_list_again : (bytes rest : List ℕ) → IsByteList bytes → byte_list_at (byte_list bytes ++ rest) ≡ Some (bytes, rest)
unfolding byte_list_at
byte_list_again bytes rest fits =
    let long = length-append bytes rest in
    rw (
      n4_again (length bytes) (bytes ++ rest) fits,
      le-ltb (length (bytes ++ rest)) (length bytes) (omega (arith, long)),
      take_at bytes rest (length bytes) refl,
      drop_at bytes rest (length bytes) refl,
    ) refl

pub a_byte_list : IsField (List ℕ) byte_list_at byte_list IsByteList
a_byte_list = record { again = byte_list_again }

subtype_again : (id rest : List ℕ) → IsSubtype id → subtype_at (subtype id ++ rest) ≡ Some (id, rest)
unfolding subtype_at
subtype_again id rest size =
    let long = length-append id rest in
    rw (
      le-ltb (length (id ++ rest)) 16 (omega (arith, long, size)),
      take_at id rest 16 size,
      drop_at id rest 16 size,
    ) refl

pub a_subtype : IsField (List ℕ) subtype_at subtype IsSubtype
a_subtype = record { again = subtype_again }

-- ## Statuses, actions and triggers

status_again : (s : Status) (rest : List ℕ) → IsStatus s → status_at (status s ++ rest) ≡ Some (s, rest)
unfolding status_at
status_again s rest fits =
    let m6 = joined (n4 s.hint ∷ []) in
    let m5 = n4 s.checkpoint ++ m6 in
    let m4 = n4 s.specific ++ m5 in
    let m3 = n4 s.win32 ++ m4 in
    let m2 = n4 s.accepted ++ m3 in
    let m1 = n4 s.state ++ m2 in
    part an_n4 _ s.kind m1 rest _ fits.kind
    (part an_n4 _ s.state m2 rest _ fits.state
    (part an_n4 _ s.accepted m3 rest _ fits.accepted
    (part an_n4 _ s.win32 m4 rest _ fits.win32
    (part an_n4 _ s.specific m5 rest _ fits.specific
    (part an_n4 _ s.checkpoint m6 rest _ fits.checkpoint
    (part an_n4 _ s.hint [] rest _ fits.hint refl))))))

pub a_status : IsField Status status_at status IsStatus
a_status = record { again = status_again }

action_again : (a : Action) (rest : List ℕ) → IsAction a → action_at (action a ++ rest) ≡ Some (a, rest)
unfolding action_at
action_again a rest fits =
    part an_n4 _ a.what (joined (n4 a.delay ∷ [])) rest _ fits.0
    (part an_n4 _ a.delay [] rest _ fits.1 refl)

pub an_action : IsField Action action_at action IsAction
an_action = record { again = action_again }

trigger_again : (t : TriggerIn) (rest : List ℕ) → IsTrigger t → trigger_at (trigger t ++ rest) ≡ Some (t, rest)
unfolding trigger_at
trigger_again t rest fits =
    let m3 = joined (n4 t.items ∷ []) in
    let m2 = some subtype t.subtype ++ m3 in
    part an_n4 _ t.kind (n4 t.action ++ m2) rest _ fits.kind
    (part an_n4 _ t.action m2 rest _ fits.action
    (part (maybe a_subtype) _ t.subtype m3 rest _ fits.subtype
    (part an_n4 _ t.items [] rest _ fits.items refl)))

pub a_trigger : IsField TriggerIn trigger_at trigger IsTrigger
a_trigger = record { again = trigger_again }
