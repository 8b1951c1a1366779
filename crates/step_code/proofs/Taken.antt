-- What is read of a field is what was written, each byte before the rest.
use Rattle.std.proofs.Common.{◌≡◌, ◌≢◌, ℕ, zero, suc, ◌+◌, ◌^◌, ◌<◌, ◌≤◌, Bool, true, false, cond, ltb, ◌==◌, List, [], ◌∷◌, ◌++◌, length}
use Rattle.std.proofs.Common.{get_or, take, drop, Option, None, Some, inl, inr, refl, sym, ap, subst, ◌∙◌, append_assoc, arith}
use Rattle.std.specs.Int.{w16, w32, w64, from_le_bytes}
use Rattle.std.specs.List.{flat_map, list_any, AllByRecursion}
use Rattle.std.proofs.lemmas.Bool.{cases_lt, ltb-false, or_parts, eqb-false}
use Rattle.std.proofs.lemmas.List.{take-append-drop, length-take, length-take-le, get_or-drop, get_or-take, get_or_past, append-nil}
use Rattle.std.proofs.lemmas.List.Concat.{flat_map-cons}
use Rattle.std.proofs.lemmas.List.Elements.{All-from_recursion, recursion_from_All}
use Rattle.std.proofs.lemmas.Nat.{le_bytes_2, le_bytes_4, le_bytes_8}
use Rattle.scm_model.specs.declared.flat.Action.{Action}
use Rattle.scm_model.specs.declared.flat.Status.{Status}
use Rattle.scm_model.specs.declared.calls.TriggerIn.{TriggerIn}
use Rattle.step_code.specs.Codes.{n2, n4, n8, flag, some, list, text, byte_list, subtype, joined, status, action, trigger}
use Rattle.step_code.specs.Fits.{Is4, Is8, IsUnit, IsAbsentOr, AreItems, IsText, IsByteList, IsSubtype, IsStatus, IsAction, IsTrigger}
use Rattle.step_code.specs.Reading.{◌>>=◌, Item, n2_at, n4_at, n8_at, byte_at, flag_at, some_at, items_at, list_at, text_at, byte_list_at}
use Rattle.step_code.specs.Reading.{subtype_at, status_at, action_at, trigger_at}
use Rattle.step_code.proofs.Fields.{Is2, IsAny}

abbrev pub IsBytes : List ℕ → Type 0
IsBytes bytes = (i : ℕ) → get_or bytes i 0 < 256

bytes_drop : (n : ℕ) (bytes : List ℕ) → IsBytes bytes → IsBytes (drop n bytes)
bytes_drop n bytes h i = rw get_or-drop (h (n + i))

bytes_take : (n : ℕ) (bytes : List ℕ) → IsBytes bytes → IsBytes (take n bytes)
bytes_take n bytes h i =
    elim (cases_lt i n) [
      | inl lt ↦ rw (get_or-take n bytes i 0 lt) (h i)
      | inr le ↦ rw (get_or_past (take n bytes) i 0 (omega (arith, length-take n bytes))) (omega arith)
    ]

-- the value of a step that did not fail
bind_some : {A B : Type 0} (r : Option A) (f : A → Option B) (y : B) → (r >>= f) ≡ Some y → (x : A) × (r ≡ Some x) × (f x ≡ Some y)
bind_some (Some x) f y e = (x, refl, e)
bind_some None f y e = absurd cc

-- a test that did not fail
guard_some : {A : Type 0} (b : Bool) (x y : A) → cond b None (Some x) ≡ Some y → (b ≡ false) × (x ≡ y)
guard_some true x y e = absurd cc
guard_some false x y e = (refl, cc)

abbrev done : {A : Type 0} → A → Option A
done x = Some x

pub some_is : {A : Type 0} (x y : A) → done x ≡ done y → x ≡ y
some_is x y e = cc

-- what a reader took from the front
pub record Takes (bytes code rest : List ℕ) : Type 0 where
  pub parts : bytes ≡ code ++ rest
  pub rest_fits : IsBytes rest

pub then_takes : (a x b y c : List ℕ) → Takes a x b → Takes b y c → Takes a (x ++ y) c
then_takes a x b y c p q = record {
  parts = p.parts ∙ ap (λ (t : List ℕ). x ++ t) q.parts ∙ sym (append_assoc x y c);
  rest_fits = q.rest_fits;
}

-- the last of joined fields
pub ends_taken : (a x b : List ℕ) → Takes a x b → Takes a (x ++ []) b
ends_taken a x b p = subst (λ (code : List ℕ). Takes a code b) (sym (append-nil x)) p

-- a reader reads what was written, and nothing else
pub record IsTaken (A : Type 0) (read : List ℕ → Item A) (encode : A → List ℕ) (Fits : A → Type 0) : Type 0 where
  pub takes : (bytes : List ℕ) (x : A × List ℕ) → IsBytes bytes → read bytes ≡ Some x → Takes bytes (encode x.0) x.1 × Fits x.0

-- one field of several was read, and reading went on
pub step : {A B : Type 0} {read : List ℕ → Item A} {encode : A → List ℕ} {Fits : A → Type 0} (field : IsTaken A read encode Fits)
    (next : A × List ℕ → Option B) (bytes : List ℕ) (y : B) → IsBytes bytes → (read bytes >>= next) ≡ Some y
    → {P : Type 0} → ((a : A) (rest : List ℕ) → Takes bytes (encode a) rest → Fits a → next (a, rest) ≡ Some y → P) → P
step {A} {B} {read} field next bytes y fits e {P} goes_on =
    let b = bind_some (read bytes) next y e in
    let t = field.takes bytes b.0 fits b.1 in
    goes_on b.0.0 b.0.1 t.0 t.1 b.2

-- ## Numbers

n2_takes : (bytes : List ℕ) (x : ℕ × List ℕ) → IsBytes bytes → n2_at bytes ≡ Some x → Takes bytes (n2 x.0) x.1 × Is2 x.0
unfolding n2_at
n2_takes bytes x fits e =
    let front = bytes_take 2 bytes fits in
    let g = guard_some (ltb (length bytes) 2) (from_le_bytes w16 (take 2 bytes), drop 2 bytes) x e in
    let long : 2 ≤ length bytes = ltb-false _ _ g.0 in
    let back : n2 (from_le_bytes w16 (take 2 bytes)) ≡ take 2 bytes =
    le_bytes_2 (take 2 bytes) _ (omega (arith, length-take 2 bytes)) front refl in
    let taken : Takes bytes (n2 (from_le_bytes w16 (take 2 bytes))) (drop 2 bytes) = record {
      parts = sym (ap (λ (t : List ℕ). t ++ drop 2 bytes) back ∙ take-append-drop 2 bytes);
      rest_fits = bytes_drop 2 bytes fits;
    } in
    subst (λ (p : ℕ × List ℕ). Takes bytes (n2 p.0) p.1 × Is2 p.0) g.1 (taken, omega (arith, front 0, front 1))

n4_below : (bytes : List ℕ) → IsBytes bytes → from_le_bytes w32 bytes < 2 ^ 32
n4_below bytes fits = omega (arith, fits 0, fits 1, fits 2, fits 3)

n4_takes : (bytes : List ℕ) (x : ℕ × List ℕ) → IsBytes bytes → n4_at bytes ≡ Some x → Takes bytes (n4 x.0) x.1 × Is4 x.0
unfolding n4_at
n4_takes bytes x fits e =
    let front = bytes_take 4 bytes fits in
    let g = guard_some (ltb (length bytes) 4) (from_le_bytes w32 (take 4 bytes), drop 4 bytes) x e in
    let long : 4 ≤ length bytes = ltb-false _ _ g.0 in
    let back : n4 (from_le_bytes w32 (take 4 bytes)) ≡ take 4 bytes =
    le_bytes_4 (take 4 bytes) _ (omega (arith, length-take 4 bytes)) front refl in
    let taken : Takes bytes (n4 (from_le_bytes w32 (take 4 bytes))) (drop 4 bytes) = record {
      parts = sym (ap (λ (t : List ℕ). t ++ drop 4 bytes) back ∙ take-append-drop 4 bytes);
      rest_fits = bytes_drop 4 bytes fits;
    } in
    subst (λ (p : ℕ × List ℕ). Takes bytes (n4 p.0) p.1 × Is4 p.0) g.1 (taken, n4_below (take 4 bytes) front)

n8_below : (bytes : List ℕ) → IsBytes bytes → from_le_bytes w64 bytes < 2 ^ 64
n8_below bytes fits = omega (arith, fits 0, fits 1, fits 2, fits 3, fits 4, fits 5, fits 6, fits 7)

n8_takes : (bytes : List ℕ) (x : ℕ × List ℕ) → IsBytes bytes → n8_at bytes ≡ Some x → Takes bytes (n8 x.0) x.1 × Is8 x.0
unfolding n8_at
n8_takes bytes x fits e =
    let front = bytes_take 8 bytes fits in
    let g = guard_some (ltb (length bytes) 8) (from_le_bytes w64 (take 8 bytes), drop 8 bytes) x e in
    let long : 8 ≤ length bytes = ltb-false _ _ g.0 in
    let back : n8 (from_le_bytes w64 (take 8 bytes)) ≡ take 8 bytes =
    le_bytes_8 (take 8 bytes) _ (omega (arith, length-take 8 bytes)) front refl in
    let taken : Takes bytes (n8 (from_le_bytes w64 (take 8 bytes))) (drop 8 bytes) = record {
      parts = sym (ap (λ (t : List ℕ). t ++ drop 8 bytes) back ∙ take-append-drop 8 bytes);
      rest_fits = bytes_drop 8 bytes fits;
    } in
    subst (λ (p : ℕ × List ℕ). Takes bytes (n8 p.0) p.1 × Is8 p.0) g.1 (taken, n8_below (take 8 bytes) front)

pub an_n2 : IsTaken ℕ n2_at n2 Is2
an_n2 = record { takes = n2_takes }

pub an_n4 : IsTaken ℕ n4_at n4 Is4
an_n4 = record { takes = n4_takes }

pub an_n8 : IsTaken ℕ n8_at n8 Is8
an_n8 = record { takes = n8_takes }

-- ## Bytes, flags and options

rest_bytes : (b : ℕ) (bytes : List ℕ) → IsBytes (b ∷ bytes) → IsBytes bytes
rest_bytes b bytes h i = h (suc i)

abbrev pub one : ℕ → List ℕ
one b = b ∷ []

byte_takes : (bytes : List ℕ) (x : ℕ × List ℕ) → IsBytes bytes → byte_at bytes ≡ Some x → Takes bytes (one x.0) x.1 × IsAny x.0
unfolding byte_at
byte_takes [] x fits e = absurd cc
byte_takes (b ∷ bytes) x fits e =
    subst (λ (y : ℕ × List ℕ). Takes (b ∷ bytes) (one y.0) y.1 × IsAny y.0) (some_is (b, bytes) x e)
    (record { parts = refl; rest_fits = rest_bytes b bytes fits }, tt)

pub a_byte : IsTaken ℕ byte_at one IsAny
a_byte = record { takes = byte_takes }

flag_takes : (bytes : List ℕ) (x : Bool × List ℕ) → IsBytes bytes → flag_at bytes ≡ Some x → Takes bytes (flag x.0) x.1 × IsAny x.0
unfolding flag_at
flag_takes [] x fits e = absurd cc
flag_takes (zero ∷ bytes) x fits e =
    subst (λ (y : Bool × List ℕ). Takes (0 ∷ bytes) (flag y.0) y.1 × IsAny y.0) (some_is (false, bytes) x e)
    (record { parts = refl; rest_fits = rest_bytes 0 bytes fits }, tt)
flag_takes (suc zero ∷ bytes) x fits e =
    subst (λ (y : Bool × List ℕ). Takes (1 ∷ bytes) (flag y.0) y.1 × IsAny y.0) (some_is (true, bytes) x e)
    (record { parts = refl; rest_fits = rest_bytes 1 bytes fits }, tt)
flag_takes (suc (suc b) ∷ bytes) x fits e = absurd cc

pub a_flag : IsTaken Bool flag_at flag IsAny
a_flag = record { takes = flag_takes }

module _ {A : Type 0} {read : List ℕ → Item A} {encode : A → List ℕ} {Fits : A → Type 0} (field : IsTaken A read encode Fits) where
  some_made : (present : Bool) (bytes r1 : List ℕ) (x : Option A × List ℕ) → Takes bytes (flag present) r1
      → cond present (read r1 >>= λ y. Some (Some y.0, y.1)) (Some (None, r1)) ≡ Some x
      → Takes bytes (some encode x.0) x.1 × IsAbsentOr Fits x.0
  some_made true bytes r1 x t1 e =
      step field _ r1 x t1.rest_fits e (λ a r2 t2 f2 e2.
      let made : Option A × List ℕ = (Some a, r2) in
      subst (λ (y : Option A × List ℕ). Takes bytes (some encode y.0) y.1 × IsAbsentOr Fits y.0) (some_is made x e2)
      (then_takes bytes (flag true) r1 (encode a) r2 t1 t2, f2))
  some_made false bytes r1 x t1 e =
      let made : Option A × List ℕ = (None, r1) in
      subst (λ (y : Option A × List ℕ). Takes bytes (some encode y.0) y.1 × IsAbsentOr Fits y.0) (some_is made x e) (t1, tt)

  some_takes : (bytes : List ℕ) (x : Option A × List ℕ) → IsBytes bytes → some_at read bytes ≡ Some x
      → Takes bytes (some encode x.0) x.1 × IsAbsentOr Fits x.0
  unfolding some_at
  some_takes bytes x fits e = step a_flag _ bytes x fits e (λ present r1 t1 _ e1. some_made present bytes r1 x t1 e1)

  pub maybe : IsTaken (Option A) (some_at read) (some encode) (IsAbsentOr Fits)
  maybe = record { takes = some_takes }

  -- ## Lists

  items_take : (n : ℕ) (bytes : List ℕ) (x : List A × List ℕ) → IsBytes bytes → items_at read n bytes ≡ Some x
      → Takes bytes (flat_map encode x.0) x.1 × (length x.0 ≡ n) × AllByRecursion Fits x.0
  unfolding items_at
  items_take zero bytes x fits e =
      subst (λ (y : List A × List ℕ). Takes bytes (flat_map encode y.0) y.1 × (length y.0 ≡ 0) × AllByRecursion Fits y.0)
      (some_is ([], bytes) x e) (record { parts = refl; rest_fits = fits }, refl, tt)
  items_take (suc n) bytes x fits e =
      step field _ bytes x fits e (λ a r1 t1 f1 e1.
      let b = bind_some (items_at read n r1) (λ others. Some (a ∷ others.0, others.1)) x e1 in
      let second = items_take n r1 b.0 t1.rest_fits b.1 in
      let both = then_takes bytes (encode a) r1 (flat_map encode b.0.0) b.0.1 t1 second.0 in
      let made : List A × List ℕ = (a ∷ b.0.0, b.0.1) in
      subst (λ (y : List A × List ℕ). Takes bytes (flat_map encode y.0) y.1 × (length y.0 ≡ suc n) × AllByRecursion Fits y.0)
      (some_is made x b.2) (rw flat_map-cons both, ap suc second.1, (f1, second.2)))

  list_takes : (bytes : List ℕ) (x : List A × List ℕ) → IsBytes bytes → list_at read bytes ≡ Some x
      → Takes bytes (list encode x.0) x.1 × AreItems Fits x.0
  unfolding list_at
  list_takes bytes x fits e =
      step an_n4 _ bytes x fits e (λ n r1 t1 f1 e1.
      let items = items_take n r1 x t1.rest_fits e1 in
      let both = then_takes bytes (n4 n) r1 (flat_map encode x.0) x.1 t1 items.0 in
      let whole : Takes bytes (list encode x.0) x.1 = subst (λ (k : ℕ). Takes bytes (n4 k ++ flat_map encode x.0) x.1) (sym items.1) both in
      let few : Is4 (length x.0) = omega (arith, items.1, f1) in
      (whole, (few, All-from_recursion Fits x.0 items.2)))

  pub listed : IsTaken (List A) (list_at read) (list encode) (AreItems Fits)
  listed = record { takes = list_takes }

-- ## Texts and lists of bytes

units_fit : (us : List ℕ) → list_any (λ u. u == 0) us ≡ false → AllByRecursion Is2 us → AllByRecursion IsUnit us
units_fit [] none low = tt
units_fit (u ∷ us) none low =
    let tests = or_parts (u == 0) (list_any (λ v. v == 0) us) none in
    let ne : u ≢ 0 = eqb-false u 0 tests.0 in
    ((omega arith, low.0), units_fit us tests.1 low.1)

text_takes : (bytes : List ℕ) (x : List ℕ × List ℕ) → IsBytes bytes → text_at bytes ≡ Some x → Takes bytes (text x.0) x.1 × IsText x.0
unfolding text_at
text_takes bytes x fits e = step (listed an_n2) _ bytes x fits e (λ us r1 t1 f1 e1.
    let g = guard_some (list_any (λ u. u == 0) us) (us, r1) x e1 in
    let units = units_fit us g.0 (recursion_from_All Is2 us f1.1) in
    subst (λ (p : List ℕ × List ℕ). Takes bytes (text p.0) p.1 × IsText p.0) g.1
    (t1, (f1.0, All-from_recursion IsUnit us units)))

pub a_text : IsTaken (List ℕ) text_at text IsText
a_text = record { takes = text_takes }

byte_list_made : (bytes : List ℕ) (n : ℕ) (rest : List ℕ) → Takes bytes (n4 n) rest → Is4 n → n ≤ length rest
    → Takes bytes (byte_list (take n rest)) (drop n rest) × IsByteList (take n rest)
byte_list_made bytes n rest count few long =
    let size : length (take n rest) ≡ n = length-take-le n rest long in
    let second : Takes rest (take n rest) (drop n rest) = record {
      parts = sym (take-append-drop n rest);
      rest_fits = bytes_drop n rest count.rest_fits;
    } in
    let both = then_takes bytes (n4 n) rest (take n rest) (drop n rest) count second in
    let whole : Takes bytes (byte_list (take n rest)) (drop n rest) =
    subst (λ (k : ℕ). Takes bytes (n4 k ++ take n rest) (drop n rest)) (sym size) both in
    (whole, omega (arith, size, few))

byte_list_takes : (bytes : List ℕ) (x : List ℕ × List ℕ) → IsBytes bytes → byte_list_at bytes ≡ Some x
    → Takes bytes (byte_list x.0) x.1 × IsByteList x.0
unfolding byte_list_at
byte_list_takes bytes x fits e = step an_n4 _ bytes x fits e (λ n r1 t1 f1 e1.
    let g = guard_some (ltb (length r1) n) (take n r1, drop n r1) x e1 in
    subst (λ (p : List ℕ × List ℕ). Takes bytes (byte_list p.0) p.1 × IsByteList p.0) g.1
    (byte_list_made bytes n r1 t1 f1 (ltb-false _ _ g.0)))

pub a_byte_list : IsTaken (List ℕ) byte_list_at byte_list IsByteList
a_byte_list = record { takes = byte_list_takes }

subtype_takes : (bytes : List ℕ) (x : List ℕ × List ℕ) → IsBytes bytes → subtype_at bytes ≡ Some x
    → Takes bytes (subtype x.0) x.1 × IsSubtype x.0
unfolding subtype_at
subtype_takes bytes x fits e =
    let g = guard_some (ltb (length bytes) 16) (take 16 bytes, drop 16 bytes) x e in
    let long : 16 ≤ length bytes = ltb-false _ _ g.0 in
    let taken : Takes bytes (take 16 bytes) (drop 16 bytes) = record {
      parts = sym (take-append-drop 16 bytes);
      rest_fits = bytes_drop 16 bytes fits;
    } in
    subst (λ (p : List ℕ × List ℕ). Takes bytes (subtype p.0) p.1 × IsSubtype p.0) g.1 (taken, length-take-le 16 bytes long)

pub a_subtype : IsTaken (List ℕ) subtype_at subtype IsSubtype
a_subtype = record { takes = subtype_takes }

-- ## Statuses, actions and triggers

status_takes : (bytes : List ℕ) (x : Status × List ℕ) → IsBytes bytes → status_at bytes ≡ Some x
    → Takes bytes (status x.0) x.1 × IsStatus x.0
unfolding status_at
status_takes bytes x fits e =
    step an_n4 _ bytes x fits e (λ kind r1 t1 f1 e1.
    step an_n4 _ r1 x t1.rest_fits e1 (λ state r2 t2 f2 e2.
    step an_n4 _ r2 x t2.rest_fits e2 (λ accepted r3 t3 f3 e3.
    step an_n4 _ r3 x t3.rest_fits e3 (λ win32 r4 t4 f4 e4.
    step an_n4 _ r4 x t4.rest_fits e4 (λ specific r5 t5 f5 e5.
    step an_n4 _ r5 x t5.rest_fits e5 (λ checkpoint r6 t6 f6 e6.
    step an_n4 _ r6 x t6.rest_fits e6 (λ hint r7 t7 f7 e7.
    let s : Status = record {
      kind = kind;
      state = state;
      accepted = accepted;
      win32 = win32;
      specific = specific;
      checkpoint = checkpoint;
      hint = hint;
    } in
    let m6 = joined (n4 hint ∷ []) in
    let m5 = n4 checkpoint ++ m6 in
    let m4 = n4 specific ++ m5 in
    let m3 = n4 win32 ++ m4 in
    let m2 = n4 accepted ++ m3 in
    let m1 = n4 state ++ m2 in
    let p6 = then_takes r5 (n4 checkpoint) r6 m6 r7 t6 (ends_taken r6 (n4 hint) r7 t7) in
    let p5 = then_takes r4 (n4 specific) r5 m5 r7 t5 p6 in
    let p4 = then_takes r3 (n4 win32) r4 m4 r7 t4 p5 in
    let p3 = then_takes r2 (n4 accepted) r3 m3 r7 t3 p4 in
    let p2 = then_takes r1 (n4 state) r2 m2 r7 t2 p3 in
    subst (λ (y : Status × List ℕ). Takes bytes (status y.0) y.1 × IsStatus y.0) (some_is (s, r7) x e7) (
      then_takes bytes (n4 kind) r1 m1 r7 t1 p2,
      record {
        kind = f1;
        state = f2;
        accepted = f3;
        win32 = f4;
        specific = f5;
        checkpoint = f6;
        hint = f7;
      },
    ))))))))

pub a_status : IsTaken Status status_at status IsStatus
a_status = record { takes = status_takes }

action_takes : (bytes : List ℕ) (x : Action × List ℕ) → IsBytes bytes → action_at bytes ≡ Some x
    → Takes bytes (action x.0) x.1 × IsAction x.0
unfolding action_at
action_takes bytes x fits e =
    step an_n4 _ bytes x fits e (λ what r1 t1 f1 e1.
    step an_n4 _ r1 x t1.rest_fits e1 (λ delay r2 t2 f2 e2.
    let made : Action × List ℕ = (record { what = what; delay = delay }, r2) in
    subst (λ (y : Action × List ℕ). Takes bytes (action y.0) y.1 × IsAction y.0) (some_is made x e2)
    (then_takes bytes (n4 what) r1 (n4 delay ++ []) r2 t1 (ends_taken r1 (n4 delay) r2 t2), (f1, f2))))

pub an_action : IsTaken Action action_at action IsAction
an_action = record { takes = action_takes }

trigger_takes : (bytes : List ℕ) (x : TriggerIn × List ℕ) → IsBytes bytes → trigger_at bytes ≡ Some x
    → Takes bytes (trigger x.0) x.1 × IsTrigger x.0
unfolding trigger_at
trigger_takes bytes x fits e =
    step an_n4 _ bytes x fits e (λ kind r1 t1 f1 e1.
    step an_n4 _ r1 x t1.rest_fits e1 (λ what r2 t2 f2 e2.
    step (maybe a_subtype) _ r2 x t2.rest_fits e2 (λ id r3 t3 f3 e3.
    step an_n4 _ r3 x t3.rest_fits e3 (λ items r4 t4 f4 e4.
    let t : TriggerIn = record { kind = kind; action = what; subtype = id; items = items } in
    let m3 = joined (n4 items ∷ []) in
    let m2 = some subtype id ++ m3 in
    let p3 = then_takes r2 (some subtype id) r3 m3 r4 t3 (ends_taken r3 (n4 items) r4 t4) in
    let p2 = then_takes r1 (n4 what) r2 m2 r4 t2 p3 in
    subst (λ (y : TriggerIn × List ℕ). Takes bytes (trigger y.0) y.1 × IsTrigger y.0) (some_is (t, r4) x e4) (
      then_takes bytes (n4 kind) r1 (n4 what ++ m2) r4 t1 p2,
      record { kind = f1; action = f2; subtype = f3; items = f4 },
    )))))

pub a_trigger : IsTaken TriggerIn trigger_at trigger IsTrigger
a_trigger = record { takes = trigger_takes }
