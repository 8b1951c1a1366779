-- A field that is read is the field that was written, and what was written is read again.
use Rattle.std.proofs.Common.{◌≡◌, ℕ, zero, suc, ◌+◌, ◌^◌, ◌<◌, ◌≤◌, Bool, true, false, cond, ltb, List, [], ◌∷◌, ◌++◌, length, get_or}
use Rattle.std.proofs.Common.{take, drop, Result, Ok, Err, refl, sym, ap, subst, ◌∙◌, append_assoc, arith, inl, inr}
use Rattle.std.specs.Int.{w32, from_le_bytes}
use Rattle.std.proofs.lemmas.Bool.{cases_lt, ltb-false, le-ltb}
use Rattle.std.proofs.lemmas.List.{take-append-drop, length-append, length-take, length-take-le, take_at, drop_at, get_or-drop, get_or-take}
use Rattle.std.proofs.lemmas.List.{get_or_past}
use Rattle.std.proofs.lemmas.Nat.{le_bytes_4, from_le_bytes-to_le_bytes_4}
use Rattle.service_record.specs.Spelling.{number, flag, FitsNumber, IsSubtype}
use Rattle.service_record.specs.Reading.{◌>>=◌, Item, take_number, take_flag, take_subtype}

abbrev pub IsBytes : List ℕ → Type 0
IsBytes bytes = (i : ℕ) → get_or bytes i 0 < 256

pub IsBytes-drop : (n : ℕ) (bytes : List ℕ) → IsBytes bytes → IsBytes (drop n bytes)
IsBytes-drop n bytes h i = rw get_or-drop (h (n + i))

pub IsBytes-take : (n : ℕ) (bytes : List ℕ) → IsBytes bytes → IsBytes (take n bytes)
IsBytes-take n bytes h i =
    elim (cases_lt i n) [
      | inl lt ↦ rw (get_or-take n bytes i 0 lt) (h i)
      | inr le ↦ rw (get_or_past (take n bytes) i 0 (omega (arith, length-take n bytes))) (omega arith)
    ]

-- the value of a step that did not fail
pub bind_ok : {A B : Type 0} (r : Result A ℕ) (f : A → Result B ℕ) (y : B) → (r >>= f) ≡ Ok y → (x : A) × (r ≡ Ok x) × (f x ≡ Ok y)
bind_ok (Ok x) f y e = (x, refl, e)
bind_ok (Err d) f y e = absurd cc

-- a test that did not fail
pub guard_ok : {A : Type 0} (b : Bool) (d : ℕ) (x y : A) → cond b (Err d) (Ok x) ≡ Ok y → (b ≡ false) × (x ≡ y)
guard_ok true d x y e = absurd cc
guard_ok false d x y e = (refl, cc)

abbrev done : {A : Type 0} → A → Result A ℕ
done x = Ok x

pub ok_is : {A : Type 0} (x y : A) → done x ≡ done y → x ≡ y
ok_is x y e = cc

-- what a reader took from the front
pub record Takes (bytes text rest : List ℕ) : Type 0 where
  pub parts : bytes ≡ text ++ rest
  pub rest_fits : IsBytes rest

pub Takes-then : (a x b y c : List ℕ) → Takes a x b → Takes b y c → Takes a (x ++ y) c
Takes-then a x b y c p q = record {
  parts = p.parts ∙ ap (λ (t : List ℕ). x ++ t) q.parts
      ∙ sym (append_assoc x y c);
  rest_fits = q.rest_fits;
}

-- a reader reads what its encoding spells, and nothing else
pub record IsField (A : Type 0) (read : List ℕ → Item A) (spell : A → List ℕ) (Fits : A → Type 0) : Type 0 where
  pub takes : (bytes : List ℕ) (x : A × List ℕ) → IsBytes bytes → read bytes ≡ Ok x → Takes bytes (spell x.0) x.1 × Fits x.0
  pub again : (a : A) (rest : List ℕ) → Fits a → read (spell a ++ rest) ≡ Ok (a, rest)

-- one field of several was read, and reading went on
pub step : {A B : Type 0} {read : List ℕ → Item A} {spell : A → List ℕ} {Fits : A → Type 0} (field : IsField A read spell Fits) (next : A
    × List ℕ → Result B ℕ) (bytes : List ℕ) (y : B)
    → IsBytes bytes → (read bytes >>= next) ≡ Ok y
    → {P : Type 0} → ((a : A) (rest : List ℕ) → Takes bytes (spell a) rest → Fits a → next (a, rest) ≡ Ok y → P) → P
step {A} {B} {read} field next bytes y fits e {P} goes_on =
    let b = bind_ok (read bytes) next y e in
    let t = field.takes bytes b.0 fits b.1 in
    goes_on b.0.0 b.0.1 t.0 t.1 b.2

-- ## Numbers

number_below : (bytes : List ℕ) → IsBytes bytes → from_le_bytes w32 bytes < 2 ^ 32
number_below bytes fits = omega (arith, fits 0, fits 1, fits 2, fits 3)

number_takes : (bytes : List ℕ) (x : ℕ × List ℕ) → IsBytes bytes → take_number bytes ≡ Ok x → Takes bytes (number x.0) x.1 × FitsNumber x.0
number_takes bytes x fits e =
    let g = guard_ok (ltb (length bytes) 4) (length bytes) (from_le_bytes w32 (take 4 bytes), drop 4 bytes) x e in
    let long : 4 ≤ length bytes = ltb-false _ _ g.0 in
    let front : number (from_le_bytes w32 (take 4 bytes)) ≡ take 4 bytes =
    le_bytes_4 (take 4 bytes) _ (omega (arith, length-take 4 bytes)) (IsBytes-take 4 bytes fits) refl in
    let parts : bytes ≡ number (from_le_bytes w32 (take 4 bytes)) ++ drop 4 bytes =
    sym (ap (λ (t : List ℕ). t ++ drop 4 bytes) front ∙ take-append-drop 4 bytes) in
    let taken : Takes bytes (number (from_le_bytes w32 (take 4 bytes))) (drop 4 bytes) =
    record { parts = parts; rest_fits = IsBytes-drop 4 bytes fits } in
    subst (λ (p : ℕ × List ℕ). Takes bytes (number p.0) p.1 × FitsNumber p.0) g.1
    (taken, number_below (take 4 bytes) (IsBytes-take 4 bytes fits))

number_again : (n : ℕ) (rest : List ℕ) → FitsNumber n → take_number (number n ++ rest) ≡ Ok (n, rest)
number_again n rest lt =
    let long : ltb (length (number n ++ rest)) 4 ≡ false = le-ltb _ _ (omega arith) in
    ap (λ (b : Bool). cond b (Err (length (number n ++ rest))) (Ok (
      from_le_bytes w32 (take 4 (number n ++ rest)),
      drop 4 (number n ++ rest),
    ))) long
    ∙ ap (λ (m : ℕ). Ok (m, rest)) (from_le_bytes-to_le_bytes_4 n lt)

pub a_number : IsField ℕ take_number number FitsNumber
a_number = record { takes = number_takes; again = number_again }

-- ## Flags

IsBytes-rest : (b : ℕ) (bytes : List ℕ) → IsBytes (b ∷ bytes) → IsBytes bytes
IsBytes-rest b bytes h i = h (suc i)

abbrev pub IsFlag : Bool → Type 0
IsFlag b = Unit {0}

flag_takes : (bytes : List ℕ) (x : Bool × List ℕ) → IsBytes bytes → take_flag bytes ≡ Ok x → Takes bytes (flag x.0) x.1 × IsFlag x.0
unfolding take_flag
flag_takes [] x fits e = absurd cc
flag_takes (zero ∷ bytes) x fits e =
    subst (λ (y : Bool × List ℕ). Takes (0 ∷ bytes) (flag y.0) y.1 × IsFlag y.0) (ok_is (false, bytes) x e)
    (record { parts = refl; rest_fits = IsBytes-rest 0 bytes fits }, tt)
flag_takes (suc zero ∷ bytes) x fits e =
    subst (λ (y : Bool × List ℕ). Takes (1 ∷ bytes) (flag y.0) y.1 × IsFlag y.0) (ok_is (true, bytes) x e)
    (record { parts = refl; rest_fits = IsBytes-rest 1 bytes fits }, tt)
flag_takes (suc (suc b) ∷ bytes) x fits e = absurd cc

flag_again : (b : Bool) (rest : List ℕ) → IsFlag b → take_flag (flag b ++ rest) ≡ Ok (b, rest)
unfolding take_flag
flag_again false rest h = refl
flag_again true rest h = refl

pub a_flag : IsField Bool take_flag flag IsFlag
a_flag = record { takes = flag_takes; again = flag_again }

-- ## Subtypes

abbrev pub as_is : List ℕ → List ℕ
as_is bytes = bytes

subtype_takes : (bytes : List ℕ) (x : List ℕ × List ℕ) → IsBytes bytes → take_subtype bytes ≡ Ok x → Takes bytes x.0 x.1 × IsSubtype x.0
subtype_takes bytes x fits e =
    let g = guard_ok (ltb (length bytes) 16) (length bytes) (take 16 bytes, drop 16 bytes) x e in
    let long : 16 ≤ length bytes = ltb-false _ _ g.0 in
    let taken : Takes bytes (take 16 bytes) (drop 16 bytes) = record {
      parts = sym (take-append-drop 16 bytes);
      rest_fits = IsBytes-drop 16 bytes fits;
    } in
    subst (λ (p : List ℕ × List ℕ). Takes bytes p.0 p.1 × IsSubtype p.0) g.1 (taken, length-take-le 16 bytes long)

subtype_again : (subtype rest : List ℕ) → IsSubtype subtype → take_subtype (subtype ++ rest) ≡ Ok (subtype, rest)
subtype_again subtype rest size =
    let long = length-append subtype rest in
    rw (
      le-ltb (length (subtype ++ rest)) 16 (omega (arith, long, size)),
      take_at subtype rest 16 size,
      drop_at subtype rest 16 size,
    ) refl

pub a_subtype : IsField (List ℕ) take_subtype as_is IsSubtype
a_subtype = record { takes = subtype_takes; again = subtype_again }
