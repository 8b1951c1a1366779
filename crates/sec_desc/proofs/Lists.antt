-- Lists are read exactly where their bytes stand.
use Rattle.std.proofs.Common.{◌≡◌, ◌⊎◌, ℕ, zero, suc, ◌+◌, ◌-◌, ◌^◌, ◌<◌, ◌≤◌, Bool, true, false, cond, List, [], ◌∷◌, ◌++◌, length, take}
use Rattle.std.proofs.Common.{drop, Result, Ok, Err, refl, sym, ap, subst, ◌∙◌, append_assoc, length-append, arith, inl, inr}
use Rattle.std.specs.Prelude.{◌==◌, ◌&&◌, ◌||◌, nat_le, slice_index}
use Rattle.std.proofs.lemmas.Bool.{cases_Bool, leb-true, le-leb, eqb-true}
use Rattle.std.proofs.lemmas.List.{drop_at, take_at, take-append-drop, drop-drop, length-drop, length-take-le}
use Rattle.std.proofs.lemmas.Nat.{from_le_bytes-to_le_bytes_2}
use Rattle.std.proofs.Math.Seq.{take-add}
use Rattle.sec_desc.specs.declared.value.Ace.{Ace}
use Rattle.sec_desc.specs.Numbers.{bytes_16, number_16}
use Rattle.sec_desc.specs.Layout.{ace_of, ace_size, acl_count, acl_size, is_ace, is_acl}
use Rattle.sec_desc.specs.Reading.{◌>>=◌, ace_in, aces_in, acl_in}
use Rattle.sec_desc.specs.Described.{AreAces, BeginsAce, BeginsAcl}
use Rattle.sec_desc.proofs.Bytes.{IsBytes, bytes_drop, bytes_take, read_16, small_16}
use Rattle.sec_desc.proofs.Aces.{ace_again, ace_read, ace_test}
use Rattle.sec_desc.proofs.Tests.{four_parts, from_four}

-- ## Entries

-- the value of a step that did not fail
pub bind_ok : {A B : Type 0} (r : Result A ℕ) (f : A → Result B ℕ) (y : B) → (r >>= f) ≡ Ok y → (x : A) × (r ≡ Ok x) × (f x ≡ Ok y)
bind_ok (Ok x) f y e = (x, refl, e)
bind_ok (Err place) f y e = absurd cc

-- a test that was passed
pub passed : {A : Type 0} (b : Bool) (place : ℕ) (r : Result A ℕ) (y : A) → cond b r (Err place) ≡ Ok y → (b ≡ true) × (r ≡ Ok y)
passed true place r y e = (refl, e)
passed false place r y e = absurd cc

abbrev pub done : {A : Type 0} → A → Result A ℕ
done x = Ok x

pub ok_is : {A : Type 0} (x y : A) → done x ≡ done y → x ≡ y
ok_is x y e = cc

-- one entry
pub ace_in_read : (place : ℕ) (bytes : List ℕ) (ace : Ace) (size : ℕ) → IsBytes bytes → ace_in place bytes ≡ Ok (ace, size)
    → BeginsAce bytes ace size
unfolding ace_in
ace_in_read place bytes ace size fits e =
    let is = passed (is_ace bytes) place (Ok (ace_of bytes, ace_size bytes)) (ace, size) e in
    let pair : (ace_of bytes, ace_size bytes) ≡ (ace, size) = ok_is (ace_of bytes, ace_size bytes) (ace, size) is.1 in
    let found : BeginsAce bytes (ace_of bytes) (ace_size bytes) = record {
      entry = take (ace_size bytes) bytes;
      bytes_are = record { rest = drop (ace_size bytes) bytes; parts = sym (take-append-drop (ace_size bytes) bytes) };
      size_is = length-take-le (ace_size bytes) bytes (ace_test bytes is.0).whole;
      is = ace_read bytes fits is.0;
    } in
    subst (λ (x : Ace × ℕ). BeginsAce bytes x.0 x.1) pair found

pub ace_in_again : (place : ℕ) (bytes : List ℕ) (ace : Ace) (size : ℕ) → BeginsAce bytes ace size → ace_in place bytes ≡ Ok (ace, size)
unfolding ace_in
ace_in_again place bytes ace size h =
    let again = ace_again bytes h.entry h.bytes_are.rest ace h.bytes_are.parts h.is in
    rw (again.is, again.value, again.size, h.size_is) refl

pub record AcesFound (n : ℕ) (bytes : List ℕ) (aces : List Ace) : Type 0 where
  pub are : AreAces bytes aces
  pub count : length aces ≡ n

pub aces_read : (n place : ℕ) (bytes : List ℕ) (aces : List Ace) → IsBytes bytes → aces_in n place bytes ≡ Ok aces → AcesFound n bytes aces
unfolding aces_in ace_in AreAces
aces_read zero place bytes aces fits e = subst (λ (l : List Ace). AcesFound 0 bytes l) (ok_is [] aces e) (record { are = tt; count = refl })
aces_read (suc n) place bytes aces fits e =
    let first = bind_ok (ace_in place bytes) (λ x. aces_in n (place + x.1) (drop x.1 bytes) >>= λ others. Ok (x.0 ∷ others)) aces e in
    let is = passed (is_ace bytes) place (Ok (ace_of bytes, ace_size bytes)) first.0 first.1 in
    let pair : (ace_of bytes, ace_size bytes) ≡ first.0 = ok_is (ace_of bytes, ace_size bytes) first.0 is.1 in
    let size = ace_size bytes in
    let more : (aces_in n (place + size) (drop size bytes) >>= λ others. Ok (ace_of bytes ∷ others)) ≡ Ok aces =
    subst (λ (x : Ace × ℕ). (aces_in n (place + x.1) (drop x.1 bytes) >>= λ others. Ok (x.0 ∷ others)) ≡ Ok aces) (sym pair) first.2 in
    let rest = bind_ok (aces_in n (place + size) (drop size bytes)) (λ others. Ok (ace_of bytes ∷ others)) aces more in
    let found = aces_read n (place + size) (drop size bytes) rest.0 (bytes_drop size bytes fits) rest.1 in
    subst (λ (l : List Ace). AcesFound (suc n) bytes l) (ok_is (ace_of bytes ∷ rest.0) aces rest.2) (record {
      are = (take size bytes, drop size bytes, sym (take-append-drop size bytes), ace_read bytes fits is.0, found.are);
      count = ap suc found.count;
    })

pub aces_again : (place : ℕ) (bytes : List ℕ) (aces : List Ace) → AreAces bytes aces → aces_in (length aces) place bytes ≡ Ok aces
unfolding aces_in ace_in AreAces
aces_again place bytes [] h = refl
aces_again place bytes (ace ∷ aces) h =
    let entry = h.0 in
    let rest = h.1 in
    let again = ace_again bytes entry rest ace h.2 h.3 in
    let behind : drop (length entry) bytes ≡ rest = ap (drop (length entry)) h.2 ∙ drop_at entry rest (length entry) refl in
    let others : aces_in (length aces) (place + length entry) (drop (length entry) bytes) ≡ Ok aces =
    ap (aces_in (length aces) (place + length entry)) behind ∙ aces_again (place + length entry) rest aces h.4 in
    rw (again.is, again.size, again.value, others) refl

-- ## One list

-- what the test says
pub record AclTest (bytes : List ℕ) : Type 0 where
  pub long : 8 ≤ length bytes
  pub revision : (slice_index bytes 0 ≡ 2) ⊎ (slice_index bytes 0 ≡ 4)
  pub room : 8 ≤ acl_size bytes
  pub whole : acl_size bytes ≤ length bytes

one_of : (n : ℕ) → (n == 2 || n == 4) ≡ true → (n ≡ 2) ⊎ (n ≡ 4)
one_of n e = elim (cases_Bool (n == 2)) [
  | inl two ↦ inl (eqb-true n 2 two)
  | inr other ↦ inr (eqb-true n 4 (rw other at e))
]

is_one : (n : ℕ) → (n ≡ 2) ⊎ (n ≡ 4) → (n == 2 || n == 4) ≡ true
is_one n (inl e) = rw e refl
is_one n (inr e) = rw e refl

pub acl_test : (bytes : List ℕ) → is_acl bytes ≡ true → AclTest bytes
acl_test bytes e =
    let parts =
    four_parts (nat_le 8 (length bytes)) (slice_index bytes 0 == 2 || slice_index bytes 0 == 4) (nat_le 8 (acl_size bytes))
    (nat_le (acl_size bytes) (length bytes)) e in
    record {
      long = leb-true 8 (length bytes) parts.0;
      revision = one_of (slice_index bytes 0) parts.1;
      room = leb-true 8 (acl_size bytes) parts.2;
      whole = leb-true (acl_size bytes) (length bytes) parts.3;
    }

pub acl_tested : (bytes : List ℕ) → AclTest bytes → is_acl bytes ≡ true
acl_tested bytes t =
    from_four _ _ _ _ (le-leb 8 (length bytes) t.long) (is_one (slice_index bytes 0) t.revision) (le-leb 8 (acl_size bytes) t.room)
    (le-leb (acl_size bytes) (length bytes) t.whole)

-- the list's bytes, part by part
acl_parts : (first second : ℕ) (tail : List ℕ) → IsBytes tail → 6 ≤ length tail → 8 ≤ number_16 tail
    → take (number_16 tail) (first ∷ second ∷ tail)
    ≡ first ∷ second ∷ bytes_16 (number_16 tail) ++ bytes_16 (number_16 (drop 2 tail)) ++ take 2 (drop 4 tail) ++ take
    (number_16 tail - 8) (drop 6 tail)
acl_parts first second tail fits long room =
    let size = number_16 tail in
    let whole : size ≡ 8 + (size - 8) = omega arith in
    let cut : take (8 + (size - 8)) (first ∷ second ∷ tail) ≡ first ∷ second ∷ take 6 tail ++ take (size - 8) (drop 6 tail) =
    take-add 8 (size - 8) (first ∷ second ∷ tail) in
    let front : take 6 tail ≡ take 2 tail ++ take 4 (drop 2 tail) = take-add 2 4 tail in
    let middle : take 4 (drop 2 tail) ≡ take 2 (drop 2 tail) ++ take 2 (drop 2 (drop 2 tail)) = take-add 2 2 (drop 2 tail) in
    let last : drop 2 (drop 2 tail) ≡ drop 4 tail = drop-drop 2 2 tail in
    let size_is : bytes_16 size ≡ take 2 tail = read_16 tail fits (omega arith) in
    let count_is : bytes_16 (number_16 (drop 2 tail)) ≡ take 2 (drop 2 tail) =
    read_16 (drop 2 tail) (bytes_drop 2 tail fits) (omega (arith, length-drop 2 tail)) in
    let six : take 6 tail ≡ take 2 tail ++ take 2 (drop 2 tail) ++ take 2 (drop 4 tail) =
    front ∙ ap (λ (l : List ℕ). take 2 tail ++ l) (middle ∙ ap (λ (l : List ℕ). take 2 (drop 2 tail) ++ take 2 l) last)
    ∙ sym (append_assoc (take 2 tail) (take 2 (drop 2 tail)) (take 2 (drop 4 tail))) in
    let named : take 6 tail ≡ bytes_16 size ++ bytes_16 (number_16 (drop 2 tail)) ++ take 2 (drop 4 tail) = rw (size_is, count_is) six in
    ap (λ n. take n (first ∷ second ∷ tail)) whole ∙ cut ∙ ap (λ (l : List ℕ). first ∷ second ∷ l ++ take (size - 8) (drop 6 tail)) named

acl_found : (first second place : ℕ) (tail : List ℕ) (aces : List Ace) → IsBytes (first ∷ second ∷ tail)
    → acl_in place (first ∷ second ∷ tail) ≡ Ok aces → BeginsAcl (first ∷ second ∷ tail) aces
acl_found first second place tail aces fits e =
    let bytes = first ∷ second ∷ tail in
    let size = number_16 tail in
    let list = take size bytes in
    let body = take (size - 8) (drop 6 tail) in
    let unread = take 2 (drop 4 tail) in
    let count = number_16 (drop 2 tail) in
    let tail_fits : IsBytes tail = bytes_drop 2 bytes fits in
    let p = passed (is_acl bytes) place (aces_in count (place + 8) body) aces e in
    let t = acl_test bytes p.0 in
    let found = aces_read count (place + 8) body aces (bytes_take (size - 8) (drop 6 tail) (bytes_drop 6 tail tail_fits)) p.1 in
    let long : length list ≡ size = length-take-le size bytes t.whole in
    let parts = acl_parts first second tail tail_fits (omega (arith, t.long)) t.room in
    record {
      list = list;
      bytes_are = record { rest = drop size bytes; parts = sym (take-append-drop size bytes) };
      is = record {
        revision = first;
        is_revision = t.revision;
        unread = second;
        unread_too = unread;
        two = length-take-le 2 (drop 4 tail) (omega (arith, length-drop 4 tail, t.long));
        body = body;
        parts = parts ∙ ap (λ n. first ∷ second ∷ bytes_16 n ++ bytes_16 count ++ unread ++ body) (sym long)
            ∙ ap (λ n. first ∷ second ∷ bytes_16 (length list) ++ bytes_16 n ++ unread ++ body) (sym found.count);
        size = omega (arith, long, small_16 tail tail_fits);
        count = omega (arith, found.count, small_16 (drop 2 tail) (bytes_drop 2 tail tail_fits));
        entries = found.are;
      };
    }

pub acl_read : (place : ℕ) (bytes : List ℕ) (aces : List Ace) → IsBytes bytes → acl_in place bytes ≡ Ok aces → BeginsAcl bytes aces
acl_read place [] aces fits e = absurd cc
acl_read place (first ∷ []) aces fits e = absurd cc
acl_read place (first ∷ second ∷ tail) aces fits e = acl_found first second place tail aces fits e

-- a list that stands there is read
module _ (revision unread n c : ℕ) (two y : List ℕ) (n_small : n < 2 ^ 16) (c_small : c < 2 ^ 16) (are_two : length two ≡ 2) where
  abbrev made : List ℕ
  made = revision ∷ unread ∷ bytes_16 n ++ (bytes_16 c ++ (two ++ y))

  size_made : acl_size made ≡ n
  unfolding bytes_16 number_16
  size_made = from_le_bytes-to_le_bytes_2 n n_small

  count_made : acl_count made ≡ c
  unfolding bytes_16 number_16
  count_made = from_le_bytes-to_le_bytes_2 c c_small

  body_made : drop 8 made ≡ y
  unfolding bytes_16
  body_made = drop_at two y 2 are_two

  length_made : length made ≡ 8 + length y
  unfolding bytes_16
  length_made = omega (arith, length-append two y, are_two)

  revision_made : slice_index made 0 ≡ revision
  revision_made = refl

front_length : (revision unread n c : ℕ) → length (revision ∷ unread ∷ bytes_16 n ++ bytes_16 c) ≡ 6
unfolding bytes_16
front_length revision unread n c = refl

pub acl_again : (place : ℕ) (bytes : List ℕ) (aces : List Ace) → BeginsAcl bytes aces → acl_in place bytes ≡ Ok aces
acl_again place bytes aces h =
    let l = h.is in
    let n = length h.list in
    let c = length aces in
    let rest = h.bytes_are.rest in
    let front = l.revision ∷ l.unread ∷ bytes_16 n ++ bytes_16 c in
    let y = l.body ++ rest in
    let whole : bytes ≡ made l.revision l.unread n c l.unread_too y l.size l.count l.two =
    h.bytes_are.parts ∙ ap (λ (x : List ℕ). x ++ rest) l.parts ∙ append_assoc (front ++ l.unread_too) l.body rest
    ∙ append_assoc front l.unread_too y
    ∙ append_assoc (l.revision ∷ l.unread ∷ bytes_16 n) (bytes_16 c) (l.unread_too ++ y) in
    let long : n ≡ 8 + length l.body =
    omega (
      arith,
      ap length l.parts,
      length-append (front ++ l.unread_too) l.body,
      length-append front l.unread_too,
      front_length l.revision l.unread n c,
      l.two,
    ) in
    let size : acl_size bytes ≡ n = ap acl_size whole ∙ size_made l.revision l.unread n c l.unread_too y l.size l.count l.two in
    let count : acl_count bytes ≡ c = ap acl_count whole ∙ count_made l.revision l.unread n c l.unread_too y l.size l.count l.two in
    let behind : drop 8 bytes ≡ y = ap (drop 8) whole ∙ body_made l.revision l.unread n c l.unread_too y l.size l.count l.two in
    let body : take (n - 8) y ≡ l.body = take_at l.body rest (n - 8) (omega (arith, long)) in
    let bytes_long : length bytes ≡ 8 + length y =
    ap length whole ∙ length_made l.revision l.unread n c l.unread_too y l.size l.count l.two in
    let first : slice_index bytes 0 ≡ l.revision = ap (λ (x : List ℕ). slice_index x 0) whole in
    let is : is_acl bytes ≡ true = acl_tested bytes (record {
      long = omega (arith, bytes_long);
      revision = subst (λ r. (r ≡ 2) ⊎ (r ≡ 4)) (sym first) l.is_revision;
      room = omega (arith, size, long);
      whole = omega (arith, size, long, bytes_long, length-append l.body rest);
    }) in
    rw (is, count, size, behind, body) (aces_again (place + 8) l.body aces l.entries)
