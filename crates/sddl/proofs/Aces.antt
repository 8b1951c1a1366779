-- The text of an entry is read as the entry.
use Rattle.std.proofs.Common.{◌≡◌, ℕ, zero, suc, ◌+◌, ◌*◌, ◌^◌, ◌<◌, ◌≤◌, Bool, true, false, List, [], ◌∷◌, ◌++◌, length, take, drop, refl}
use Rattle.std.proofs.Common.{sym, ap, ◌∙◌, arith, append_assoc, length-append, None, Ok, inl, inr}
use Rattle.std.specs.Prelude.{◌==◌, All, bytes_eq, codes, nat_lt, not}
use Rattle.std.specs.Fmt.{digits}
use Rattle.std.specs.List.{AllByRecursion, flat_map, list_all}
use Rattle.std.proofs.lemmas.Bool.{and_parts, cases_Bool, lt-ltb, true≢false}
use Rattle.std.proofs.lemmas.List.Elements.{recursion_from_All}
use Rattle.sec_desc.specs.declared.value.Ace.{Ace}
use Rattle.sec_desc.specs.Writing.{IsAceValue, IsShort, IsWritableAcl, size_of_ace, size_of_aces}
use Rattle.scm_text.specs.Numbers.{has_bits}
use Rattle.sddl.specs.declared.reading.Head.{Head}
use Rattle.sddl.specs.declared.tables.Letters.{Letters}
use Rattle.sddl.specs.Laws.{HasLetters}
use Rattle.sddl.specs.Reading.{ace_at, ace_within, aces_from, begins, bits_at, bits_from, front_bit, has_byte, head_at, kind_at, list_at}
use Rattle.sddl.specs.Reading.{rights_at}
use Rattle.sddl.specs.Tables.{access_rights, ace_flags, all_rights}
use Rattle.sddl.specs.Writing.{ace_text, head_text, kind_text, letters_text, rights_text, sid_text}
use Rattle.sddl.proofs.Bits.{flags_back, rights_back}
use Rattle.sddl.proofs.Identities.{sid_there}
use Rattle.sddl.proofs.There.{after_there, hex_there, next, word_there}

-- no letters begin with a semicolon
pub no_flags : (rest : List ℕ) → front_bit ace_flags (59 ∷ rest) ≡ None
no_flags [] = refl
no_flags (b ∷ rest) = refl

pub no_rights : (rest : List ℕ) → front_bit access_rights (59 ∷ rest) ≡ None
no_rights [] = refl
no_rights (b ∷ rest) = refl

pub kind_there : (text : List ℕ) (place : ℕ) (deny : Bool) (rest : List ℕ) → drop place text ≡ kind_text deny ++ rest
    → kind_at text place ≡ Ok (deny, place + 1)
kind_there text place true rest e = rw e refl
kind_there text place false rest e = rw e refl

-- two letters, of which the first is no zero
abbrev no_zero : List ℕ → Bool
no_zero (a ∷ b ∷ []) = not (48 == a)
no_zero pair = false

-- letters don't begin as a hexadecimal number does
pair_no_hex : (pair rest : List ℕ) → no_zero pair ≡ true → bytes_eq (codes "0x") (take 2 (pair ++ rest)) ≡ false
pair_no_hex (a ∷ b ∷ []) rest h = elim (cases_Bool (48 == a)) [
  | inl is ↦ absurd (true≢false (sym (rw is at h)))
  | inr is ↦ rw is refl
]
pair_no_hex [] rest h = absurd cc
pair_no_hex (a ∷ []) rest h = absurd cc
pair_no_hex (a ∷ b ∷ c ∷ more) rest h = absurd cc

no_hex : (some : List Letters) → list_all (λ (it : Letters). no_zero it.pair) some ≡ true → (bits : ℕ) (rest : List ℕ)
    → bytes_eq (codes "0x") (take 2 (letters_text some bits ++ 59 ∷ rest)) ≡ false
unfolding letters_text
no_hex [] are bits [] = refl
no_hex [] are bits (x ∷ rest) = refl
no_hex (it ∷ some) are bits rest =
    let two = and_parts (no_zero it.pair) (list_all (λ (it : Letters). no_zero it.pair) some) are in
    elim (cases_Bool (has_bits bits it.bit)) [
      | inl has ↦ rw (has, append_assoc) (pair_no_hex it.pair (letters_text some bits ++ 59 ∷ rest) two.0)
      | inr has ↦ rw has (no_hex some two.1 bits rest)
    ]

rights_apart : list_all (λ (it : Letters). no_zero it.pair) access_rights ≡ true
rights_apart = refl

rights_there : (text : List ℕ) (place mask : ℕ) (rest : List ℕ) → mask < 2 ^ 32 → drop place text ≡ rights_text mask ++ 59 ∷ rest
    → rights_at text place ≡ Ok (mask, place + length (rights_text mask))
unfolding rights_at rights_text
rights_there text place mask rest small e = elim (cases_Bool (has_bits all_rights mask)) [
  | inl has ↦ (let at_place : drop place text ≡ letters_text access_rights mask ++ 59 ∷ rest = rw has at e in
      let plain : begins (codes "0x") text place ≡ false = rw at_place (no_hex access_rights rights_apart mask rest) in
      rw (has, plain)
      (ap (λ l. Ok (bits_from access_rights 0 place l)) at_place ∙ ap Ok (rights_back mask place (59 ∷ rest) has (no_rights rest))))
  | inr has ↦ (let at_place : drop place text ≡ codes "0x" ++ (digits 16 false mask ++ 59 ∷ rest) = rw has at e in
      let here : begins (codes "0x") text place ≡ true = rw at_place refl in
      let after = next text place (codes "0x") _ at_place in
      rw (has, here, word_there (codes "0x") text place _ at_place, hex_there text (place + 2) mask (59 ∷ rest) small refl after)
      (ap (λ m. Ok (mask, m)) (omega arith)))
]

-- the parts of a head one after the other
head_parts : (kind flags rights rest : List ℕ)
    → (codes "(" ++ kind ++ codes ";" ++ flags ++ codes ";" ++ rights ++ codes ";;;") ++ rest
    ≡ 40 ∷ (kind ++ (59 ∷ (flags ++ (59 ∷ (rights ++ (59 ∷ 59 ∷ 59 ∷ rest))))))
head_parts kind flags rights rest =
    let last = 59 ∷ 59 ∷ 59 ∷ rest in
    let front = kind ++ codes ";" in
    ap (λ l. 40 ∷ l)
    (append_assoc (front ++ flags ++ codes ";" ++ rights) (codes ";;;") rest
    ∙ append_assoc (front ++ flags ++ codes ";") rights last
    ∙ append_assoc (front ++ flags) (codes ";") (rights ++ last)
    ∙ append_assoc front flags (59 ∷ (rights ++ last))
    ∙ append_assoc kind (codes ";") (flags ++ (59 ∷ (rights ++ last))))

head_length : (kind flags rights : List ℕ)
    → length (codes "(" ++ kind ++ codes ";" ++ flags ++ codes ";" ++ rights ++ codes ";;;")
    ≡ 6 + length kind + length flags + length rights
head_length kind flags rights =
    let front = kind ++ codes ";" in
    omega (
      arith,
      length-append (front ++ flags ++ codes ";" ++ rights) (codes ";;;"),
      length-append (front ++ flags ++ codes ";") rights,
      length-append (front ++ flags) (codes ";"),
      length-append front flags,
      length-append kind (codes ";"),
    )

one_letter : (deny : Bool) → length (kind_text deny) ≡ 1
one_letter true = refl
one_letter false = refl

abbrev head_of : Ace → Head
head_of ace = record { deny = ace.deny; flags = ace.flags; mask = ace.mask }

head_there : (text : List ℕ) (place : ℕ) (ace : Ace) (rest : List ℕ) → has_bits 0xDF ace.flags ≡ true → ace.mask < 2 ^ 32
    → drop place text ≡ head_text ace ++ rest → head_at text place ≡ Ok (head_of ace, place + length (head_text ace))
unfolding head_at head_text
head_there text place ace rest has small e =
    let kind = kind_text ace.deny in
    let flags = letters_text ace_flags ace.flags in
    let rights = rights_text ace.mask in
    let at_begin = e ∙ head_parts kind flags rights rest in
    let at_kind = next text place (40 ∷ []) _ at_begin in
    let after_kind : drop (place + 1 + 1) text ≡ 59 ∷ (flags ++ (59 ∷ (rights ++ (59 ∷ 59 ∷ 59 ∷ rest)))) =
    ap (λ n. drop (place + 1 + n) text) (sym (one_letter ace.deny)) ∙ next text (place + 1) kind _ at_kind in
    let at_flags = next text (place + 1 + 1) (59 ∷ []) _ after_kind in
    let after_flags = next text (place + 1 + 1 + 1) flags _ at_flags in
    let at_rights = next text (place + 1 + 1 + 1 + length flags) (59 ∷ []) _ after_flags in
    let after_rights = next text (place + 1 + 1 + 1 + length flags + 1) rights _ at_rights in
    let read : bits_at ace_flags text (place + 1 + 1 + 1) ≡ (ace.flags, place + 1 + 1 + 1 + length flags) =
    ap (bits_from ace_flags 0 (place + 1 + 1 + 1)) at_flags ∙ flags_back ace.flags (place + 1 + 1 + 1) _ has (no_flags _) in
    rw (
      after_there text place 40 _ at_begin,
      kind_there text (place + 1) ace.deny _ at_kind,
      after_there text (place + 1 + 1) 59 _ after_kind,
      read,
      after_there text (place + 1 + 1 + 1 + length flags) 59 _ after_flags,
      rights_there text (place + 1 + 1 + 1 + length flags + 1) ace.mask _ small at_rights,
      word_there (codes ";;;") text (place + 1 + 1 + 1 + length flags + 1 + length rights) rest after_rights,
    )
    (ap (λ m. Ok (head_of ace, m)) (omega (arith, head_length kind flags rights, one_letter ace.deny)))

ace_there : (text : List ℕ) (place : ℕ) (ace : Ace) (rest : List ℕ) → IsShort ace.sid → IsAceValue ace → HasLetters ace
    → drop place text ≡ ace_text ace ++ rest → ace_at text place ≡ Ok (ace, place + length (ace_text ace))
unfolding ace_at ace_text
ace_there text place ace rest short value letters e =
    let head = head_text ace in
    let sid = sid_text ace.sid in
    let at_head : drop place text ≡ head ++ (sid ++ (41 ∷ rest)) =
    e ∙ append_assoc (head ++ sid) (codes ")") rest ∙ append_assoc head sid (41 ∷ rest) in
    let at_sid = next text place head _ at_head in
    let at_end = next text (place + length head) sid _ at_sid in
    rw (
      head_there text place ace _ letters.flags value.mask at_head,
      sid_there text (place + length head) ace.sid (41 ∷ rest) short value.sid letters.sid refl at_sid,
      after_there text (place + length head + length sid) 41 rest at_end,
    )
    (ap (λ m. Ok (ace, m)) (omega (arith, length-append (head ++ sid) (codes ")"), length-append head sid)))

begins_ace : (text : List ℕ) (place : ℕ) (ace : Ace) (rest : List ℕ)
    → drop place text ≡ ace_text ace ++ rest → has_byte 40 text place ≡ true
unfolding ace_text head_text
begins_ace text place ace rest e = rw e refl

-- entries at the end of the text, after others that take a size
aces_there : (aces : List Ace) (n size : ℕ) (text : List ℕ) (place : ℕ) → AllByRecursion (λ (ace : Ace). IsShort ace.sid) aces
    → AllByRecursion IsAceValue aces → AllByRecursion HasLetters aces → size + size_of_aces aces < 2 ^ 16 → length aces ≤ n
    → drop place text ≡ flat_map ace_text aces
    → aces_from n size text place ≡ Ok (aces, place + length (flat_map ace_text aces))
unfolding aces_from size_of_aces ace_within
aces_there [] zero size text place short values letters small le e = ap (λ m. Ok ([], m)) (omega arith)
aces_there [] (suc n) size text place short values letters small le e = rw e (ap (λ m. Ok ([], m)) (omega arith))
aces_there (ace ∷ aces) zero size text place short values letters small le e = absurd (omega (arith, le))
aces_there (ace ∷ aces) (suc n) size text place short values letters small le e =
    let word = ace_text ace in
    let others = flat_map ace_text aces in
    let fits : nat_lt (size + size_of_ace ace) (2 ^ 16) ≡ true = lt-ltb (size + size_of_ace ace) (2 ^ 16) (omega (arith, small)) in
    rw (
      begins_ace text place ace others e,
      ace_there text place ace others short.0 values.0 letters.0 e,
      fits,
      aces_there aces n (size + size_of_ace ace) text (place + length word) short.1 values.1 letters.1
          (omega (arith, small)) (omega (arith, le)) (next text place word others e),
    )
    (ap (λ m. Ok (ace ∷ aces, m)) (omega (arith, length-append word others)))

-- no entry is smaller than sixteen bytes
few : (aces : List Ace) → 16 * length aces ≤ size_of_aces aces
unfolding size_of_aces
few [] = omega arith
few (ace ∷ aces) = omega (arith, few aces)

pub list_there : (text : List ℕ) (place : ℕ) (aces : List Ace) → IsWritableAcl aces → All IsAceValue aces → All HasLetters aces
    → drop place text ≡ flat_map ace_text aces → list_at text place ≡ Ok (aces, place + length (flat_map ace_text aces))
list_there text place aces fits values letters e =
    aces_there aces 4096 8 text place (recursion_from_All (λ (ace : Ace). IsShort ace.sid) aces fits.short)
    (recursion_from_All IsAceValue aces values) (recursion_from_All HasLetters aces letters) fits.size
    (omega (arith, few aces, fits.size)) e
