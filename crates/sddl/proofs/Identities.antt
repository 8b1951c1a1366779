-- The text of an identity is read as the identity.
use Rattle.std.proofs.Common.{◌≡◌, ℕ, zero, suc, ◌+◌, ◌/◌, ◌%◌, ◌^◌, ◌<◌, ◌≤◌, Bool, true, false, List, [], ◌∷◌, ◌++◌, length, take, drop}
use Rattle.std.proofs.Common.{get_or, refl, sym, ap, ◌∙◌, arith, append_assoc, length-append, Option, Some, None, Ok, inl, inr}
use Rattle.std.specs.Prelude.{◌==◌, ◌&&◌, not, nat_lt, bytes_eq, codes, decimal, find}
use Rattle.std.specs.Char.{digit_value}
use Rattle.std.specs.Fmt.{digit_glyph}
use Rattle.std.specs.Int.{w32, from_be_bytes, to_be_bytes}
use Rattle.std.specs.List.{AllByRecursion, flat_map, list_any}
use Rattle.std.specs.Str.Parse.{AllDigits}
use Rattle.std.proofs.lemmas.Bool.{and_parts, cases_Bool, eqb-true, lt-ltb, ltb-false, ltb-true, true≢false}
use Rattle.std.proofs.lemmas.Fmt.{decimal_is_IsNumeral}
use Rattle.std.proofs.lemmas.List.Elements.{recursion_from_All}
use Rattle.std.proofs.lemmas.Nat.{be_bytes_4}
use Rattle.std.proofs.lemmas.Slice.Eq.{bytes_eq-Decides}
use Rattle.sec_desc.specs.declared.value.Sid.{Sid}
use Rattle.sec_desc.specs.Reading.{◌>>=◌}
use Rattle.sec_desc.specs.Writing.{IsShort, IsSidValue}
use Rattle.sddl.specs.declared.tables.KnownSid.{KnownSid}
use Rattle.sddl.specs.Laws.{HasBytes}
use Rattle.sddl.specs.Reading.{authority_at, begins, fits, has_byte, is_digit, known_at, long_at, pair_at, parts_from}
use Rattle.sddl.specs.Reading.{sid_at, six_bytes_at}
use Rattle.sddl.specs.Tables.{has_letters, is_known, known_by_letters, known_by_sid, known_sids, sid_of}
use Rattle.sddl.specs.Writing.{authority_text, hex_byte, long_text, part_text, sid_text, text_by}
use Rattle.sddl.proofs.There.{byte_there, next, number_there, stops, word_there}
use Rattle.sddl.proofs.Values.{found_passes}

-- ## What comes after

-- the text after a number goes on neither with a digit nor with the letter of a hexadecimal number
abbrev pub ends_number : List ℕ → Bool
ends_number [] = true
ends_number (c ∷ rest) = not (is_digit 10 c) && not (c == 120)

-- the text after an identity doesn't go on with a hyphen either
abbrev pub ends_sid : List ℕ → Bool
ends_sid [] = true
ends_sid (c ∷ rest) = ends_number (c ∷ rest) && not (c == 45)

number_ends : (rest : List ℕ) → ends_sid rest ≡ true → ends_number rest ≡ true
number_ends [] h = refl
number_ends (c ∷ rest) h = (and_parts (not (is_digit 10 c) && not (c == 120)) (not (c == 45)) h).0

stops_there : (rest : List ℕ) → ends_number rest ≡ true → stops 10 rest ≡ true
stops_there [] h = refl
stops_there (c ∷ rest) h = (and_parts (not (is_digit 10 c)) (not (c == 120)) h).0

no_hyphen : (text : List ℕ) (place : ℕ) (rest : List ℕ) → ends_sid rest ≡ true → drop place text ≡ rest → has_byte 45 text place ≡ false
no_hyphen text place [] h e = rw e refl
no_hyphen text place (c ∷ rest) h e =
    let apart = (and_parts (not (is_digit 10 c) && not (c == 120)) (not (c == 45)) h).1 in
    rw e (elim (cases_Bool (45 == c)) [
      | inl is ↦ absurd (true≢false (sym (rw (sym (eqb-true 45 c is)) at apart)))
      | inr is ↦ rw is refl
    ])

-- after parts and what comes after an identity, a number ends
parts_end_number : (parts rest : List ℕ) → ends_sid rest ≡ true → ends_number (flat_map part_text parts ++ rest) ≡ true
parts_end_number [] rest h = number_ends rest h
parts_end_number (part ∷ parts) rest h = refl

-- ## Parts

parts_there : (parts : List ℕ) (n : ℕ) (text : List ℕ) (place : ℕ) (rest : List ℕ) → length parts ≤ n
    → AllByRecursion (λ part. part < 2 ^ 32) parts → ends_sid rest ≡ true → drop place text ≡ flat_map part_text parts ++ rest
    → parts_from n text place ≡ Ok (parts, place + length (flat_map part_text parts))
unfolding parts_from
parts_there [] zero text place rest le all h e = rw (no_hyphen text place rest h e) (ap (λ m. Ok ([], m)) (omega arith))
parts_there [] (suc n) text place rest le all h e = rw (no_hyphen text place rest h e) (ap (λ m. Ok ([], m)) (omega arith))
parts_there (part ∷ parts) zero text place rest le all h e = absurd (omega (arith, le))
parts_there (part ∷ parts) (suc n) text place rest le all h e =
    let more = flat_map part_text parts ++ rest in
    let grouped = append_assoc (decimal part) (flat_map part_text parts) rest in
    let here : drop place text ≡ 45 ∷ (decimal part ++ more) = e ∙ ap (λ l. 45 ∷ l) grouped in
    let after : drop (place + 1) text ≡ decimal part ++ more = next text place (45 ∷ []) (decimal part ++ more) here in
    let stop = stops_there more (parts_end_number parts rest h) in
    let number = number_there text (place + 1) part more all.0 stop after in
    let others = parts_there parts n text (place + 1 + length (decimal part)) rest (omega (arith, le)) all.1 h
    (next text (place + 1) (decimal part) more after) in
    rw (byte_there text place 45 (decimal part ++ more) here, number, others)
    (ap (λ m. Ok (part ∷ parts, m)) (omega (arith, length-append (decimal part) (flat_map part_text parts))))

-- ## Authorities

digit_back : (d : ℕ) → d < 16 → digit_value (digit_glyph false d) ≡ d
digit_back d small = elim (cases_Bool (nat_lt d 10)) [
  | inl is ↦ rw is (let lt = ltb-true d 10 is in grind (arith, lt))
  | inr is ↦ rw is (let le = ltb-false d 10 is in grind (arith, le))
]

pair_there : (text : List ℕ) (place byte : ℕ) (rest : List ℕ) → byte < 2 ^ 8 → drop place text ≡ hex_byte byte ++ rest
    → pair_at text place ≡ Ok (byte, place + 2)
unfolding pair_at hex_byte
pair_there text place byte rest small e =
    let high : byte / 16 < 16 = omega (arith, small) in
    let low : byte % 16 < 16 = omega arith in
    rw (e, digit_back (byte / 16) high, digit_back (byte % 16) low, lt-ltb (byte / 16) 16 high, lt-ltb (byte % 16) 16 low)
    (ap (λ b. Ok (b, place + 2)) (omega arith))

six_there : (text : List ℕ) (place a b c d e f : ℕ) (rest : List ℕ) → AllByRecursion (λ n. n < 2 ^ 8) (a ∷ b ∷ c ∷ d ∷ e ∷ f ∷ [])
    → drop place text ≡ hex_byte a ++ (hex_byte b ++ (hex_byte c ++ (hex_byte d ++ (hex_byte e ++ (hex_byte f ++ rest)))))
    → six_bytes_at text place ≡ Ok (a ∷ b ∷ c ∷ d ∷ e ∷ f ∷ [], place + 12)
unfolding six_bytes_at hex_byte
six_there text place a b c d e f rest small at_a =
    let at_b = next text place (hex_byte a) _ at_a in
    let at_c = next text (place + 2) (hex_byte b) _ at_b in
    let at_d = next text (place + 2 + 2) (hex_byte c) _ at_c in
    let at_e = next text (place + 2 + 2 + 2) (hex_byte d) _ at_d in
    let at_f = next text (place + 2 + 2 + 2 + 2) (hex_byte e) _ at_e in
    rw (
      pair_there text place a _ small.0 at_a,
      pair_there text (place + 2) b _ small.1.0 at_b,
      pair_there text (place + 2 + 2) c _ small.1.1.0 at_c,
      pair_there text (place + 2 + 2 + 2) d _ small.1.1.1.0 at_d,
      pair_there text (place + 2 + 2 + 2 + 2) e _ small.1.1.1.1.0 at_e,
      pair_there text (place + 2 + 2 + 2 + 2 + 2) f _ small.1.1.1.1.1.0 at_f,
    )
    (ap (λ m. Ok (a ∷ b ∷ c ∷ d ∷ e ∷ f ∷ [], m)) (omega arith))

-- the text of a number isn't taken for a hexadecimal one
no_x : (word rest : List ℕ) → AllDigits 10 word → 0 < length word → ends_number rest ≡ true
    → bytes_eq (codes "0x") (take 2 (word ++ rest)) ≡ false
no_x [] rest all some h = absurd (omega (arith, some))
no_x (c ∷ []) [] all some h = elim (cases_Bool (48 == c)) [ inl is ↦ rw is refl | inr is ↦ rw is refl ]
no_x (c ∷ []) (x ∷ rest) all some h =
    let apart = (and_parts (not (is_digit 10 x)) (not (x == 120)) h).1 in
    elim (cases_Bool (120 == x)) [
      | inl is ↦ absurd (true≢false (sym (rw (sym (eqb-true 120 x is)) at apart)))
      | inr is ↦ rw is (elim (cases_Bool (48 == c)) [ inl one ↦ rw one refl | inr one ↦ rw one refl ])
    ]
no_x (c ∷ x ∷ word) rest all some h =
    elim (cases_Bool (120 == x)) [
      | inl is ↦ (let lt : 33 < 10 = rw (sym (eqb-true 120 x is)) at all.1.0 in absurd (omega (arith, lt)))
      | inr is ↦ rw is (elim (cases_Bool (48 == c)) [ inl one ↦ rw one refl | inr one ↦ rw one refl ])
    ]

-- an authority in decimal
decimal_there : (text : List ℕ) (place c d e f : ℕ) (rest : List ℕ) → AllByRecursion (λ n. n < 2 ^ 8) (c ∷ d ∷ e ∷ f ∷ [])
    → ends_number rest ≡ true → drop place text ≡ decimal (from_be_bytes w32 (c ∷ d ∷ e ∷ f ∷ [])) ++ rest
    → authority_at text place
    ≡ Ok (0 ∷ 0 ∷ c ∷ d ∷ e ∷ f ∷ [], place + length (decimal (from_be_bytes w32 (c ∷ d ∷ e ∷ f ∷ []))))
unfolding authority_at
decimal_there text place c d e f rest small h at_place =
    let low = c ∷ d ∷ e ∷ f ∷ [] in
    let n = from_be_bytes w32 low in
    let below : n < 2 ^ 32 = omega (arith, small.0, small.1.0, small.1.1.0, small.1.1.1.0) in
    let is = decimal_is_IsNumeral n (omega arith) in
    let plain : begins (codes "0x") text place ≡ false = rw at_place (no_x (decimal n) rest is.0.1 is.0.0 h) in
    let back : to_be_bytes w32 n ≡ low = be_bytes_4 low n refl (at_most small) refl in
    rw (plain, number_there text place n rest below (stops_there rest h) at_place, back) refl
  where
    at_most : AllByRecursion (λ n. n < 2 ^ 8) (c ∷ d ∷ e ∷ f ∷ []) → (i : ℕ) → get_or (c ∷ d ∷ e ∷ f ∷ []) i 0 < 256
    at_most all zero = all.0
    at_most all (suc zero) = all.1.0
    at_most all (suc (suc zero)) = all.1.1.0
    at_most all (suc (suc (suc zero))) = all.1.1.1.0
    at_most all (suc (suc (suc (suc i)))) = omega arith

-- an authority in hexadecimal
six_digits : (text : List ℕ) (place a b c d e f : ℕ) (rest : List ℕ) → AllByRecursion (λ n. n < 2 ^ 8) (a ∷ b ∷ c ∷ d ∷ e ∷ f ∷ [])
    → drop place text ≡ codes "0x" ++ (flat_map hex_byte (a ∷ b ∷ c ∷ d ∷ e ∷ f ∷ []) ++ rest)
    → authority_at text place ≡ Ok (a ∷ b ∷ c ∷ d ∷ e ∷ f ∷ [], place + 14)
unfolding authority_at hex_byte
six_digits text place a b c d e f rest small at_place =
    let here : begins (codes "0x") text place ≡ true = rw at_place refl in
    let after = next text place (codes "0x") _ at_place in
    rw (here, word_there (codes "0x") text place _ at_place, six_there text (place + 2) a b c d e f rest small after)
    (ap (λ m. Ok (a ∷ b ∷ c ∷ d ∷ e ∷ f ∷ [], m)) (omega arith))

authority_there : (text : List ℕ) (place : ℕ) (bytes rest : List ℕ) → length bytes ≡ 6 → AllByRecursion (λ n. n < 2 ^ 8) bytes
    → ends_number rest ≡ true → drop place text ≡ authority_text bytes ++ rest
    → authority_at text place ≡ Ok (bytes, place + length (authority_text bytes))
unfolding authority_text hex_byte
authority_there text place (zero ∷ zero ∷ c ∷ d ∷ e ∷ f ∷ []) rest six small h at_place =
    decimal_there text place c d e f rest small.1.1 h at_place
authority_there text place (zero ∷ suc b ∷ c ∷ d ∷ e ∷ f ∷ []) rest six small h at_place =
    six_digits text place 0 (suc b) c d e f rest small at_place
authority_there text place (suc a ∷ b ∷ c ∷ d ∷ e ∷ f ∷ []) rest six small h at_place =
    six_digits text place (suc a) b c d e f rest small at_place
authority_there text place [] rest six small h at_place = absurd (omega (arith, six))
authority_there text place (a ∷ []) rest six small h at_place = absurd (omega (arith, six))
authority_there text place (a ∷ b ∷ []) rest six small h at_place = absurd (omega (arith, six))
authority_there text place (a ∷ b ∷ c ∷ []) rest six small h at_place = absurd (omega (arith, six))
authority_there text place (a ∷ b ∷ c ∷ d ∷ []) rest six small h at_place = absurd (omega (arith, six))
authority_there text place (a ∷ b ∷ c ∷ d ∷ e ∷ []) rest six small h at_place = absurd (omega (arith, six))
authority_there text place (a ∷ b ∷ c ∷ d ∷ e ∷ f ∷ g ∷ more) rest six small h at_place = absurd (omega (arith, six))

-- ## Identities

long_there : (text : List ℕ) (place : ℕ) (sid : Sid) (rest : List ℕ) → IsShort sid → IsSidValue sid → HasBytes sid
    → ends_sid rest ≡ true → drop place text ≡ long_text sid ++ rest → sid_at text place ≡ Ok (sid, place + length (long_text sid))
unfolding sid_at long_at long_text
long_there text place sid rest short value bytes h at_place =
    let word = codes "S-1-" in
    let authority = authority_text sid.authority in
    let parts = flat_map part_text sid.parts in
    let whole : drop place text ≡ word ++ (authority ++ (parts ++ rest)) =
    at_place ∙ ap (λ l. word ++ l) (append_assoc authority parts rest) in
    let here : begins word text place ≡ true = rw whole refl in
    let at_authority = next text place word _ whole in
    let at_parts = next text (place + 4) authority _ at_authority in
    rw (
      here,
      word_there word text place _ whole,
      authority_there text (place + 4) sid.authority (parts ++ rest) value.authority
          (recursion_from_All (λ n. n < 2 ^ 8) sid.authority bytes) (parts_end_number sid.parts rest h) at_authority,
      parts_there sid.parts 15 text (place + 4 + length authority) rest short
          (recursion_from_All (λ n. n < 2 ^ 32) sid.parts value.parts) h at_parts,
    )
    (ap (λ m. Ok (sid, m)) (omega (arith, length-append authority parts)))

-- ## Letters

-- two letters, of which the second is no hyphen
abbrev is_pair : List ℕ → Bool
is_pair (a ∷ b ∷ []) = not (45 == b)
is_pair pair = false

abbrev no_such : List ℕ → List KnownSid → Bool
no_such pair table = not (list_any (has_letters pair) table)

-- no letters stand twice
abbrev are_apart : List KnownSid → Bool
are_apart [] = true
are_apart (it ∷ table) = no_such it.letters table && are_apart table

-- what is found is there
any_found : {A : Type 0} (p q : A → Bool) (xs : List A) (x : A) → find p xs ≡ Some x → q x ≡ true → list_any q xs ≡ true
any_found p q [] x e is = absurd cc
any_found p q (y ∷ ys) x e is = elim (cases_Bool (p y)) [
  | inl here ↦ (let f : Some y ≡ Some x = rw here at e in
      let same : y ≡ x = cc in
      rw (same, is) refl)
  | inr other ↦ (let rest = any_found p q ys x (rw other at e) is in
      elim (cases_Bool (q y)) [ inl one ↦ rw one refl | inr one ↦ rw (one, rest) refl ])
]

-- an identity's letters are found under these
letters_found : (p : KnownSid → Bool) (table : List KnownSid) (it : KnownSid) → are_apart table ≡ true → find p table ≡ Some it
    → find (has_letters it.letters) table ≡ Some it
letters_found p [] it apart e = absurd cc
letters_found p (other ∷ table) it apart e =
    let two = and_parts (no_such other.letters table) (are_apart table) apart in
    elim (cases_Bool (p other)) [
      | inl here ↦ (let f : Some other ≡ Some it = rw here at e in
          let same : other ≡ it = cc in
          rw (sym same, (bytes_eq-Decides other.letters other.letters).1 refl) refl)
      | inr isnt ↦ (let f : find p table ≡ Some it = rw isnt at e in
          elim (cases_Bool (has_letters it.letters other)) [
            | inl has ↦ absurd (
                let same : other.letters ≡ it.letters = (bytes_eq-Decides other.letters it.letters).0 has in
                let again = any_found p (has_letters other.letters) table it f ((bytes_eq-Decides it.letters other.letters).1 (sym same)) in
                true≢false (sym (rw again at two.0)))
            | inr has ↦ rw has (letters_found p table it two.1 f)
          ])
    ]

not_true : (x : Bool) → not x ≡ true → x ≡ false
not_true true h = absurd (true≢false (sym h))
not_true false h = refl

letters_begin : (text : List ℕ) (place : ℕ) (pair rest : List ℕ) → is_pair pair ≡ true → drop place text ≡ pair ++ rest
    → (begins (codes "S-1-") text place ≡ false) × (take 2 (drop place text) ≡ pair) × (length pair ≡ 2)
letters_begin text place (a ∷ b ∷ []) rest is e =
    let apart : (45 == b) ≡ false = not_true (45 == b) is in (
      rw (e, apart) (elim (cases_Bool (83 == a)) [ inl one ↦ rw one refl | inr one ↦ rw one refl ]),
      ap (take 2) e,
      refl,
    )
letters_begin text place [] rest is e = absurd cc
letters_begin text place (a ∷ []) rest is e = absurd cc
letters_begin text place (a ∷ b ∷ c ∷ more) rest is e = absurd cc

abbrev sid_with : List ℕ → List ℕ → Sid
sid_with authority parts = record { authority = authority; parts = parts }

-- the letters of an identity stand for it
sid_is : (sid : Sid) (it : KnownSid) → is_known sid it ≡ true → sid_of it ≡ sid
sid_is sid it is =
    let two = and_parts (bytes_eq sid.authority (sid_of it).authority) (bytes_eq sid.parts (sid_of it).parts) is in
    let authority : (sid_of it).authority ≡ sid.authority = sym ((bytes_eq-Decides sid.authority (sid_of it).authority).0 two.0) in
    let parts : (sid_of it).parts ≡ sid.parts = sym ((bytes_eq-Decides sid.parts (sid_of it).parts).0 two.1) in
    ap (λ l. sid_with l (sid_of it).parts) authority ∙ ap (sid_with sid.authority) parts

found_has : {A : Type 0} (p : A → Bool) (xs : List A) (x : A) → find p xs ≡ Some x → p x ≡ true
found_has p [] x e = absurd cc
found_has p (y ∷ ys) x e = elim (cases_Bool (p y)) [
  | inl is ↦ (let f : Some y ≡ Some x = rw is at e in
      let same : y ≡ x = cc in
      rw (sym same) is)
  | inr is ↦ found_has p ys x (rw is at e)
]

letters_there : (text : List ℕ) (place : ℕ) (sid : Sid) (it : KnownSid) (rest : List ℕ) → known_by_sid sid ≡ Some it
    → drop place text ≡ it.letters ++ rest → sid_at text place ≡ Ok (sid, place + length it.letters)
unfolding sid_at known_at
letters_there text place sid it rest e at_place =
    let pairs = found_passes (λ (it : KnownSid). is_pair it.letters) (is_known sid) known_sids it refl e in
    let pair = letters_begin text place it.letters rest pairs at_place in
    let found : known_by_letters (take 2 (drop place text)) ≡ Some it =
    ap known_by_letters pair.1 ∙ letters_found (is_known sid) known_sids it refl e in
    rw pair.0
    (ap (λ (o : Option KnownSid). fits place o >>= λ (k : KnownSid). Ok (sid_of k, place + 2)) found
    ∙ (ap (λ (s : Sid). Ok (s, place + 2)) (sid_is sid it (found_has (is_known sid) known_sids it e))
    ∙ ap (λ n. Ok (sid, place + n)) (sym pair.2)))

pub sid_there : (text : List ℕ) (place : ℕ) (sid : Sid) (rest : List ℕ) → IsShort sid → IsSidValue sid → HasBytes sid
    → ends_sid rest ≡ true → drop place text ≡ sid_text sid ++ rest → sid_at text place ≡ Ok (sid, place + length (sid_text sid))
unfolding sid_text
sid_there text place sid rest short value bytes h at_place = by_letters (known_by_sid sid) refl at_place
  where
    by_letters : (found : Option KnownSid) → known_by_sid sid ≡ found → drop place text ≡ text_by found sid ++ rest
        → sid_at text place ≡ Ok (sid, place + length (text_by found sid))
    by_letters None e here = long_there text place sid rest short value bytes h here
    by_letters (Some it) e here = letters_there text place sid it rest e here
