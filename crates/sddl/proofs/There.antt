-- What stands at a place is read there.
use Rattle.std.proofs.Common.{◌≡◌, ℕ, zero, suc, ◌+◌, ◌/◌, ◌%◌, ◌^◌, ◌<◌, ◌≤◌, Bool, true, false, cond, List, [], ◌∷◌, ◌++◌, length, drop}
use Rattle.std.proofs.Common.{refl, sym, ap, ◌∙◌, arith, Ok, inl, inr}
use Rattle.std.specs.Prelude.{◌==◌, not, decimal}
use Rattle.std.specs.Char.{digit_value}
use Rattle.std.specs.Fmt.{digits, digits_onto, digit_glyph}
use Rattle.std.specs.List.{take_while}
use Rattle.std.specs.Str.Parse.{AllDigits}
use Rattle.std.proofs.lemmas.Bool.{cases_Bool, le-leb, lt-ltb, true≢false}
use Rattle.std.proofs.lemmas.Fmt.{decimal_is_IsNumeral, digits_is_IsNumeral}
use Rattle.std.proofs.lemmas.List.{drop_at, drop-drop}
use Rattle.std.proofs.lemmas.List.Sums.{take_while-cons}
use Rattle.std.proofs.lemmas.Slice.Eq.{bytes_eq-Decides}
use Rattle.decimal_words.specs.Numbers.{number_below}
use Rattle.decimal_words.proofs.Numbers.{number_is}
use Rattle.sddl.specs.Reading.{after_byte, after_bytes, digits_at, has_byte, hex_at, hex_number, is_digit, number_at}

-- ## Bytes

pub next : (text : List ℕ) (place : ℕ) (word rest : List ℕ) → drop place text ≡ word ++ rest → drop (place + length word) text ≡ rest
next text place word rest h = sym (drop-drop (length word) place text) ∙ ap (drop (length word)) h ∙ drop_at word rest (length word) refl

pub byte_there : (text : List ℕ) (place byte : ℕ) (rest : List ℕ) → drop place text ≡ byte ∷ rest → has_byte byte text place ≡ true
byte_there text place byte rest h = rw h ((bytes_eq-Decides (byte ∷ []) (byte ∷ [])).1 refl)

pub after_there : (text : List ℕ) (place byte : ℕ) (rest : List ℕ) → drop place text ≡ byte ∷ rest
    → after_byte byte text place ≡ Ok (place + 1)
after_there text place byte rest h = rw (byte_there text place byte rest h) refl

pub word_there : (word text : List ℕ) (place : ℕ) (rest : List ℕ) → drop place text ≡ word ++ rest
    → after_bytes word text place ≡ Ok (place + length word)
unfolding after_bytes
word_there [] text place rest h = ap Ok (omega arith)
word_there (byte ∷ word) text place rest h =
    rw (after_there text place byte (word ++ rest) h)
    (word_there word text (place + 1) rest (next text place (byte ∷ []) (word ++ rest) h) ∙ ap Ok (omega arith))

-- ## Digits

-- the text after a number doesn't go on with a digit
abbrev pub stops : ℕ → List ℕ → Bool
stops radix [] = true
stops radix (c ∷ rest) = not (is_digit radix c)

stopped : (radix : ℕ) (rest : List ℕ) → stops radix rest ≡ true → take_while (is_digit radix) rest ≡ []
stopped radix [] h = refl
stopped radix (c ∷ rest) h = elim (cases_Bool (is_digit radix c)) [
  | inl is ↦ absurd (true≢false (sym (rw is at h)))
  | inr is ↦ take_while-cons (is_digit radix) c rest ∙ ap (λ b. cond b (c ∷ take_while (is_digit radix) rest) []) is
]

pub digits_taken : (radix : ℕ) (word rest : List ℕ) → AllDigits radix word → stops radix rest ≡ true
    → take_while (is_digit radix) (word ++ rest) ≡ word
digits_taken radix [] rest all h = stopped radix rest h
digits_taken radix (c ∷ word) rest all h =
    take_while-cons (is_digit radix) c (word ++ rest)
    ∙ ap (λ b. cond b (c ∷ take_while (is_digit radix) (word ++ rest)) []) (lt-ltb (digit_value c) radix all.0)
    ∙ ap (λ l. c ∷ l) (digits_taken radix word rest all.1 h)

pub digits_there : (radix : ℕ) (text : List ℕ) (place : ℕ) (word rest : List ℕ) → AllDigits radix word → stops radix rest ≡ true
    → drop place text ≡ word ++ rest → digits_at radix text place ≡ word
unfolding digits_at
digits_there radix text place word rest all h e = ap (take_while (is_digit radix)) e ∙ digits_taken radix word rest all h

pub number_there : (text : List ℕ) (place n : ℕ) (rest : List ℕ) → n < 2 ^ 32 → stops 10 rest ≡ true → drop place text ≡ decimal n ++ rest
    → number_at text place ≡ Ok (n, place + length (decimal n))
unfolding number_at number_below
number_there text place n rest small h e =
    let is = decimal_is_IsNumeral n (omega arith) in
    rw (digits_there 10 text place (decimal n) rest is.0.1 h e, number_is (decimal n) n (omega arith) refl, lt-ltb n (2 ^ 32) small) refl

-- how many digits a number has
length_hex : (k d n : ℕ) (acc : List ℕ) → n < 16 ^ (suc d) → length (digits_onto k 16 false n acc) ≤ suc d + length acc
length_hex zero d n acc small = omega arith
length_hex (suc k) zero n acc small =
    let none : n / 16 ≡ 0 = omega arith in
    rw none (omega arith)
length_hex (suc k) (suc d) n acc small = elim (cases_Bool (n / 16 == 0)) [
  | inl is ↦ rw is (omega arith)
  | inr is ↦ rw is (let more = length_hex k d (n / 16) (digit_glyph false (n % 16) ∷ acc) (omega (arith, small)) in omega (arith, more))
]

short_hex : (n : ℕ) → n < 2 ^ 32 → length (digits 16 false n) ≤ 8
unfolding digits
short_hex n small = let more = length_hex 64 7 n [] (omega (arith, small)) in omega (arith, more)

pub hex_there : (text : List ℕ) (place n : ℕ) (rest : List ℕ) → n < 2 ^ 32 → stops 16 rest ≡ true
    → drop place text ≡ digits 16 false n ++ rest → hex_at text place ≡ Ok (n, place + length (digits 16 false n))
unfolding hex_at hex_number
hex_there text place n rest small h e =
    let is = digits_is_IsNumeral 16 false (omega arith) (omega arith) n (omega arith) in
    let short = short_hex n small in
    rw (
      digits_there 16 text place (digits 16 false n) rest is.0.1 h e,
      is.1,
      le-leb 1 (length (digits 16 false n)) is.0.0,
      le-leb (length (digits 16 false n)) 8 short,
    ) refl
