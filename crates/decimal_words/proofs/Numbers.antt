-- Decimal forms.
use Rattle.std.proofs.Common.{ℕ, ◌≡◌, ◌<◌, ◌≤◌, ◌*◌, ◌+◌, ◌^◌, Bool, true, false, cond, List, None, Some, Option, take, get_or, length}
use Rattle.std.proofs.Common.{zero, suc, inl, inr, refl, sym, ap, ◌∙◌, subst, arith}
use Rattle.std.specs.Prelude.{◌&&◌, ◌⊎◌, nat_lt, slice_index, bytes_eq, decimal, IfNone, IfSome}
use Rattle.std.specs.Char.{digit_value}
use Rattle.std.specs.Str.Parse.{AllDigits, digits_value}
use Rattle.std.proofs.lemmas.Bool.{ltb-true, lt-ltb}
use Rattle.std.proofs.lemmas.Slice.Eq.{bytes_eq-Decides}
use Rattle.std.proofs.lemmas.Int.Digits.{digits_value_more}
use Rattle.std.proofs.lemmas.Fmt.{decimal_digit, decimal_is_IsNumeral, decimal-digits_value, first_decimal}
use Rattle.std.proofs.lemmas.Str.{digit_value_digit}
use Rattle.std.proofs.lemmas.Str.Parse.{digits_value-take-le, numerals_by_value, tells_digits, digit_at}
use Rattle.decimal_words.specs.Numbers.{decimal_number}

-- a text is the decimal form of its number
pub number_is : (text : List ℕ) (n : ℕ) → n < 2 ^ 64 → text ≡ decimal n → decimal_number text ≡ Some n
unfolding decimal_number
number_is text n small e =
    let value : digits_value 10 text ≡ n = ap (digits_value 10) e ∙ (decimal_is_IsNumeral n small).1 in
    rw (value, lt-ltb n (2 ^ 64) small, (bytes_eq-Decides text (decimal n)).1 e) refl

tested : {A : Type 0} (b c : Bool) (x : A) → (b ≡ true → c ≡ true → ⊥) → cond (b && c) (Some x) None ≡ None
tested true true x h = absurd (h refl refl)
tested true false x h = refl
tested false c x h = refl

-- a text that no number has
number_none : (text : List ℕ) → ((n : ℕ) → n < 2 ^ 64 → text ≡ decimal n → ⊥) → decimal_number text ≡ None
unfolding decimal_number
number_none text h =
    let n = digits_value 10 text in
    tested (nat_lt n (2 ^ 64)) (bytes_eq text (decimal n)) n
    (λ small same. h n (ltb-true n (2 ^ 64) small) ((bytes_eq-Decides text (decimal n)).0 same))

-- an empty text is no number, nor is one with a zero before others
pub number_begun : (text : List ℕ) → (length text ≡ 0) ⊎ ((slice_index text 0 ≡ 48) × (1 < length text)) → decimal_number text ≡ None
number_begun text h = number_none text (λ n small e. begun n small (ap length e) (ap (λ l. slice_index l 0) e) h)
  where
    begun : (n : ℕ) → n < 2 ^ 64 → length text ≡ length (decimal n) → slice_index text 0 ≡ slice_index (decimal n) 0
        → (length text ≡ 0) ⊎ ((slice_index text 0 ≡ 48) × (1 < length text)) → ⊥
    begun n small size first (inl none) = omega (arith, (decimal_is_IsNumeral n small).0.0, size)
    begun zero small size first (inr led) = let one : length (decimal 0) ≡ 1 = ap length (decimal_digit 0 (omega arith)) in
        omega (arith, size, one, led.1)
    begun (suc n) small size first (inr led) = omega (arith, first_decimal (suc n) (omega arith) small, first, led.0)

-- digits that no zero leads are the decimal form of what they write; what can't be read so is none
pub number_told : (text : List ℕ) (read : Option ℕ) → 0 < length text → (slice_index text 0 ≡ 48 → length text ≡ 1)
    → IfSome read (λ n. AllDigits 10 text × (n ≡ digits_value 10 text) × (n < 2 ^ 64))
    → IfNone read (AllDigits 10 text → 2 ^ 64 ≤ digits_value 10 text) → read ≡ decimal_number text
number_told text (Some n) some lead (all, is, small) other =
    sym (number_is text n small
    (sym (decimal-digits_value (numerals_by_value (AllDigits 10) tells_digits) text all some lead (omega (arith, is)))
    ∙ ap decimal (sym is)))
number_told text None some lead is other = sym (number_none text (λ n small e.
    let k = decimal_is_IsNumeral n small in
    omega (arith, other (subst (AllDigits 10) (sym e) k.0.1), ap (digits_value 10) e ∙ k.1)))

-- a digit that is none, or is too much, spoils what follows too
pub digit_lost : (text : List ℕ) (i number : ℕ) → i < length text → number ≡ digits_value 10 (take i text)
    → (digit_value (get_or text i 0) < 10 → 2 ^ 64 ≤ number * 10 + digit_value (get_or text i 0))
    → AllDigits 10 text → 2 ^ 64 ≤ digits_value 10 text
digit_lost text i number lt is h all =
    let range = digit_at text i all lt in
    omega (
      arith,
      h (omega (arith, digit_value_digit (get_or text i 0) range)),
      digits_value_more 10 text i lt,
      digits_value-take-le 10 text (i + 1) (omega arith),
      is,
    )
