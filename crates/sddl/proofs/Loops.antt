-- Reading on after what was read, as loops do.
use Rattle.std.proofs.Common.{◌≡◌, ℕ, zero, suc, ◌-◌, ◌+◌, ◌≤◌, ◌<◌, Bool, true, false, List, [], ◌∷◌, ◌++◌, length, take, drop, get_or}
use Rattle.std.proofs.Common.{◌^◌, Result, Ok, Err, refl, sym, ap, cond, inl, inr, ◌∙◌, append_assoc, add-one, arith}
use Rattle.std.specs.Char.{digit_value}
use Rattle.std.specs.Prelude.{◌&&◌}
use Rattle.std.specs.List.{list_all, take_while}
use Rattle.std.proofs.lemmas.List.Sums.{take_while-cons}
use Rattle.std.specs.Str.Parse.{AllDigits, digits_value}
use Rattle.std.proofs.Math.Nat.{pow-le-pow_right}
use Rattle.std.proofs.Math.ListN.{drop_of_length-le}
use Rattle.std.proofs.Math.Seq.{drop-cons}
use Rattle.std.proofs.lemmas.Bool.{and_parts, cases_Bool, ltb-true}
use Rattle.std.proofs.lemmas.Int.Digits.{digits_value-lt}
use Rattle.std.proofs.lemmas.Str.Parse.{digits_value-take-le}
use Rattle.std.proofs.lemmas.List.{append-nil}
use Rattle.sddl.specs.declared.fault.SddlFault.{SddlFault}
use Rattle.sddl.specs.declared.fault.SddlFault.TheVariants.{Bad, OutOfMemory}
use Rattle.sddl.specs.Reading.{FailsAt, ace_within, aces_from, after_byte, after_bytes, digits_at, has_byte, is_digit, number_at, onto}
use Rattle.sddl.specs.Reading.{parts_from}
use Rattle.sec_desc.specs.declared.value.Ace.{Ace}
use Rattle.sec_desc.specs.Reading.{◌>>=◌}
use Rattle.sec_desc.specs.Writing.{size_of_ace}

-- ## Bytes

first_of : (bytes : List ℕ) (i d : ℕ) → i < length bytes → drop i bytes ≡ get_or bytes i d ∷ drop (i + 1) bytes
first_of bytes i d lt = rw add-one (drop-cons bytes i d lt)

pub bytes_on : (bytes text : List ℕ) (i at end d : ℕ) (total : Result ℕ ℕ) → i < length bytes
    → after_byte (get_or bytes i d) text at ≡ Ok end → after_bytes (drop i bytes) text at ≡ total
    → after_bytes (drop (i + 1) bytes) text end ≡ total
unfolding after_bytes
bytes_on bytes text i at end d total lt h so_far =
    let one : after_bytes (drop i bytes) text at ≡ after_bytes (drop (i + 1) bytes) text end = rw (first_of bytes i d lt, h) refl in
    sym one ∙ so_far

pub bytes_fail : (fault : SddlFault) (bytes text : List ℕ) (i at d : ℕ) (total : Result ℕ ℕ) → i < length bytes
    → FailsAt fault (after_byte (get_or bytes i d) text at) → after_bytes (drop i bytes) text at ≡ total → FailsAt fault total
unfolding after_bytes
bytes_fail OutOfMemory bytes text i at d total lt h so_far = tt
bytes_fail (Bad place) bytes text i at d total lt h so_far =
    let one : after_bytes (drop i bytes) text at ≡ Err place = rw (first_of bytes i d lt, h) refl in
    sym so_far ∙ one

pub bytes_end : (bytes text : List ℕ) (i at : ℕ) (total : Result ℕ ℕ) → length bytes ≤ i → after_bytes (drop i bytes) text at ≡ total
    → total ≡ Ok at
unfolding after_bytes
bytes_end bytes text i at total le so_far =
    let one : after_bytes (drop i bytes) text at ≡ Ok at = rw (drop_of_length-le bytes le) refl in
    sym so_far ∙ one

-- ## Digits

pub all_digits : (ds : List ℕ) → list_all (is_digit 16) ds ≡ true → AllDigits 16 ds
all_digits [] all = tt
all_digits (d ∷ ds) all =
    let two = and_parts (is_digit 16 d) (list_all (is_digit 16) ds) all in
    (ltb-true (digit_value d) 16 two.0, all_digits ds two.1)

-- up to eight digits write a number of 32 bits
pub hex_small : (ds : List ℕ) (i : ℕ) → list_all (is_digit 16) ds ≡ true → length ds ≤ 8 → digits_value 16 (take i ds) < 2 ^ 32
hex_small ds i all short =
    let front = digits_value-take-le 16 ds i (omega arith) in
    let most = digits_value-lt 16 ds (all_digits ds all) in
    let power : 16 ^ length ds ≤ 16 ^ 8 = pow-le-pow_right (omega arith) short in
    omega (arith, front, most, power)

pub digit_small : (ds : List ℕ) (i : ℕ) → list_all (is_digit 16) ds ≡ true → i < length ds → digit_value (get_or ds i 0) < 16
digit_small (d ∷ ds) zero all lt = (all_digits (d ∷ ds) all).0
digit_small (d ∷ ds) (suc i) all lt =
    digit_small ds i (and_parts (is_digit 16 d) (list_all (is_digit 16) ds) all).1 (omega (arith, lt))
digit_small [] i all lt = absurd (omega (arith, lt))

taken_pass : (p : ℕ → Bool) (xs : List ℕ) → list_all p (take_while p xs) ≡ true
taken_pass p [] = refl
taken_pass p (x ∷ xs) = elim (cases_Bool (p x)) [
  | inl is ↦ ap (list_all p) (take_while-cons p x xs ∙ ap (λ b. cond b (x ∷ take_while p xs) []) is)
      ∙ ap (λ b. b && list_all p (take_while p xs)) is ∙ taken_pass p xs
  | inr is ↦ ap (list_all p) (take_while-cons p x xs ∙ ap (λ b. cond b (x ∷ take_while p xs) []) is)
]

pub digits_pass : (radix : ℕ) (text : List ℕ) (place : ℕ) → list_all (is_digit radix) (digits_at radix text place) ≡ true
unfolding digits_at
digits_pass radix text place = taken_pass (is_digit radix) (drop place text)

-- ## Lists

pub regroup : {A : Type 0} (front : List A) (x : A) (read : Result (List A × ℕ) ℕ)
    → onto front (read >>= λ others. Ok (x ∷ others.0, others.1)) ≡ onto (front ++ x ∷ []) read
regroup front x (Ok others) = ap (λ xs. Ok (xs, others.1)) (sym (append_assoc front (x ∷ []) others.0))
regroup front x (Err place) = refl

-- if what is left meets a fault, so does all
pub failed : {A : Type 0} (front : List A) (read : Result (List A × ℕ) ℕ) (place : ℕ) → onto front read ≡ Err place → read ≡ Err place
failed front (Ok others) place e = absurd cc
failed front (Err at) place e = cc

pub with_nothing : {A : Type 0} (read : Result (List A × ℕ) ℕ) → onto [] read ≡ read
with_nothing (Ok others) = refl
with_nothing (Err place) = refl

pub parts_on : (front text : List ℕ) (i at end x : ℕ) (total : Result (List ℕ × ℕ) ℕ) → i < 15 → has_byte 45 text at ≡ true
    → number_at text (at + 1) ≡ Ok (x, end) → onto front (parts_from (15 - i) text at) ≡ total
    → onto (front ++ x ∷ []) (parts_from (15 - (i + 1)) text end) ≡ total
unfolding parts_from
parts_on front text i at end x total lt has h so_far =
    let k : 15 - i ≡ suc (15 - (i + 1)) = omega arith in
    let one : onto front (parts_from (15 - i) text at) ≡ onto (front ++ x ∷ []) (parts_from (15 - (i + 1)) text end) =
    rw (k, has, h) (regroup front x (parts_from (15 - (i + 1)) text end)) in
    sym one ∙ so_far

pub parts_fail : (fault : SddlFault) (front start text : List ℕ) (i at : ℕ) (total : Result (List ℕ × ℕ) ℕ) → i < 15
    → has_byte 45 text at ≡ true → FailsAt fault (number_at text (at + 1)) → onto front (parts_from (15 - i) text at) ≡ onto start total
    → FailsAt fault (onto start total)
unfolding parts_from
parts_fail OutOfMemory front start text i at total lt has h so_far = tt
parts_fail (Bad place) front start text i at total lt has h so_far =
    let k : 15 - i ≡ suc (15 - (i + 1)) = omega arith in
    let one : onto front (parts_from (15 - i) text at) ≡ Err place = rw (k, has, h) refl in
    sym so_far ∙ one

-- no hyphen, no part
pub parts_end : (front text : List ℕ) (n at : ℕ) (total : Result (List ℕ × ℕ) ℕ) → has_byte 45 text at ≡ false
    → onto front (parts_from n text at) ≡ total → total ≡ Ok (front, at)
unfolding parts_from
parts_end front text zero at total has so_far =
    let one : onto front (parts_from 0 text at) ≡ Ok (front, at) = rw has (ap (λ xs. Ok (xs, at)) (append-nil front)) in
    sym so_far ∙ one
parts_end front text (suc n) at total has so_far =
    let one : onto front (parts_from (suc n) text at) ≡ Ok (front, at) = rw has (ap (λ xs. Ok (xs, at)) (append-nil front)) in
    sym so_far ∙ one

pub parts_full : (front text : List ℕ) (at : ℕ) (total : Result (List ℕ × ℕ) ℕ) → has_byte 45 text at ≡ true
    → onto front (parts_from 0 text at) ≡ total → total ≡ Err at
unfolding parts_from
parts_full front text at total has so_far =
    let one : onto front (parts_from 0 text at) ≡ Err at = rw has refl in
    sym so_far ∙ one

pub aces_on : (front : List Ace) (text : List ℕ) (i size at end : ℕ) (ace : Ace) (total : Result (List Ace × ℕ) ℕ) → i < 4096
    → has_byte 40 text at ≡ true → ace_within size text at ≡ Ok (ace, end) → onto front (aces_from (4096 - i) size text at) ≡ total
    → onto (front ++ ace ∷ []) (aces_from (4096 - (i + 1)) (size + size_of_ace ace) text end) ≡ total
unfolding aces_from
aces_on front text i size at end ace total lt has h so_far =
    let k : 4096 - i ≡ suc (4096 - (i + 1)) = omega arith in
    let one : onto front (aces_from (4096 - i) size text at)
    ≡ onto (front ++ ace ∷ []) (aces_from (4096 - (i + 1)) (size + size_of_ace ace) text end) =
    rw (k, has, h) (regroup front ace (aces_from (4096 - (i + 1)) (size + size_of_ace ace) text end)) in
    sym one ∙ so_far

pub aces_fail : (fault : SddlFault) (front : List Ace) (text : List ℕ) (i size at : ℕ) (total : Result (List Ace × ℕ) ℕ) → i < 4096
    → has_byte 40 text at ≡ true → FailsAt fault (ace_within size text at) → onto front (aces_from (4096 - i) size text at) ≡ total
    → FailsAt fault total
unfolding aces_from
aces_fail OutOfMemory front text i size at total lt has h so_far = tt
aces_fail (Bad place) front text i size at total lt has h so_far =
    let k : 4096 - i ≡ suc (4096 - (i + 1)) = omega arith in
    let one : onto front (aces_from (4096 - i) size text at) ≡ Err place = rw (k, has, h) refl in
    sym so_far ∙ one

pub aces_end : (front : List Ace) (text : List ℕ) (n size at : ℕ) (total : Result (List Ace × ℕ) ℕ) → has_byte 40 text at ≡ false
    → onto front (aces_from n size text at) ≡ total → total ≡ Ok (front, at)
unfolding aces_from
aces_end front text zero size at total has so_far =
    let one : onto front (aces_from 0 size text at) ≡ Ok (front, at) = ap (λ xs. Ok (xs, at)) (append-nil front) in
    sym so_far ∙ one
aces_end front text (suc n) size at total has so_far =
    let one : onto front (aces_from (suc n) size text at) ≡ Ok (front, at) = rw has (ap (λ xs. Ok (xs, at)) (append-nil front)) in
    sym so_far ∙ one

pub aces_full : (front : List Ace) (text : List ℕ) (size at : ℕ) (total : Result (List Ace × ℕ) ℕ)
    → onto front (aces_from 0 size text at) ≡ total → total ≡ Ok (front, at)
unfolding aces_from
aces_full front text size at total so_far =
    let one : onto front (aces_from 0 size text at) ≡ Ok (front, at) = ap (λ xs. Ok (xs, at)) (append-nil front) in
    sym so_far ∙ one
