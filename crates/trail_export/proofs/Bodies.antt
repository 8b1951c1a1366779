-- Bodies that are written are bytes, where the lists of bytes in them are.
use Rattle.std.proofs.Common.{ℕ, zero, suc, ◌+◌, ◌-◌, ◌<◌, List, [], ◌∷◌, ◌++◌, length, take, replicate, Option, Some, None, arith}
use Rattle.std.specs.Int.{w64, byte_at, bytes_low_first, to_le_bytes}
use Rattle.std.specs.List.{AllByRecursion, flat_map}
use Rattle.hex.specs.Hex.{IsBytes}
use Rattle.ndr_body.specs.Reading.{aligned}
use Rattle.ndr_body.specs.Writing.{Draft, handle_bytes, number_bytes, padding_at, put_bytes, put_handle, put_number, put_referent}
use Rattle.ndr_body.specs.Writing.{put_some_number, put_some_text, put_text, put_uuid, sized_bytes, text_bytes, unit_bytes, with_item}

-- ## Bytes

abbrev pub AreBytes : List ℕ → Type 0
AreBytes xs = AllByRecursion (λ b. b < 256) xs

pub both_bytes : (xs ys : List ℕ) → AreBytes xs → AreBytes ys → AreBytes (xs ++ ys)
both_bytes [] ys first second = second
both_bytes (x ∷ xs) ys first second = (first.0, both_bytes xs ys first.1 second)

pub front_bytes : (xs ys : List ℕ) → AreBytes (xs ++ ys) → AreBytes xs
front_bytes [] ys all = tt
front_bytes (x ∷ xs) ys all = (all.0, front_bytes xs ys all.1)

pub rest_bytes : (xs ys : List ℕ) → AreBytes (xs ++ ys) → AreBytes ys
rest_bytes [] ys all = all
rest_bytes (x ∷ xs) ys all = rest_bytes xs ys all.1

pub taken_bytes : (n : ℕ) (xs : List ℕ) → AreBytes xs → AreBytes (take n xs)
taken_bytes zero xs all = tt
taken_bytes (suc n) [] all = tt
taken_bytes (suc n) (x ∷ xs) all = (all.0, taken_bytes n xs all.1)

zeros : (n : ℕ) → AreBytes (replicate n 0)
zeros zero = tt
zeros (suc n) = (omega arith, zeros n)

pub by_place : (xs : List ℕ) → AreBytes xs → IsBytes xs
by_place [] all zero = omega arith
by_place [] all (suc i) = omega arith
by_place (x ∷ xs) all zero = all.0
by_place (x ∷ xs) all (suc i) = by_place xs all.1 i

digit_fits : (i n : ℕ) → byte_at i n < 256
digit_fits zero n = omega arith
digit_fits (suc i) n = omega arith

number_is : (i k n : ℕ) → AreBytes (bytes_low_first i k n)
number_is i zero n = tt
number_is i (suc k) n = (digit_fits i n, number_is (suc i) k n)

-- ## Items

number_fits : (n : ℕ) → AreBytes (number_bytes n)
unfolding number_bytes
number_fits n = number_is 0 4 n

handle_fits : (n : ℕ) → AreBytes (handle_bytes n)
unfolding handle_bytes
handle_fits n = both_bytes (number_bytes 0 ++ to_le_bytes w64 n) (to_le_bytes w64 0)
    (both_bytes (number_bytes 0) (to_le_bytes w64 n) (number_fits 0) (number_is 0 8 n)) (number_is 0 8 0)

unit_fits : (u : ℕ) → AreBytes (unit_bytes u)
unfolding unit_bytes
unit_fits u = number_is 0 2 u

units_fit : (text : List ℕ) → AreBytes (flat_map unit_bytes text)
units_fit [] = tt
units_fit (u ∷ text) = both_bytes (unit_bytes u) (flat_map unit_bytes text) (unit_fits u) (units_fit text)

text_fits : (text : List ℕ) → AreBytes (text_bytes text)
unfolding text_bytes
text_fits text =
    let count = number_bytes (length text + 1) in
    let counts = count ++ number_bytes 0 ++ count in
    let units = flat_map unit_bytes text in
    both_bytes (counts ++ units) (unit_bytes 0) (both_bytes counts units (both_bytes (count ++ number_bytes 0) count
    (both_bytes count (number_bytes 0) (number_fits (length text + 1)) (number_fits 0)) (number_fits (length text + 1)))
    (units_fit text)) (unit_fits 0)

sized_fits : (bytes : List ℕ) (size : ℕ) → AreBytes bytes → AreBytes (sized_bytes bytes size)
unfolding sized_bytes
sized_fits bytes size all =
    let rest = size - length bytes in
    both_bytes (number_bytes size ++ bytes) (replicate rest 0) (both_bytes (number_bytes size) bytes (number_fits size) all) (zeros rest)

-- ## Drafts

-- a draft of bytes stays one
pub record Keeps (put : Draft → Draft) : Type 0 where
  pub keeps : (d : Draft) → AreBytes d.bytes → AreBytes (put d).bytes

pub keeps_nothing : Keeps (λ d. d)
keeps_nothing = record { keeps = λ d all. all }

pub keeps_both : (p q : Draft → Draft) → Keeps p → Keeps q → Keeps (λ d. q (p d))
keeps_both p q first second = record { keeps = λ d all. second.keeps (p d) (first.keeps d all) }

with_fits : (item : List ℕ) → AreBytes item → (d : Draft) → AreBytes d.bytes → AreBytes (with_item item d).bytes
with_fits item fits d all =
    let place = length d.bytes in
    let padded = taken_bytes (aligned place - place) (0 ∷ 0 ∷ 0 ∷ []) (zeros 3) in
    both_bytes (d.bytes ++ padding_at place) item (both_bytes d.bytes (padding_at place) all padded) fits

keeps_item : (item : List ℕ) → AreBytes item → Keeps (with_item item)
keeps_item item fits = record { keeps = with_fits item fits }

pub keeps_number : (n : ℕ) → Keeps (put_number n)
unfolding put_number
keeps_number n = keeps_item (number_bytes n) (number_fits n)

pub keeps_handle : (n : ℕ) → Keeps (put_handle n)
unfolding put_handle
keeps_handle n = keeps_item (handle_bytes n) (handle_fits n)

pub keeps_text : (text : List ℕ) → Keeps (put_text text)
unfolding put_text
keeps_text text = keeps_item (text_bytes text) (text_fits text)

pub keeps_bytes : (bytes : List ℕ) (size : ℕ) → AreBytes bytes → Keeps (put_bytes bytes size)
unfolding put_bytes
keeps_bytes bytes size all = keeps_item (sized_bytes bytes size) (sized_fits bytes size all)

pub keeps_uuid : (uuid : List ℕ) → AreBytes uuid → Keeps (put_uuid uuid)
unfolding put_uuid
keeps_uuid uuid all = keeps_item uuid all

pub keeps_referent : Keeps put_referent
unfolding put_referent
keeps_referent = record { keeps = λ d all. with_fits (number_bytes d.next) (number_fits d.next) d all }

pub keeps_some_text : (text : Option (List ℕ)) → Keeps (put_some_text text)
unfolding put_some_text
keeps_some_text None = keeps_number 0
keeps_some_text (Some text) = keeps_both put_referent (put_text text) keeps_referent (keeps_text text)

pub keeps_some_number : (n : Option ℕ) → Keeps (put_some_number n)
unfolding put_some_number
keeps_some_number None = keeps_number 0
keeps_some_number (Some n) = keeps_both put_referent (put_number n) keeps_referent (keeps_number n)
