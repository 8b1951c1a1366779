-- Numbers in bytes: what is read is what was written, and the other way round.
use Rattle.std.proofs.Common.{◌≡◌, ℕ, zero, suc, ◌+◌, ◌*◌, ◌^◌, ◌<◌, ◌≤◌, List, [], ◌∷◌, ◌++◌, length, get_or, take, drop, refl, sym, ap}
use Rattle.std.proofs.Common.{◌∙◌, append_assoc, length-append, arith, inl, inr}
use Rattle.std.specs.List.{flat_map, AllByRecursion}
use Rattle.std.proofs.lemmas.Bool.{cases_lt}
use Rattle.std.proofs.lemmas.List.{drop_at, length-drop, length-take, get_or-drop, get_or-take, get_or_past}
use Rattle.std.proofs.lemmas.Nat.{le_bytes_2, le_bytes_4, from_le_bytes-to_le_bytes_2, from_le_bytes-to_le_bytes_4}
use Rattle.std.proofs.Math.Seq.{take-add}
use Rattle.sec_desc.specs.Numbers.{number_16, number_32, numbers_32, bytes_16, bytes_32}

abbrev pub IsBytes : List ℕ → Type 0
IsBytes bytes = (i : ℕ) → get_or bytes i 0 < 256

pub bytes_drop : (n : ℕ) (bytes : List ℕ) → IsBytes bytes → IsBytes (drop n bytes)
bytes_drop n bytes h i = rw get_or-drop (h (n + i))

pub bytes_take : (n : ℕ) (bytes : List ℕ) → IsBytes bytes → IsBytes (take n bytes)
bytes_take n bytes h i =
    elim (cases_lt i n) [
      | inl lt ↦ rw (get_or-take n bytes i 0 lt) (h i)
      | inr le ↦ rw (get_or_past (take n bytes) i 0 (omega (arith, length-take n bytes))) (omega arith)
    ]

pub small_16 : (bytes : List ℕ) → IsBytes bytes → number_16 bytes < 2 ^ 16
unfolding number_16
small_16 bytes fits = let b : IsBytes (take 2 bytes) = bytes_take 2 bytes fits in omega (arith, b 0, b 1)

pub small_32 : (bytes : List ℕ) → IsBytes bytes → number_32 bytes < 2 ^ 32
unfolding number_32
small_32 bytes fits = let b : IsBytes (take 4 bytes) = bytes_take 4 bytes fits in omega (arith, b 0, b 1, b 2, b 3)

-- the bytes of a number that is read
pub read_16 : (bytes : List ℕ) → IsBytes bytes → 2 ≤ length bytes → bytes_16 (number_16 bytes) ≡ take 2 bytes
unfolding number_16 bytes_16
read_16 bytes fits le = le_bytes_2 (take 2 bytes) _ (omega (arith, length-take 2 bytes)) (bytes_take 2 bytes fits) refl

pub read_32 : (bytes : List ℕ) → IsBytes bytes → 4 ≤ length bytes → bytes_32 (number_32 bytes) ≡ take 4 bytes
unfolding number_32 bytes_32
read_32 bytes fits le = le_bytes_4 (take 4 bytes) _ (omega (arith, length-take 4 bytes)) (bytes_take 4 bytes fits) refl

-- a number that is written is read
pub again_16 : (n : ℕ) (rest : List ℕ) → n < 2 ^ 16 → number_16 (bytes_16 n ++ rest) ≡ n
unfolding number_16 bytes_16
again_16 n rest lt = from_le_bytes-to_le_bytes_2 n lt

pub again_32 : (n : ℕ) (rest : List ℕ) → n < 2 ^ 32 → number_32 (bytes_32 n ++ rest) ≡ n
unfolding number_32 bytes_32
again_32 n rest lt = from_le_bytes-to_le_bytes_4 n lt

pub length_16 : (n : ℕ) → length (bytes_16 n) ≡ 2
unfolding bytes_16
length_16 n = refl

pub length_32 : (n : ℕ) → length (bytes_32 n) ≡ 4
unfolding bytes_32
length_32 n = refl

-- ## Lists of numbers

pub numbers_length : (n : ℕ) (bytes : List ℕ) → length (numbers_32 n bytes) ≡ n
unfolding numbers_32
numbers_length zero bytes = refl
numbers_length (suc n) bytes = ap suc (numbers_length n (drop 4 bytes))

pub numbers_small : (n : ℕ) (bytes : List ℕ) → IsBytes bytes → AllByRecursion (λ part. part < 2 ^ 32) (numbers_32 n bytes)
unfolding numbers_32
numbers_small zero bytes fits = tt
numbers_small (suc n) bytes fits = (small_32 bytes fits, numbers_small n (drop 4 bytes) (bytes_drop 4 bytes fits))

pub numbers_bytes : (n : ℕ) (bytes : List ℕ) → IsBytes bytes → 4 * n ≤ length bytes
    → flat_map bytes_32 (numbers_32 n bytes) ≡ take (4 * n) bytes
unfolding numbers_32
numbers_bytes zero bytes fits le = refl
numbers_bytes (suc n) bytes fits le =
    let others : flat_map bytes_32 (numbers_32 n (drop 4 bytes)) ≡ take (4 * n) (drop 4 bytes) =
    numbers_bytes n (drop 4 bytes) (bytes_drop 4 bytes fits) (omega (arith, length-drop 4 bytes)) in
    let first : bytes_32 (number_32 bytes) ≡ take 4 bytes = read_32 bytes fits (omega arith) in
    let both : take (4 + 4 * n) bytes ≡ take 4 bytes ++ take (4 * n) (drop 4 bytes) = take-add 4 (4 * n) bytes in
    let count : 4 + 4 * n ≡ 4 * suc n = omega arith in
    ap (λ (l : List ℕ). l ++ flat_map bytes_32 (numbers_32 n (drop 4 bytes))) first ∙ ap (λ (l : List ℕ). take 4 bytes ++ l) others
    ∙ sym both ∙ ap (λ (k : ℕ). take k bytes) count

pub length_numbers : (parts : List ℕ) → length (flat_map bytes_32 parts) ≡ 4 * length parts
length_numbers [] = refl
length_numbers (part ∷ parts) = let rest = length_numbers parts in
    omega (arith, length-append (bytes_32 part) (flat_map bytes_32 parts), length_32 part)

pub numbers_again : (parts rest : List ℕ) → AllByRecursion (λ part. part < 2 ^ 32) parts
    → numbers_32 (length parts) (flat_map bytes_32 parts ++ rest) ≡ parts
unfolding numbers_32
numbers_again [] rest small = refl
numbers_again (part ∷ parts) rest small =
    let regrouped : flat_map bytes_32 (part ∷ parts) ++ rest ≡ bytes_32 part ++ (flat_map bytes_32 parts ++ rest) =
    append_assoc (bytes_32 part) (flat_map bytes_32 parts) rest in
    let first : number_32 (flat_map bytes_32 (part ∷ parts) ++ rest) ≡ part =
    ap number_32 regrouped ∙ again_32 part (flat_map bytes_32 parts ++ rest) small.0 in
    let behind : drop 4 (flat_map bytes_32 (part ∷ parts) ++ rest) ≡ flat_map bytes_32 parts ++ rest =
    ap (λ (l : List ℕ). drop 4 l) regrouped ∙ drop_at (bytes_32 part) (flat_map bytes_32 parts ++ rest) 4 (length_32 part) in
    ap (λ (v : ℕ). v ∷ numbers_32 (length parts) (drop 4 (flat_map bytes_32 (part ∷ parts) ++ rest))) first
    ∙ ap (λ (l : List ℕ). part ∷ l) (ap (numbers_32 (length parts)) behind ∙ numbers_again parts rest small.1)
