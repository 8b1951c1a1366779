-- Units as bytes, and how many binary digits a number has.
use Rattle.std.proofs.Common.{ℕ, ◌≡◌, ◌+◌, ◌/◌, ◌%◌, ◌<◌, ◌≤◌, ◌^◌, List, [], ◌∷◌, ◌++◌, length, take, get_or, refl, sym, ap, ◌∙◌, arith}
use Rattle.std.proofs.lemmas.List.{take_more}
use Rattle.std.proofs.lemmas.Int.Digits.{length-digits_of-le, length-digits_of_step}
use Rattle.scm_generate.specs.Listed.{wide_bytes, depth_of}

bytes_both : (xs ys : List ℕ) → wide_bytes (xs ++ ys) ≡ wide_bytes xs ++ wide_bytes ys
bytes_both [] ys = refl
bytes_both (x ∷ xs) ys = ap (λ zs. x % 256 ∷ x / 256 ∷ zs) (bytes_both xs ys)

-- one unit more
pub bytes_more : (xs bytes now : List ℕ) (i : ℕ) → i < length xs → bytes ≡ wide_bytes (take i xs)
    → now ≡ bytes ++ (get_or xs i 0 % 256 ∷ get_or xs i 0 / 256 ∷ []) → now ≡ wide_bytes (take (i + 1) xs)
bytes_more xs bytes now i lt before e =
    e ∙ ap (λ bs. bs ++ (get_or xs i 0 % 256 ∷ get_or xs i 0 / 256 ∷ [])) before
    ∙ sym (bytes_both (take i xs) (get_or xs i 0 ∷ [])) ∙ sym (ap wide_bytes (take_more xs i 0 lt))

-- a number of 32 bits has as many digits at most
pub line_short : (n : ℕ) → n < 2 ^ 32 → depth_of n ≤ 32
line_short n small = length-digits_of-le 2 32 n (omega arith) small

-- half of a number has one digit less
pub line_half : (n : ℕ) → 0 < n → depth_of n ≡ depth_of (n / 2) + 1
line_half n some = length-digits_of_step 2 n (omega arith) some
