-- Bytes put in a file.
use Rattle.std.proofs.Common.{◌≡◌, ℕ, zero, suc, ◌+◌, ◌-◌, ◌≤◌, List, ◌++◌, length, take, drop, refl, sym, ◌∙◌, ap, arith, append_assoc}
use Rattle.std.proofs.Common.{length-append, length-drop}
use Rattle.std.proofs.lemmas.List.{take_at, drop_at, drop-drop, length-take-le}
use Rattle.std.proofs.Math.Seq.{drop-append-add}
use Rattle.journal_disk.specs.Files.{Files, Torn, TornFile, file, put, with_file, written}

-- a part of some bytes is a write of them that was cut short
pub torn_part : (at size : ℕ) (part old : List ℕ) → at ≤ length old → length part ≤ size → Torn at size old (put at part old)
torn_part at size part old within short =
    let rest = drop (at + length part) old in
    let k = size - length part in
    let front : length (take at old) ≡ at = length-take-le at old within in
    let is : put at part old ≡ take at old ++ (part ++ rest) = append_assoc (take at old) part rest in
    let behind : drop at (put at part old) ≡ part ++ rest =
    ap (λ (l : List ℕ). drop at l) is ∙ drop_at (take at old) (part ++ rest) at front in
    let long : length (put at part old) ≡ at + (length part + length rest) =
    ap length is ∙ length-append (take at old) (part ++ rest) ∙ ap (λ (n : ℕ). n + length (part ++ rest)) front
    ∙ ap (λ (n : ℕ). at + n) (length-append part rest) in
    let left : length rest ≡ length old - (at + length part) = length-drop (at + length part) old in
    let split : size ≡ length part + k = omega arith in
    let all : at + length part + k ≡ at + size = omega arith in
    record {
      before = ap (λ (l : List ℕ). take at l) is ∙ take_at (take at old) (part ++ rest) at front;
      after =
          sym (drop-drop size at (put at part old)) ∙ ap (λ (l : List ℕ). drop size l) behind
          ∙ ap (λ (n : ℕ). drop n (part ++ rest)) split ∙ drop-append-add part rest k
          ∙ drop-drop k (at + length part) old ∙ ap (λ (n : ℕ). drop n old) all;
      no_shorter = omega (arith, long, left);
      no_longer = omega (arith, long, left);
    }

-- in a file
pub torn_piece : (n at size : ℕ) (part : List ℕ) (now : Files) → at ≤ length (file now n) → length part ≤ size
    → TornFile n at size now (written n at part now)
torn_piece n at size part now within short =
    record { bytes = put at part (file now n); is = refl; torn = torn_part at size part (file now n) within short }

with_same : (f : Files) (n : ℕ) → with_file f n (file f n) ≡ f
with_same f zero = refl
with_same f (suc zero) = refl
with_same f (suc (suc n)) = refl

-- nothing was written
pub torn_none : (n at size : ℕ) (c : Files) → TornFile n at size c c
torn_none n at size c = record {
  bytes = file c n;
  is = sym (with_same c n);
  torn = record { before = refl; after = refl; no_shorter = omega arith; no_longer = omega arith };
}
