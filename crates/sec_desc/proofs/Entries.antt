-- Reading entries one after the other, as a loop does.
use Rattle.std.proofs.Common.{◌≡◌, ℕ, suc, ◌-◌, ◌+◌, ◌≤◌, ◌<◌, List, [], ◌∷◌, ◌++◌, drop, Result, Ok, Err, refl, sym, ap, ◌∙◌, append_assoc}
use Rattle.std.proofs.Common.{arith}
use Rattle.std.proofs.lemmas.List.{append-nil}
use Rattle.sec_desc.specs.declared.value.Ace.{Ace}
use Rattle.sec_desc.specs.declared.value.DescFault.{DescFault}
use Rattle.sec_desc.specs.declared.value.DescFault.TheVariants.{Bad, OutOfMemory}
use Rattle.sec_desc.specs.Reading.{◌>>=◌, FailsAt, ace_in, aces_in, onto_front}

regroup : (front : List Ace) (ace : Ace) (read : Result (List Ace) ℕ)
    → onto_front front (read >>= λ others. Ok (ace ∷ others)) ≡ onto_front (front ++ ace ∷ []) read
regroup front ace (Ok others) = ap (λ (aces : List Ace). Ok aces) (simp append_assoc)
regroup front ace (Err place) = refl

pub goes_on : (front : List Ace) (count i place : ℕ) (bytes : List ℕ) (ace : Ace) (size : ℕ) (total : Result (List Ace) ℕ) → i < count
    → ace_in place bytes ≡ Ok (ace, size)
    → onto_front front (aces_in (count - i) place bytes) ≡ total
    → onto_front (front ++ ace ∷ []) (aces_in (count - (i + 1)) (place + size) (drop size bytes)) ≡ total
unfolding aces_in
goes_on front count i place bytes ace size total lt h so_far =
    let k : count - i ≡ suc (count - (i + 1)) = omega arith in
    let one : onto_front front (aces_in (count - i) place bytes)
    ≡ onto_front (front ++ ace ∷ []) (aces_in (count - (i + 1)) (place + size) (drop size bytes)) =
    rw (k, h) (regroup front ace (aces_in (count - (i + 1)) (place + size) (drop size bytes))) in
    sym one ∙ so_far

-- if the entries that are left meet a fault, so do all
failed : (front : List Ace) (read : Result (List Ace) ℕ) (place : ℕ) → onto_front front read ≡ Err place → read ≡ Err place
failed front (Ok others) place e = absurd cc
failed front (Err at) place e = cc

pub ends : (e : DescFault) (front start : List Ace) (count i place : ℕ) (bytes : List ℕ) (total : Result (List Ace) ℕ) → i < count
    → FailsAt e (ace_in place bytes)
    → onto_front front (aces_in (count - i) place bytes) ≡ onto_front start total → FailsAt e total
unfolding aces_in
ends OutOfMemory front start count i place bytes total lt h so_far = tt
ends (Bad bad) front start count i place bytes total lt h so_far =
    let k : count - i ≡ suc (count - (i + 1)) = omega arith in
    let one : onto_front front (aces_in (count - i) place bytes) ≡ Err bad = rw (k, h) refl in
    failed start total bad (sym so_far ∙ one)

pub with_nothing : (read : Result (List Ace) ℕ) → onto_front [] read ≡ read
with_nothing (Ok others) = refl
with_nothing (Err place) = refl

pub is_done : (front : List Ace) (count i place : ℕ) (bytes : List ℕ) (total : Result (List Ace) ℕ) → count ≤ i
    → onto_front front (aces_in (count - i) place bytes) ≡ total → total ≡ Ok front
unfolding aces_in
is_done front count i place bytes total le so_far =
    let k : count - i ≡ 0 = omega arith in
    let one : onto_front front (aces_in (count - i) place bytes) ≡ Ok front = rw k (ap (λ (aces : List Ace). Ok aces) (append-nil front)) in
    sym so_far ∙ one
