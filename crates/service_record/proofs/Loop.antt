-- Reading items one after the other, as a loop does.
use Rattle.std.proofs.Common.{◌≡◌, ℕ, suc, ◌-◌, ◌+◌, ◌≤◌, ◌<◌, List, [], ◌∷◌, ◌++◌, Ok, Err, refl, sym, ap, ◌∙◌, append_assoc, arith}
use Rattle.std.proofs.lemmas.List.{append-nil}
use Rattle.service_record.specs.declared.reading.Stop.{Stop}
use Rattle.service_record.specs.declared.reading.Stop.TheVariants as stops
use Rattle.service_record.specs.Reading.{◌>>=◌, StopsAs, Item, take_items}

-- what was read before, and what is still read
abbrev pub with_front : {A : Type 0} → List A → Item (List A) → Item (List A)
with_front front read = read >>= λ x. Ok (front ++ x.0, x.1)

regroup : {A : Type 0} (front : List A) (n : A) (read : Item (List A)) →
    with_front front (read >>= λ x. Ok (n ∷ x.0, x.1)) ≡ with_front (front ++ n ∷ []) read
regroup {A} front n (Ok x) = ap (λ (ns : List A). Ok (ns, x.1)) (simp append_assoc)
regroup front n (Err f) = refl

pub goes_on : {A : Type 0} (item : List ℕ → Item A) (front : List A) (count i : ℕ) (bytes : List ℕ) (n : A) (after : List ℕ)
    (total : Item (List A)) → i < count → item bytes ≡ Ok (n, after)
    → with_front front (take_items item (count - i) bytes) ≡ total → with_front (front ++ n ∷ [])
    (take_items item (count - (i + 1)) after) ≡ total
unfolding take_items
goes_on item front count i bytes n after total lt h so_far =
    let k : count - i ≡ suc (count - (i + 1)) = omega arith in
    let one : with_front front (take_items item (count - i) bytes) ≡ with_front (front ++ n ∷ [])
    (take_items item (count - (i + 1)) after) = rw (k, h) (regroup front n (take_items item (count - (i + 1)) after)) in
    sym one ∙ so_far

pub ends : {A : Type 0} (item : List ℕ → Item A) (e : Stop) (front : List A) (count i : ℕ) (bytes : List ℕ) (total : Item (List A))
    → i < count → StopsAs e (item bytes)
    → with_front front (take_items item (count - i) bytes) ≡ total → StopsAs e total
unfolding take_items
ends item stops.OutOfMemory front count i bytes total lt h so_far = tt
ends item (stops.Left f) front count i bytes total lt h so_far =
    let k : count - i ≡ suc (count - (i + 1)) = omega arith in
    let one : with_front front (take_items item (count - i) bytes) ≡ Err f = rw (k, h) refl in
    sym so_far ∙ one

pub is_done : {A : Type 0} (item : List ℕ → Item A) (front : List A) (count i : ℕ) (bytes : List ℕ) (total : Item (List A)) → count ≤ i
    → with_front front (take_items item (count - i) bytes) ≡ total → total ≡ Ok (front, bytes)
unfolding take_items
is_done {A} item front count i bytes total le so_far =
    let k : count - i ≡ 0 = omega arith in
    let one : with_front front (take_items item (count - i) bytes) ≡ Ok (front, bytes) =
    rw k (ap (λ (ns : List A). Ok (ns, bytes)) (append-nil front)) in
    sym so_far ∙ one
