-- Reading items one after another, as a loop does.
use Rattle.std.proofs.Common.{◌≡◌, ℕ, suc, ◌-◌, ◌+◌, ◌≤◌, ◌<◌, List, [], ◌∷◌, ◌++◌, None, Some, refl, sym, ap, ◌∙◌, append_assoc, arith}
use Rattle.std.proofs.lemmas.List.{append-nil}
use Rattle.step_code.specs.declared.fields_read.Stop.{Stop}
use Rattle.step_code.specs.declared.fields_read.Stop.TheVariants as stops
use Rattle.step_code.specs.Reading.{◌>>=◌, StopsAs, Item, items_at}

-- what was read before, and what is still read
abbrev pub with_front : {A : Type 0} → List A → Item (List A) → Item (List A)
with_front front read = read >>= λ x. Some (front ++ x.0, x.1)

regroup : {A : Type 0} (front : List A) (n : A) (read : Item (List A)) →
    with_front front (read >>= λ x. Some (n ∷ x.0, x.1)) ≡ with_front (front ++ n ∷ []) read
regroup {A} front n (Some x) = ap (λ (ns : List A). Some (ns, x.1)) (simp append_assoc)
regroup front n None = refl

pub goes_on : {A : Type 0} (item_at : List ℕ → Item A) (front : List A) (count i : ℕ) (bytes : List ℕ) (n : A) (after : List ℕ)
    (total : Item (List A)) → i < count → item_at bytes ≡ Some (n, after)
    → with_front front (items_at item_at (count - i) bytes) ≡ total
    → with_front (front ++ n ∷ []) (items_at item_at (count - (i + 1)) after) ≡ total
unfolding items_at
goes_on item_at front count i bytes n after total lt h so_far =
    let k : count - i ≡ suc (count - (i + 1)) = omega arith in
    let one : with_front front (items_at item_at (count - i) bytes) ≡ with_front (front ++ n ∷ [])
    (items_at item_at (count - (i + 1)) after) = rw (k, h) (regroup front n (items_at item_at (count - (i + 1)) after)) in
    sym one ∙ so_far

pub ends : {A : Type 0} (item_at : List ℕ → Item A) (e : Stop) (front : List A) (count i : ℕ) (bytes : List ℕ) (total : Item (List A))
    → i < count → StopsAs e (item_at bytes) → with_front front (items_at item_at (count - i) bytes) ≡ total → StopsAs e total
unfolding items_at
ends item_at stops.OutOfMemory front count i bytes total lt h so_far = tt
ends item_at stops.NoCode front count i bytes total lt h so_far =
    let k : count - i ≡ suc (count - (i + 1)) = omega arith in
    let one : with_front front (items_at item_at (count - i) bytes) ≡ None = rw (k, h) refl in
    sym so_far ∙ one

pub is_done : {A : Type 0} (item_at : List ℕ → Item A) (front : List A) (count i : ℕ) (bytes : List ℕ) (total : Item (List A))
    → count ≤ i → with_front front (items_at item_at (count - i) bytes) ≡ total → total ≡ Some (front, bytes)
unfolding items_at
is_done {A} item_at front count i bytes total le so_far =
    let k : count - i ≡ 0 = omega arith in
    let one : with_front front (items_at item_at (count - i) bytes) ≡ Some (front, bytes) =
    rw k (ap (λ (ns : List A). Some (ns, bytes)) (append-nil front)) in
    sym so_far ∙ one
