-- Reading items one after the other, as a loop does.
use Rattle.std.proofs.Common.{◌≡◌, ℕ, suc, false, ◌-◌, ◌+◌, ◌≤◌, ◌<◌, List, [], ◌∷◌, ◌++◌, length, get_or, drop, Result, Ok, Err, refl, sym}
use Rattle.std.proofs.Common.{ap, subst, ◌∙◌, append_assoc, add-one, drop-cons, arith}
use Rattle.std.specs.Prelude.{OnOk}
use Rattle.std.specs.Result.{is_err}
use Rattle.std.proofs.lemmas.List.{append-nil, drop_all}
use Rattle.ndr_body.specs.declared.fault.BodyFault.{BodyFault}
use Rattle.ndr_body.specs.declared.fault.BodyFault.TheVariants.{Short, BadString, BadCount, Trailing, OutOfMemory}
use Rattle.ndr_body.specs.Reading.{◌>>=◌, Fails}
use Rattle.ndr_body.specs.Writing.{Draft, put_referent}
use Rattle.scm_shapes.specs.declared.item.Item.{Item}
use Rattle.scm_shapes.specs.declared.item.Value.{Value}
use Rattle.scm_shapes.specs.Each.{each_at}
use Rattle.scm_shapes.specs.Words.{put_referents}
use Rattle.scm_shapes.specs.Parts.{for_each_at}
use Rattle.scm_shapes.specs.Shapes.{item_at, values_at}

-- the rest of a list from an index on
pub at_index : {A : Type 0} (xs : List A) (i : ℕ) (x : A) → i < length xs → x ≡ get_or xs i x → drop i xs ≡ x ∷ drop (i + 1) xs
at_index {A = A} xs i x lt is = rw add-one (drop-cons xs i x lt ∙ ap (λ (y : A). y ∷ drop (suc i) xs) (sym is))

-- what was read before, and what is still read
abbrev pub with_front : {A : Type 0} → List A → Result (List A × ℕ) BodyFault → Result (List A × ℕ) BodyFault
with_front front read = read >>= λ x. Ok (front ++ x.0, x.1)

regroup : {A : Type 0} (front : List A) (first : A) (read : Result (List A × ℕ) BodyFault)
    → with_front front (read >>= λ x. Ok (first ∷ x.0, x.1)) ≡ with_front (front ++ first ∷ []) read
regroup {A} front first (Ok x) = ap (λ (all : List A). Ok (all, x.1)) (simp append_assoc)
regroup front first (Err e) = refl

-- what fails first fails the whole
pub fails_on : {A B : Type 0} (e : BodyFault) (read : Result A BodyFault) (f : A → Result B BodyFault) → Fails e read → Fails e (read >>= f)
fails_on (Short place) read f h = rw h refl
fails_on (BadString place) read f h = rw h refl
fails_on (BadCount place) read f h = rw h refl
fails_on (Trailing place) read f h = rw h refl
fails_on OutOfMemory read f h = tt

-- an item, and more after it
abbrev consed : {A : Type 0} → Result (A × ℕ) BodyFault → (ℕ → Result (List A × ℕ) BodyFault) → Result (List A × ℕ) BodyFault
consed item more = item >>= λ first. more first.1 >>= λ others. Ok (first.0 ∷ others.0, others.1)

module _ {A : Type 0} (front : List A) (all total : Result (List A × ℕ) BodyFault) where
  step_on : (item : Result (A × ℕ) BodyFault) (more : ℕ → Result (List A × ℕ) BodyFault) (first : A) (after : ℕ) → all ≡ consed item more
      → item ≡ Ok (first, after)
      → with_front front all ≡ total → with_front (front ++ first ∷ []) (more after) ≡ total
  step_on item more first after is h so_far =
      let one : with_front front all ≡ with_front (front ++ first ∷ []) (more after) = rw (is, h) (regroup front first (more after)) in
      sym one ∙ so_far

  step_ends : (item : Result (A × ℕ) BodyFault) (more : ℕ → Result (List A × ℕ) BodyFault) (e : BodyFault) → all ≡ consed item more
      → Fails e item → with_front front all ≡ total → Fails e total
  step_ends item more e is h so_far =
      let failed : Fails e all = rw is (fails_on e item (λ first. more first.1 >>= λ others. Ok (first.0 ∷ others.0, others.1)) h) in
      subst (Fails e) so_far (fails_on e all (λ x. Ok (front ++ x.0, x.1)) failed)

  step_done : (place : ℕ) → all ≡ Ok ([], place) → with_front front all ≡ total → total ≡ Ok (front, place)
  step_done place is so_far =
      let one : with_front front all ≡ Ok (front, place) = rw is (ap (λ (l : List A). Ok (l, place)) (append-nil front)) in
      sym so_far ∙ one

-- ## So many items

each_more : {A : Type 0} (item_at : List ℕ → ℕ → Result (A × ℕ) BodyFault) (count i : ℕ) (body : List ℕ) (place : ℕ) → i < count
    → each_at item_at (count - i) body place ≡ consed (item_at body place) (each_at item_at (count - (i + 1)) body)
unfolding each_at
each_more item_at count i body place lt = let k : count - i ≡ suc (count - (i + 1)) = omega arith in rw k refl

no_more : {A : Type 0} (item_at : List ℕ → ℕ → Result (A × ℕ) BodyFault) (count i : ℕ) (body : List ℕ) (place : ℕ) → count ≤ i
    → each_at item_at (count - i) body place ≡ Ok ([], place)
unfolding each_at
no_more item_at count i body place le = let k : count - i ≡ 0 = omega arith in rw k refl

pub goes_on : {A : Type 0} (item_at : List ℕ → ℕ → Result (A × ℕ) BodyFault) (front : List A) (count i : ℕ) (body : List ℕ) (place : ℕ)
    (first : A) (after : ℕ) (total : Result (List A × ℕ) BodyFault) → i < count → item_at body place ≡ Ok (first, after)
    → with_front front (each_at item_at (count - i) body place) ≡ total
    → with_front (front ++ first ∷ []) (each_at item_at (count - (i + 1)) body after) ≡ total
goes_on item_at front count i body place first after total lt h so_far =
    step_on front (each_at item_at (count - i) body place) total (item_at body place) (each_at item_at (count - (i + 1)) body) first after
    (each_more item_at count i body place lt) h so_far

pub ends : {A : Type 0} (item_at : List ℕ → ℕ → Result (A × ℕ) BodyFault) (e : BodyFault) (front : List A) (count i : ℕ) (body : List ℕ)
    (place : ℕ) (total : Result (List A × ℕ) BodyFault) → i < count → Fails e (item_at body place)
    → with_front front (each_at item_at (count - i) body place) ≡ total → Fails e total
ends item_at e front count i body place total lt h so_far =
    step_ends front (each_at item_at (count - i) body place) total (item_at body place) (each_at item_at (count - (i + 1)) body) e
    (each_more item_at count i body place lt) h so_far

pub is_done : {A : Type 0} (item_at : List ℕ → ℕ → Result (A × ℕ) BodyFault) (front : List A) (count i : ℕ) (body : List ℕ) (place : ℕ)
    (total : Result (List A × ℕ) BodyFault) → count ≤ i → with_front front (each_at item_at (count - i) body place) ≡ total
    → total ≡ Ok (front, place)
is_done item_at front count i body place total le so_far = step_done front (each_at item_at (count - i) body place) total place
    (no_more item_at count i body place le) so_far

-- ## An item for each of some

module _ {A B : Type 0} (read_at : A → List ℕ → ℕ → Result (B × ℕ) BodyFault) (front : List B) (xs : List A) (i : ℕ) (d : A) (body : List ℕ)
    (place : ℕ) (total : Result (List B × ℕ) BodyFault) where
  for_more : i < length xs → for_each_at read_at (drop i xs) body place ≡ consed (read_at (get_or xs i d) body place)
      (for_each_at read_at (drop (i + 1) xs) body)
  unfolding for_each_at
  for_more lt = rw (add-one, drop-cons xs i d lt) refl

  pub for_goes_on : (first : B) (after : ℕ) → i < length xs → read_at (get_or xs i d) body place ≡ Ok (first, after)
      → with_front front (for_each_at read_at (drop i xs) body place) ≡ total
      → with_front (front ++ first ∷ []) (for_each_at read_at (drop (i + 1) xs) body after) ≡ total
  for_goes_on first after lt h so_far = step_on front (for_each_at read_at (drop i xs) body place) total
      (read_at (get_or xs i d) body place) (for_each_at read_at (drop (i + 1) xs) body) first after (for_more lt) h so_far

  pub for_ends : (e : BodyFault) → i < length xs → Fails e (read_at (get_or xs i d) body place)
      → with_front front (for_each_at read_at (drop i xs) body place) ≡ total → Fails e total
  for_ends e lt h so_far = step_ends front (for_each_at read_at (drop i xs) body place) total (read_at (get_or xs i d) body place)
      (for_each_at read_at (drop (i + 1) xs) body) e (for_more lt) h so_far

for_none : {A B : Type 0} (read_at : A → List ℕ → ℕ → Result (B × ℕ) BodyFault) (xs : List A) (i : ℕ) (body : List ℕ) (place : ℕ)
    → length xs ≤ i → for_each_at read_at (drop i xs) body place ≡ Ok ([], place)
unfolding for_each_at
for_none read_at xs i body place le = rw (drop_all i xs le) refl

pub for_done : {A B : Type 0} (read_at : A → List ℕ → ℕ → Result (B × ℕ) BodyFault) (front : List B) (xs : List A) (i : ℕ) (body : List ℕ)
    (place : ℕ) (total : Result (List B × ℕ) BodyFault)
    → length xs ≤ i → with_front front (for_each_at read_at (drop i xs) body place) ≡ total → total ≡ Ok (front, place)
for_done read_at front xs i body place total le so_far = step_done front (for_each_at read_at (drop i xs) body place) total place
    (for_none read_at xs i body place le) so_far

-- ## The items of a shape

shape_more : (shape : List Item) (i : ℕ) (d : Item) (body : List ℕ) (place : ℕ) → i < length shape
    → values_at (drop i shape) body place ≡ consed (item_at (get_or shape i d) body place) (values_at (drop (i + 1) shape) body)
unfolding values_at
shape_more shape i d body place lt = rw (add-one, drop-cons shape i d lt) refl

pub index_goes_on : (front : List Value) (shape : List Item) (i : ℕ) (d : Item) (body : List ℕ) (place : ℕ) (first : Value) (after : ℕ)
    (total : Result (List Value × ℕ) BodyFault)
    → i < length shape → item_at (get_or shape i d) body place ≡ Ok (first, after)
    → with_front front (values_at (drop i shape) body place) ≡ total
    → with_front (front ++ first ∷ []) (values_at (drop (i + 1) shape) body after) ≡ total
index_goes_on front shape i d body place first after total lt h so_far =
    step_on front (values_at (drop i shape) body place) total (item_at (get_or shape i d) body place)
    (values_at (drop (i + 1) shape) body) first after (shape_more shape i d body place lt) h so_far

pub index_ends : (e : BodyFault) (front : List Value) (shape : List Item) (i : ℕ) (d : Item) (body : List ℕ) (place : ℕ)
    (total : Result (List Value × ℕ) BodyFault)
    → i < length shape → Fails e (item_at (get_or shape i d) body place) → with_front front (values_at (drop i shape) body place) ≡ total
    → Fails e total
index_ends e front shape i d body place total lt h so_far =
    step_ends front (values_at (drop i shape) body place) total (item_at (get_or shape i d) body place)
    (values_at (drop (i + 1) shape) body) e (shape_more shape i d body place lt) h so_far

shape_done : (shape : List Item) (i : ℕ) (body : List ℕ) (place : ℕ) → length shape ≤ i
    → values_at (drop i shape) body place ≡ Ok ([], place)
unfolding values_at
shape_done shape i body place le = rw (drop_all i shape le) refl

pub index_done : (front : List Value) (shape : List Item) (i : ℕ) (body : List ℕ) (place : ℕ) (total : Result (List Value × ℕ) BodyFault)
    → length shape ≤ i → with_front front (values_at (drop i shape) body place) ≡ total → total ≡ Ok (front, place)
index_done front shape i body place total le so_far = step_done front (values_at (drop i shape) body place) total place
    (shape_done shape i body place le) so_far

-- referents one after the other, as a loop writes them
pub referent_more : (count i : ℕ) (d : Draft) → i < count → put_referents (count - i) d ≡ put_referents (count - (i + 1)) (put_referent d)
referent_more count i d lt = let k : count - i ≡ suc (count - (i + 1)) = omega arith in rw k refl

pub no_referent : (count i : ℕ) (d : Draft) → count ≤ i → put_referents (count - i) d ≡ d
no_referent count i d le = let k : count - i ≡ 0 = omega arith in rw k refl

-- what no error says
pub pushed : {E : Type 0} (P : Type 0) (r : Result (Unit {0}) E) → false ≡ is_err r → OnOk r P → P
pushed P (Ok x) passed h = h
pushed P (Err e) passed h = absurd cc
