-- What finds, filters and maps do to lists of rows.
use Rattle.std.proofs.Common.{ℕ, zero, suc, ◌≡◌, ◌∙◌, ◌<◌, ◌==◌, ◌||◌, ◌&&◌, Bool, true, false, not, cond, List, [], ◌∷◌, ◌++◌, Some}
use Rattle.std.proofs.Common.{filter, find, length, map, get_or, ap, sym, refl, subst, arith, eq-eqb, eqb-true, ne_eqb, ◌≤◌}
use Rattle.std.specs.Prelude.{All, AllPairs, is_some, unwrap_or}
use Rattle.std.specs.List.{list_any}
use Rattle.std.proofs.lemmas.List.{get_or-map, length-map}
use Rattle.std.proofs.lemmas.List.Elements.{All-nil, All-cons, All-head, All-tail}
use Rattle.std.proofs.lemmas.List.Folds.{list_any_none}
use Rattle.std.proofs.lemmas.Bool.{and_right}

pub find_more : {X : Type 0} (p : X → Bool) (xs ys : List X) → is_some (find p xs) ≡ true → find p (xs ++ ys) ≡ find p xs
find_more p [] ys e = absurd (cc)
find_more p (x ∷ xs) ys e =
    elim (p x) as (λ b. is_some (cond b (Some x) (find p xs)) ≡ true → cond b (Some x) (find p (xs ++ ys)) ≡ cond b (Some x) (find p xs))
    [ true ↦ λ h. refl | false ↦ λ h. find_more p xs ys h ] e

-- what a filter drops is not found
pub find_filter : {X : Type 0} (p q : X → Bool) → ((x : X) → p x ≡ true → q x ≡ true) → (xs : List X) → find p (filter q xs) ≡ find p xs
find_filter p q keeps [] = refl
find_filter p q keeps (x ∷ xs) =
    elim (q x) as (λ b. q x ≡ b → find p (cond b (x ∷ filter q xs) (filter q xs)) ≡ cond (p x) (Some x) (find p xs)) [
      | true ↦ λ e. ap (λ r. cond (p x) (Some x) r) (find_filter p q keeps xs)
      | false ↦ λ e. (elim (p x) as (λ b. p x ≡ b → find p (filter q xs) ≡ cond b (Some x) (find p xs))
          [ true ↦ λ h. absurd (let t = keeps x h in cc) | false ↦ λ h. find_filter p q keeps xs ] refl)
    ] refl

pub none_found : {X : Type 0} (p : X → Bool) (xs : List X) → is_some (find p xs) ≡ false → All (λ x. p x ≡ false) xs
none_found p [] e = All-nil (λ y. p y ≡ false)
none_found p (x ∷ xs) e =
    elim (p x) as (λ b. p x ≡ b → is_some (cond b (Some x) (find p xs)) ≡ false → All (λ y. p y ≡ false) (x ∷ xs))
    [ true ↦ λ h g. absurd (cc) | false ↦ λ h g. All-cons (λ y. p y ≡ false) x xs h (none_found p xs g) ] refl e

pub none_any : {X : Type 0} (p : X → Bool) (xs : List X) → list_any p xs ≡ false → All (λ x. p x ≡ false) xs
none_any p [] e = All-nil (λ y. p y ≡ false)
none_any p (x ∷ xs) e =
    elim (p x) as (λ b. p x ≡ b → (b || list_any p xs) ≡ false → All (λ y. p y ≡ false) (x ∷ xs))
    [ true ↦ λ h g. absurd (cc) | false ↦ λ h g. All-cons (λ y. p y ≡ false) x xs h (none_any p xs g) ] refl e

-- what holds of each pair, and of each element, is kept by a map
pub pairs_map : {X : Type 0} (Q : X → Type 0) (R S : X → X → Type 0) (f : X → X) → ((a b : X) → Q a → Q b → R a b → S (f a) (f b))
    → (xs : List X) → All Q xs → AllPairs R xs → AllPairs S (map f xs)
pairs_map Q R S f keeps xs each all i j d below within =
    let short : j < length xs = simp length-map at within in
    let shorter : i < length xs = omega arith in
    subst (λ a. S a (get_or (map f xs) j d)) (sym (get_or-map f xs i d d shorter))
    (subst (λ b. S (f (get_or xs i d)) b) (sym (get_or-map f xs j d d short))
    (keeps _ _ (each i d shorter) (each j d short) (all i j d below short)))

pub same_some : {X : Type 0} (x y : X) → Some x ≡ Some y → x ≡ y
same_some x y e = ap (λ o. unwrap_or o x) e

pub found_passes : {X : Type 0} (p : X → Bool) (x : X) (xs : List X) → find p xs ≡ Some x → p x ≡ true
found_passes p x [] e = absurd (cc)
found_passes p x (y ∷ ys) e =
    elim (p y) as (λ b. p y ≡ b → cond b (Some y) (find p ys) ≡ Some x → p x ≡ true)
    [ true ↦ λ h g. subst (λ z. p z ≡ true) (same_some y x g) h | false ↦ λ h g. found_passes p x ys g ] refl e

-- what holds of each holds of the one that is found
pub found_has : {X : Type 0} (P : X → Type 0) (p : X → Bool) (x : X) (xs : List X) → All P xs → find p xs ≡ Some x → P x
found_has P p x [] each e = absurd (cc)
found_has P p x (y ∷ ys) each e =
    elim (p y) as (λ b. cond b (Some y) (find p ys) ≡ Some x → P x)
    [ true ↦ λ g. subst P (same_some y x g) (All-head P y ys each) | false ↦ λ g. found_has P p x ys (All-tail P y ys each) g ] e

-- one is found exactly where there is one
pub is_some-find : {X : Type 0} (p : X → Bool) (xs : List X) → is_some (find p xs) ≡ list_any p xs
is_some-find p [] = refl
is_some-find p (x ∷ xs) = elim (p x) as (λ b. is_some (cond b (Some x) (find p xs)) ≡ (b || list_any p xs)) [
  | true ↦ refl
  | false ↦ is_some-find p xs
]

-- where numbers rise, the one that is found by its number is the only one with it
pub found_only : {X : Type 0} (number : X → ℕ) (n : ℕ) (x : X) (xs : List X) → AllPairs (λ a b. number a < number b) xs
    → find (λ y. number y == n) xs ≡ Some x → All (λ y. (number y == n) ≡ true → y ≡ x) xs
found_only number n x [] rising e = All-nil (λ y. (number y == n) ≡ true → y ≡ x)
found_only number n x (y ∷ ys) rising e =
    elim (number y == n) as (λ b. (number y == n) ≡ b → cond b (Some y) (find (λ z. number z == n) ys) ≡ Some x
    → All (λ z. (number z == n) ≡ true → z ≡ x) (y ∷ ys)) [
      | true ↦ λ h g. All-cons (λ z. (number z == n) ≡ true → z ≡ x) y ys (λ same. same_some y x g)
          (λ k d lt same. absurd (
          let here = eqb-true (number y) n h in
          let there = eqb-true (number (get_or ys k d)) n same in
          let up : number y < number (get_or ys k d) = rising 0 (suc k) d (omega arith) (omega arith) in
          omega arith))
      | false ↦ λ h g. All-cons (λ z. (number z == n) ≡ true → z ≡ x) y ys (λ same. absurd (cc))
          (found_only number n x ys (λ i j d lt within. rising (suc i) (suc j) d (omega arith) (omega arith)) g)
    ] refl e

-- where numbers rise, who has the number of one that is found with a property has the property
pub found_owns : {X : Type 0} (q : X → Bool) (number : X → ℕ) (n : ℕ) (xs : List X) → AllPairs (λ a b. number a < number b) xs
    → is_some (find (λ x. q x && number x == n) xs) ≡ true → All (λ x. (number x == n) ≡ true → q x ≡ true) xs
found_owns q number n [] rising e = All-nil (λ x. (number x == n) ≡ true → q x ≡ true)
found_owns q number n (y ∷ ys) rising e =
    let rest = found_owns q number n ys (λ i j d lt within. rising (suc i) (suc j) d (omega arith) (omega arith)) in
    let later : (number y == n) ≡ true → All (λ x. (number x == n) ≡ false) ys =
    λ same k d lt. ne_eqb (number (get_or ys k d)) n (λ there.
    let here = eqb-true (number y) n same in
    let up : number y < number (get_or ys k d) = rising 0 (suc k) d (omega arith) (omega arith) in
    omega arith) in
    elim (q y) as (λ b. q y ≡ b → is_some (cond (b && number y == n) (Some y) (find (λ x. q x && number x == n) ys)) ≡ true
    → All (λ x. (number x == n) ≡ true → q x ≡ true) (y ∷ ys)) [
      | true ↦ λ own. elim (number y == n) as (λ b. (number y == n) ≡ b
          → is_some (cond b (Some y) (find (λ x. q x && number x == n) ys)) ≡ true
          → All (λ x. (number x == n) ≡ true → q x ≡ true) (y ∷ ys)) [
            | true ↦ λ h g. All-cons (λ x. (number x == n) ≡ true → q x ≡ true) y ys (λ same. own)
                (λ k d lt same. absurd (let none = later h k d lt in cc))
            | false ↦ λ h g. All-cons (λ x. (number x == n) ≡ true → q x ≡ true) y ys (λ same. own) (rest g)
          ] refl
      | false ↦ λ own g. All-cons (λ x. (number x == n) ≡ true → q x ≡ true) y ys
          (λ same. absurd (
          let none = list_any_none (λ x. q x && number x == n) ys (λ k d lt. and_right _ _ (later same k d lt)) in
          let found = is_some-find (λ x. q x && number x == n) ys in
          cc)) (rest g)
    ] refl e

-- a filter that keeps who passes a test leaves one that passes it
pub any_filter : {X : Type 0} (p q : X → Bool) (xs : List X) → All (λ x. p x ≡ true → q x ≡ true) xs → list_any p xs ≡ true
    → list_any p (filter q xs) ≡ true
any_filter p q [] keeps e = absurd (cc)
any_filter p q (x ∷ xs) keeps e =
    let here = All-head (λ y. p y ≡ true → q y ≡ true) x xs keeps in
    let rest = any_filter p q xs (All-tail (λ y. p y ≡ true → q y ≡ true) x xs keeps) in
    elim (p x) as (λ b. p x ≡ b → (b || list_any p xs) ≡ true → list_any p (cond (q x) (x ∷ filter q xs) (filter q xs)) ≡ true) [
      | true ↦ λ h g. subst (λ b. list_any p (cond b (x ∷ filter q xs) (filter q xs)) ≡ true) (sym (here h))
          (ap (λ b. b || list_any p (filter q xs)) h)
      | false ↦ λ h g. (elim (q x) as (λ b. list_any p (cond b (x ∷ filter q xs) (filter q xs)) ≡ true)
          [ true ↦ ap (λ b. b || list_any p (filter q xs)) h ∙ rest g | false ↦ rest g ])
    ] refl e

-- where each passes the second test, one that passes the first passes both
pub any_both : {X : Type 0} (p q : X → Bool) (xs : List X) → All (λ x. q x ≡ true) xs → list_any p xs ≡ true
    → list_any (λ x. p x && q x) xs ≡ true
any_both p q [] each e = absurd (cc)
any_both p q (x ∷ xs) each e =
    elim (p x) as (λ b. (b || list_any p xs) ≡ true → ((b && q x) || list_any (λ y. p y && q y) xs) ≡ true) [
      | true ↦ λ g. ap (λ b. b || list_any (λ y. p y && q y) xs) (All-head (λ y. q y ≡ true) x xs each)
      | false ↦ λ g. any_both p q xs (All-tail (λ y. q y ≡ true) x xs each) g
    ] e

-- a map that changes no number
pub map_same : {X Y : Type 0} (f : X → X) (g : X → Y) → ((x : X) → g (f x) ≡ g x) → (xs : List X) → map g (map f xs) ≡ map g xs
map_same f g same [] = refl
map_same f g same (x ∷ xs) = ap (λ y. y ∷ map g (map f xs)) (same x) ∙ ap (λ ys. g x ∷ ys) (map_same f g same xs)

-- one map behind another
pub map_both : {X : Type 0} (f g : X → X) (xs : List X) → map f (map g xs) ≡ map (λ x. f (g x)) xs
map_both f g [] = refl
map_both f g (x ∷ xs) = ap (λ ys. f (g x) ∷ ys) (map_both f g xs)

-- a filter leaves what it kept
pub filter_twice : {A : Type 0} (p : A → Bool) (xs : List A) → filter p (filter p xs) ≡ filter p xs
filter_twice p [] = refl
filter_twice p (x ∷ xs) =
    elim (p x) as (λ b. p x ≡ b → filter p (cond b (x ∷ filter p xs) (filter p xs)) ≡ cond b (x ∷ filter p xs) (filter p xs))
    [ true ↦ λ e. rw e (ap (λ ys. x ∷ ys) (filter_twice p xs)) | false ↦ λ e. filter_twice p xs ] refl

-- what a filter keeps passes its test
pub passes_not : {A : Type 0} (p : A → Bool) (xs : List A) → All (λ x. p x ≡ false) (filter (λ x. not (p x)) xs)
passes_not p [] = All-nil (λ y. p y ≡ false)
passes_not p (x ∷ xs) =
    elim (p x) as (λ b. p x ≡ b → All (λ y. p y ≡ false) (cond (not b) (x ∷ filter (λ y. not (p y)) xs) (filter (λ y. not (p y)) xs)))
    [ true ↦ λ e. passes_not p xs | false ↦ λ e. All-cons (λ y. p y ≡ false) x (filter (λ y. not (p y)) xs) e (passes_not p xs) ] refl

-- one that passes, at its place
pub any_at : {X : Type 0} (p : X → Bool) (xs : List X) (k : ℕ) (d : X) → k < length xs → p (get_or xs k d) ≡ true → list_any p xs ≡ true
any_at p [] k d lt h = absurd (omega arith)
any_at p (x ∷ xs) zero d lt h = rw h refl
any_at p (x ∷ xs) (suc k) d lt h = elim (p x) as (λ b. (b || list_any p xs) ≡ true) [
  | true ↦ refl
  | false ↦ any_at p xs k d (omega arith) h
]

-- one more that passes is found, unless one before it is
pub find_new : {X : Type 0} (p : X → Bool) (xs : List X) (y : X) → p y ≡ true → is_some (find p (xs ++ y ∷ [])) ≡ true
find_new p [] y passes = rw passes refl
find_new p (x ∷ xs) y passes = elim (p x) as (λ b. is_some (cond b (Some x) (find p (xs ++ y ∷ []))) ≡ true) [
  | true ↦ refl
  | false ↦ find_new p xs y passes
]

-- a filter leaves no more
pub filter_short : {X : Type 0} (p : X → Bool) (xs : List X) → length (filter p xs) ≤ length xs
filter_short p [] = omega arith
filter_short p (x ∷ xs) =
    let rest = filter_short p xs in
    elim (p x) as (λ b. length (cond b (x ∷ filter p xs) (filter p xs)) ≤ suc (length xs)) [ true ↦ omega arith | false ↦ omega arith ]

-- each has its own number
pub has_own : {X : Type 0} (number : X → ℕ) (xs : List X) → All (λ x. list_any (λ y. number y == number x) xs ≡ true) xs
has_own number xs k d lt = any_at (λ y. number y == number (get_or xs k d)) xs k d lt (eq-eqb _ _ refl)

-- a fact of all numbers is one of all that have them
pub each_number : {X : Type 0} (P : ℕ → Type 0) (number : X → ℕ) (xs : List X) → All P (map number xs) → All (λ x. P (number x)) xs
each_number P number xs all k d lt =
    let long = length-map xs number in
    subst P (get_or-map number xs k d (number d) lt) (all k (number d) (omega (arith, lt, long)))

-- where numbers rise, no other row has a row's number
pub alone : {X : Type 0} (number : X → ℕ) (rows : List X) → AllPairs (λ a b. number a < number b) rows
    → All (λ row. All (λ other. number other ≡ number row → other ≡ row) rows) rows
alone number [] rising = All-nil (λ row. All (λ other. number other ≡ number row → other ≡ row) [])
alone number (x ∷ xs) rising =
    All-cons (λ row. All (λ other. number other ≡ number row → other ≡ row) (x ∷ xs)) x xs
    (All-cons (λ other. number other ≡ number x → other ≡ x) x xs (λ e. refl)
    (λ k d lt e. absurd (let up : number x < number (get_or xs k d) = rising 0 (suc k) d (omega arith) (omega arith) in omega arith)))
    (λ k d lt. All-cons (λ other. number other ≡ number (get_or xs k d) → other ≡ get_or xs k d) x xs
    (λ e. absurd (let up : number x < number (get_or xs k d) = rising 0 (suc k) d (omega arith) (omega arith) in omega arith))
    (alone number xs (λ i j c lt within. rising (suc i) (suc j) c (omega arith) (omega arith)) k d lt))

-- two filters leave no more than the one
pub filter_fewer : {X : Type 0} (p q : X → Bool) (xs : List X) → length (filter p (filter q xs)) ≤ length (filter p xs)
filter_fewer p q [] = omega arith
filter_fewer p q (x ∷ xs) =
    let rest = filter_fewer p q xs in
    elim (q x) as (λ b. length (filter p (cond b (x ∷ filter q xs) (filter q xs))) ≤ length (filter p (x ∷ xs))) [
      | true ↦ elim (p x) as (λ b. length (cond b (x ∷ filter p (filter q xs)) (filter p (filter q xs))) ≤ length
          (cond b (x ∷ filter p xs) (filter p xs))) [ true ↦ omega (arith, rest) | false ↦ rest ]
      | false ↦ elim (p x) as (λ b. length (filter p (filter q xs)) ≤ length (cond b (x ∷ filter p xs) (filter p xs)))
          [ true ↦ omega (arith, rest) | false ↦ rest ]
    ]

pub none_pass : {X : Type 0} (p : X → Bool) (xs : List X) → All (λ x. p x ≡ false) xs → filter p xs ≡ []
none_pass p [] none = refl
none_pass p (x ∷ xs) none = rw (All-head (λ y. p y ≡ false) x xs none) (none_pass p xs (All-tail (λ y. p y ≡ false) x xs none))
