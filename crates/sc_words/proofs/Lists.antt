-- What is read of words one by one.
use Rattle.std.proofs.Common.{◌≡◌, ℕ, ◌+◌, ◌<◌, ◌≤◌, Bool, true, false, List, [], ◌∷◌, ◌++◌, length, drop, map, get_or, refl, ap, sym, ◌∙◌}
use Rattle.std.proofs.Common.{append_assoc, append-nil, add-one, arith}
use Rattle.std.specs.Prelude.{◌==◌, ◌||◌, zero, suc, Option, None, Some, option_map, All, Result, Ok, Err, OnOk, is_err}
use Rattle.std.specs.Borrow.{Bor}
use Rattle.std.specs.List.{list_any, AllByRecursion}
use Rattle.std.proofs.Math.Seq.{drop-cons}
use Rattle.std.proofs.Math.ListN.{drop_of_length-le}
use Rattle.std.proofs.lemmas.List.Elements.{All-from_recursion}
use Rattle.std.proofs.lemmas.Bool.{true≢false}
use Rattle.scm_model.specs.declared.flat.Action.{Action}
use Rattle.sc_words.specs.Places.{◌>>=◌, each_from, fits}
use Rattle.sc_words.specs.Values.{each, with_first, action_named, actions_of}

-- ## Results

-- what a call promised where it succeeded
pub on_ok : {T E P : Type 0} (r : Result T E) → OnOk r P → is_err r ≡ false → P
on_ok (Ok x) p e = p
on_ok (Err x) p e = absurd (true≢false e)

pub map_same : (xs : List ℕ) → map (λ x. x) xs ≡ xs
map_same [] = refl
map_same (x ∷ xs) = ap (λ ys. x ∷ ys) (map_same xs)

-- ## Places

-- the element at a place, and those behind it
pub read_and : {A : Type 0} (xs : List A) (place : ℕ) (x : A) → place < length xs → x ≡ get_or xs place x
    → drop place xs ≡ x ∷ drop (place + 1) xs
read_and xs place x h e = rw add-one (drop-cons xs place x h ∙ ap (λ y. y ∷ drop (suc place) xs) (sym e))

-- the last one
pub read_alone : {A : Type 0} (xs : List A) (place : ℕ) (x : A) → place < length xs → x ≡ get_or xs place x → place + 1 ≡ length xs
    → drop place xs ≡ x ∷ []
read_alone xs place x h e last =
    let past : length xs ≤ place + 1 = omega arith in
    read_and xs place x h e ∙ ap (λ ys. x ∷ ys) (drop_of_length-le xs past)

plus_two : (place : ℕ) → place + 1 + 1 ≡ place + 2
plus_two place = omega arith

-- two of them, and those behind
pub read_two : {A : Type 0} (xs : List A) (place : ℕ) (x y : A) → place + 1 < length xs → x ≡ get_or xs place x
    → y ≡ get_or xs (place + 1) y
    → drop place xs ≡ x ∷ y ∷ drop (place + 2) xs
read_two xs place x y h e f =
    let within : place < length xs = omega arith in
    read_and xs place x within e ∙ ap (λ ys. x ∷ ys) (read_and xs (place + 1) y h f) ∙ ap (λ n. x ∷ y ∷ drop n xs) (plus_two place)

-- the texts of words that lie in memory
abbrev pub seen : List (Bor (List ℕ)) → List (List ℕ)
seen words = map (λ word. word.now) words

pub seen_and : (words : List (Bor (List ℕ))) (place : ℕ) (d : Bor (List ℕ)) → place < length words
    → seen (drop place words) ≡ (get_or words place d).now ∷ seen (drop (place + 1) words)
seen_and words place d h = rw add-one (ap seen (drop-cons words place d h))

pub seen_alone : (words : List (Bor (List ℕ))) (place : ℕ) (d : Bor (List ℕ)) → place < length words → place + 1 ≡ length words
    → seen (drop place words) ≡ (get_or words place d).now ∷ []
seen_alone words place d h last =
    let past : length words ≤ place + 1 = omega arith in
    seen_and words place d h ∙ ap (λ ys. (get_or words place d).now ∷ seen ys) (drop_of_length-le words past)

pub seen_two : (words : List (Bor (List ℕ))) (place : ℕ) (d e : Bor (List ℕ)) → place + 1 < length words
    → seen (drop place words) ≡ (get_or words place d).now ∷ (get_or words (place + 1) e).now ∷ seen (drop (place + 2) words)
seen_two words place d e h =
    let within : place < length words = omega arith in
    seen_and words place d within ∙ ap (λ ys. (get_or words place d).now ∷ ys) (seen_and words (place + 1) e h)
    ∙ ap (λ n. (get_or words place d).now ∷ (get_or words (place + 1) e).now ∷ seen (drop n words)) (plus_two place)

-- ## Each word

-- what was read, and then the rest
abbrev pub behind : {A : Type 0} → List A → Option (List A) → Option (List A)
behind xs more = option_map (λ ys. xs ++ ys) more

behind_first : {A : Type 0} (xs : List A) (x : A) (more : Option (List A))
    → behind xs (with_first (Some x) more) ≡ behind (xs ++ x ∷ []) more
behind_first xs x None = refl
behind_first xs x (Some more) = ap Some (sym (append_assoc xs (x ∷ []) more))

each_goes_on : {A : Type 0} (f : List ℕ → Option A) (word : List ℕ) (words : List (List ℕ)) (xs : List A) (x : A) → f word ≡ Some x
    → behind xs (each f (word ∷ words)) ≡ behind (xs ++ x ∷ []) (each f words)
unfolding each
each_goes_on f word words xs x e = ap (λ o. behind xs (with_first o (each f words))) e ∙ behind_first xs x (each f words)

each_stops : {A : Type 0} (f : List ℕ → Option A) (word : List ℕ) (words : List (List ℕ)) (xs : List A) → f word ≡ None
    → behind xs (each f (word ∷ words)) ≡ None
unfolding each
each_stops f word words xs e = ap (λ o. behind xs (with_first o (each f words))) e

each_ends : {A : Type 0} (f : List ℕ → Option A) (xs : List A) → behind xs (each f []) ≡ Some xs
unfolding each
each_ends f xs = rw append-nil refl

-- one word more stands for something
pub names_more : {A : Type 0} (f : List ℕ → Option A) (words : List (Bor (List ℕ))) (place : ℕ) (d : Bor (List ℕ)) (xs now : List A) (x : A)
    → place < length words → f (get_or words place d).now ≡ Some x → now ≡ xs ++ x ∷ []
    → behind now (each f (seen (drop (place + 1) words))) ≡ behind xs (each f (seen (drop place words)))
names_more f words place d xs now x h e grown =
    ap (λ ys. behind ys (each f (seen (drop (place + 1) words)))) grown
    ∙ sym (each_goes_on f (get_or words place d).now (seen (drop (place + 1) words)) xs x e)
    ∙ ap (λ ws. behind xs (each f ws)) (sym (seen_and words place d h))

-- or it doesn't
pub names_stop : {A : Type 0} (f : List ℕ → Option A) (words : List (Bor (List ℕ))) (place : ℕ) (d : Bor (List ℕ)) (xs : List A)
    → place < length words → f (get_or words place d).now ≡ None → behind xs (each f (seen (drop place words))) ≡ None
names_stop f words place d xs h e =
    ap (λ ws. behind xs (each f ws)) (seen_and words place d h) ∙ each_stops f (get_or words place d).now
    (seen (drop (place + 1) words)) xs e

pub names_end : {A : Type 0} (f : List ℕ → Option A) (words : List (Bor (List ℕ))) (place : ℕ) (xs : List A) → length words ≤ place
    → behind xs (each f (seen (drop place words))) ≡ Some xs
names_end f words place xs h = ap (λ ws. behind xs (each f (seen ws))) (drop_of_length-le words h) ∙ each_ends f xs

-- ## Actions

-- one action more
pub actions_more : (words : List (Bor (List ℕ))) (place : ℕ) (d e : Bor (List ℕ)) (xs now : List Action) (x : Action)
    → place + 1 < length words → action_named (get_or words place d).now (get_or words (place + 1) e).now ≡ Some x → now ≡ xs ++ x ∷ []
    → behind now (actions_of (seen (drop (place + 2) words))) ≡ behind xs (actions_of (seen (drop place words)))
unfolding actions_of
actions_more words place d e xs now x h is grown =
    let more = actions_of (seen (drop (place + 2) words)) in
    ap (λ ys. behind ys more) grown ∙ sym (behind_first xs x more) ∙ ap (λ o. behind xs (with_first o more)) (sym is)
    ∙ ap (λ ws. behind xs (actions_of ws)) (sym (seen_two words place d e h))

-- two words that are none
pub actions_stop : (words : List (Bor (List ℕ))) (place : ℕ) (d e : Bor (List ℕ)) (xs : List Action)
    → place + 1 < length words → action_named (get_or words place d).now (get_or words (place + 1) e).now ≡ None
    → behind xs (actions_of (seen (drop place words))) ≡ None
unfolding actions_of
actions_stop words place d e xs h is =
    let more = actions_of (seen (drop (place + 2) words)) in
    ap (λ ws. behind xs (actions_of ws)) (seen_two words place d e h) ∙ ap (λ o. behind xs (with_first o more)) is

-- a word is left over
pub actions_odd : (words : List (Bor (List ℕ))) (place : ℕ) (xs : List Action) → place < length words → place + 1 ≡ length words
    → behind xs (actions_of (seen (drop place words))) ≡ None
unfolding actions_of
actions_odd [] place xs h last = absurd (omega arith)
actions_odd (word ∷ words) place xs h last = ap (λ ws. behind xs (actions_of ws)) (seen_alone (word ∷ words) place word h last)

pub actions_end : (words : List (Bor (List ℕ))) (place : ℕ) (xs : List Action) → length words ≤ place
    → behind xs (actions_of (seen (drop place words))) ≡ Some xs
unfolding actions_of
actions_end words place xs h = ap (λ ws. behind xs (actions_of (seen ws))) (drop_of_length-le words h) ∙ ap Some (append-nil xs)

-- ## Each word from a place on

-- what was read, and then the rest
abbrev pub before : {A : Type 0} → List A → Result (List A) ℕ → Result (List A) ℕ
before xs more = more >>= λ ys. Ok (xs ++ ys)

before_first : {A : Type 0} (xs : List A) (x : A) (more : Result (List A) ℕ) → before xs (before (x ∷ []) more) ≡ before (xs ++ x ∷ []) more
before_first xs x (Ok more) = ap Ok (sym (append_assoc xs (x ∷ []) more))
before_first xs x (Err place) = refl

-- what a word stands for, and then the others
abbrev pub onto_each : {A : Type 0} → (List ℕ → Option A) → ℕ → List (List ℕ) → Option A → Result (List A) ℕ
onto_each f place words x = fits place x >>= λ y. each_from f (place + 1) words >>= λ ys. Ok (y ∷ ys)

module _ {A : Type 0} (f : List ℕ → Option A) (words : List (List ℕ)) (place : ℕ) where
  -- one more word stands for something
  pub from_more : (word : List ℕ) (xs now : List A) (x : A)
      → drop place words ≡ word ∷ drop (place + 1) words → f word ≡ Some x → now ≡ xs ++ x ∷ []
      → before now (each_from f (place + 1) (drop (place + 1) words)) ≡ before xs (each_from f place (drop place words))
  unfolding each_from
  from_more word xs now x cut e grown =
      let more = each_from f (place + 1) (drop (place + 1) words) in
      ap (λ ys. before ys more) grown ∙ sym (before_first xs x more)
      ∙ ap (λ o. before xs (onto_each f place (drop (place + 1) words) o)) (sym e)
      ∙ ap (λ ws. before xs (each_from f place ws)) (sym cut)

  -- or it doesn't
  pub from_stop : (word : List ℕ) (xs : List A)
      → drop place words ≡ word ∷ drop (place + 1) words → f word ≡ None → before xs (each_from f place (drop place words)) ≡ Err place
  unfolding each_from
  from_stop word xs cut e =
      ap (λ ws. before xs (each_from f place ws)) cut ∙ ap (λ o. before xs (onto_each f place (drop (place + 1) words) o)) e

  pub from_end : (xs : List A) → length words ≤ place → before xs (each_from f place (drop place words)) ≡ Ok xs
  unfolding each_from
  from_end xs h = ap (λ ws. before xs (each_from f place ws)) (drop_of_length-le words h) ∙ ap Ok (append-nil xs)

pub from_begin : {A : Type 0} (more : Result (List A) ℕ) → before [] more ≡ more
from_begin (Ok more) = refl
from_begin (Err place) = refl

-- ## Units

or_none : (a b : Bool) → (a || b) ≡ false → (a ≡ false) × (b ≡ false)
or_none false b e = (refl, e)
or_none true b e = absurd (true≢false e)

some_unit : (x : ℕ) → (x == 0) ≡ false → 0 < x
some_unit zero e = absurd (true≢false e)
some_unit (suc x) e = omega arith

by_units : (xs : List ℕ) → list_any (λ u. u == 0) xs ≡ false → AllByRecursion (λ u. 0 < u) xs
by_units [] e = tt
by_units (x ∷ xs) e = let p = or_none (x == 0) (list_any (λ u. u == 0) xs) e in (some_unit x p.0, by_units xs p.1)

-- where no unit is 0
pub no_zero : (xs : List ℕ) → list_any (λ u. u == 0) xs ≡ false → All (λ u. 0 < u) xs
no_zero xs e = All-from_recursion (λ u. 0 < u) xs (by_units xs e)
