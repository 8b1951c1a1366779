-- What a crash leaves on the way of calls of a keeper.
use Rattle.std.proofs.Common.{ℕ, ◌≡◌, ⊎_elim, inl, inr, List, [], Option, Some, None, refl, sym, ◌∙◌, subst, arith, ap}
use Rattle.std.proofs.Common.{append-nil, Ok}
use Rattle.record_journal.specs.Crashes.{Crashes, Crashing, EachLeaves, HasAdded, IsOldOr, Same}
use Rattle.record_journal.specs.Bearing.{Mends, kept_of}
use Rattle.record_journal.specs.declared.journal.Journal.{Journal}

-- nothing was called
pub same_moment : (P : List ℕ → Type 0) (c : Crashes) → ((y : List ℕ) → c.leaves y → P y) → EachLeaves P c c
same_moment P c here = record {
  later = omega arith;
  between = λ t y le left. inl left;
  keeps = λ t y le left. left;
  now = here;
}

pub stays : (P : List ℕ → List ℕ → Type 0) (held : Option (List ℕ)) (c : Crashes) → Crashing P held c c
stays P held c x is = same_moment (IsOldOr c (P x)) c (λ y here. inl here)

pub weaker : (P Q : List ℕ → Type 0) (a b : Crashes) → EachLeaves P a b → ((y : List ℕ) → P y → Q y) → EachLeaves Q a b
weaker P Q a b goes h = record {
  later = goes.later;
  between = λ t y le left. ⊎_elim inl (λ p. inr (h y p)) (goes.between t y le left);
  keeps = goes.keeps;
  now = λ y here. h y (goes.now y here);
}

-- one run after another
pub joined : (P Q R : List ℕ → Type 0) (a b c : Crashes) → EachLeaves P a b → EachLeaves Q b c → ((y : List ℕ) → P y → R y)
    → ((y : List ℕ) → Q y → R y) → EachLeaves R a c
joined P Q R a b c first second p q = record {
  later = omega (arith, first.later, second.later);
  between =
      λ t y le left. ⊎_elim (λ was. ⊎_elim inl (λ h. inr (p y h)) (first.between t y le was)) (λ h. inr (q y h))
      (second.between t y (omega (arith, le, first.later)) left);
  keeps = λ t y le left. second.keeps t y (omega (arith, le, first.later)) (first.keeps t y le left);
  now = λ y now. q y (second.now y now);
}

-- what is held when what a failed append left is cut
mended : (E : Type 0) (j : Journal) (held mid : Option (List ℕ)) (x : List ℕ) → Mends {E = E} j held mid (Ok tt) → held ≡ Some x
    → mid ≡ Some (kept_of j x)
mended E j None mid x mends is = absurd cc
mended E j (Some bytes) None x mends is = absurd mends
mended E j (Some bytes) (Some now) x mends is =
    let same : bytes ≡ x = cc in
    ap (λ (b : List ℕ). Some b) (mends ∙ ap (kept_of j) same)

-- the bytes are as they were
alone : (bytes x : List ℕ) → HasAdded bytes x x
alone bytes x = ([], (bytes, refl), sym (append-nil x))

-- where it isn't cut, nothing is added
pub put_broken : (j : Journal) (bytes : List ℕ) (held : Option (List ℕ)) (a b : Crashes) → Crashing (λ x. Same (kept_of j x)) held a b
    → Crashing (λ x. HasAdded bytes (kept_of j x)) held a b
put_broken j bytes held a b mends x is =
    weaker (IsOldOr a (Same (kept_of j x))) (IsOldOr a (HasAdded bytes (kept_of j x))) a b (mends x is)
    (λ y. ⊎_elim inl (λ (same : y ≡ kept_of j x). inr (subst (HasAdded bytes (kept_of j x)) (sym same) (alone bytes (kept_of j x)))))

pub put_whole : (E : Type 0) (j : Journal) (bytes : List ℕ) (held mid : Option (List ℕ)) (a b c : Crashes) → Mends {E = E} j held mid (Ok tt)
    → Crashing (λ x. Same (kept_of j x)) held a b → Crashing (HasAdded bytes) mid b c
    → Crashing (λ x. HasAdded bytes (kept_of j x)) held a c
put_whole E j bytes held mid a b c mends first second x is =
    let cut = put_broken j bytes held a b first x is in
    let P : List ℕ → Type 0 = IsOldOr a (HasAdded bytes (kept_of j x)) in
    joined P (IsOldOr b (HasAdded bytes (kept_of j x))) P a b c cut (second (kept_of j x) (mended E j held mid x mends is)) (λ y p. p)
    (λ y. ⊎_elim (λ (was : b.leaves y). cut.now y was) (λ (added : HasAdded bytes (kept_of j x) y). inr added))

-- ## An opening

-- a run goes on where a read gives what stands for what was given before
pub followed : (P Q R : List ℕ → List ℕ → Type 0) (f : List ℕ → List ℕ) (held mid : Option (List ℕ)) (a b c : Crashes)
    → Crashing P held a b → Crashing Q mid b c → ((x : List ℕ) → held ≡ Some x → mid ≡ Some (f x))
    → ((x y : List ℕ) → P x y → R x y) → ((x y : List ℕ) → Q (f x) y → R x y) → Crashing R held a c
followed P Q R f held mid a b c first second link p q x is =
    joined (IsOldOr a (P x)) (IsOldOr b (Q (f x))) (IsOldOr a (R x)) a b c (first x is) (second (f x) (link x is))
    (λ y. ⊎_elim inl (λ (h : P x y). inr (p x y h)))
    (λ y. ⊎_elim (λ (was : b.leaves y). ⊎_elim inl (λ (h : P x y). inr (p x y h)) ((first x is).now y was)) (λ (h : Q (f x) y). inr (q x y h)))
