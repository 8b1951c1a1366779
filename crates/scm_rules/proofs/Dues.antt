-- What ticks keep.
use Rattle.std.proofs.Common.{ℕ, ◌≡◌, ◌+◌, zero, suc, true, false, cond, List, [], ◌∷◌, Option, None, Some, filter, length, subst, refl}
use Rattle.std.specs.Prelude.{All}
use Rattle.std.proofs.lemmas.List.Elements.{All-filter, All-head, All-tail}
use Rattle.scm_model.specs.declared.flat.Due.{Due}
use Rattle.scm_model.specs.declared.flat.Flat.{Flat}
use Rattle.scm_model.specs.declared.flat.Limits.{Limits}
use Rattle.scm_model.proofs.Found.{found_keeps}
use Rattle.scm_rules.specs.Due.{comes_before, earlier, first_due, is_due, next_due}
use Rattle.scm_rules.specs.Ticks.{all_fired, fired, first_run, ticked}

-- ## One row after another

all_keep : (P : Flat → Type 0) (l : Limits) → ((f : Flat) (row : Due) → next_due f ≡ Some row → P f → P (fired l row f))
    → (n : ℕ) (f : Flat) → P f → P (all_fired l n f)
all_keep P l each zero f p = p
all_keep P l each (suc n) f p = all_keep P l each n (first_run l f) (found_keeps P (fired l) (next_due f) f p (λ row is. each f row is p))

-- what each row that is due keeps
pub ticked_keeps : (P : Flat → Type 0) (l : Limits) → ((f : Flat) (row : Due) → next_due f ≡ Some row → P f → P (fired l row f))
    → (f : Flat) → P f → P (ticked l f)
ticked_keeps P l each f p = all_keep P l each (length f.dues + length f.dues) f p

-- ## The row that is due first

earlier_has : (P : Due → Type 0) (row : Due) (found : Option Due) → P row → ((other : Due) → found ≡ Some other → P other)
    → P (earlier row found)
earlier_has P row None p others = p
earlier_has P row (Some other) p others = elim (comes_before other row) as (λ b. P (cond b other row)) [
  | true ↦ others other refl
  | false ↦ p
]

first_has : (P : Due → Type 0) (rows : List Due) (row : Due) → All P rows → first_due rows ≡ Some row → P row
first_has P [] row all e = absurd cc
first_has P (one ∷ rows) row all e =
    let same : earlier one (first_due rows) ≡ row = cc in
    subst P same (earlier_has P one (first_due rows) (All-head P one rows all)
    (λ other is. first_has P rows other (All-tail P one rows all) is))

-- it has what all rows have
pub next_has : (P : Due → Type 0) (f : Flat) (row : Due) → All P f.dues → next_due f ≡ Some row → P row
next_has P f row all e = first_has P (filter (is_due f.moment) f.dues) row (All-filter (is_due f.moment) P f.dues all) e
