-- Numbers that are at least 1, rise, and lie below the next one.
use Rattle.std.proofs.Common.{ℕ, ◌≡◌, ◌+◌, ◌<◌, ◌≤◌, Bool, List, [], ◌∷◌, ◌++◌, filter, map, get_or, sym, subst, arith}
use Rattle.std.proofs.lemmas.List.Elements.{All-filter, All-push, All-map, All-nil}
use Rattle.std.proofs.lemmas.List.Kept.{AllPairs-filter}
use Rattle.std.proofs.lemmas.List.Quantifiers.{all_pairs_push}
use Rattle.scm_rules.specs.Valid.{AreNumbered}
use Rattle.scm_runs.proofs.Lists.{pairs_map}

pub numbered_none : {A : Type 0} (number : A → ℕ) (next : ℕ) → AreNumbered number next []
numbered_none number next = record {
  positive = All-nil (λ r. 1 ≤ number r);
  below = All-nil (λ r. number r < next);
  rising = λ i j d lt within. absurd (omega arith);
}

pub numbered_empty : {A : Type 0} (number : A → ℕ) (next : ℕ) (rows : List A) → rows ≡ [] → AreNumbered number next rows
numbered_empty number next rows e = subst (λ rs. AreNumbered number next rs) (sym e) (numbered_none number next)

pub numbered_push : {A : Type 0} (number : A → ℕ) (next : ℕ) (rows : List A) (row : A) → AreNumbered number next rows → 1 ≤ next
    → number row ≡ next → AreNumbered number (next + 1) (rows ++ row ∷ [])
numbered_push number next rows row old first new = record {
  positive = All-push (λ r. 1 ≤ number r) rows row old.positive (omega arith);
  below = All-push (λ r. number r < next + 1) rows row (λ k d lt. let b = old.below k d lt in omega arith) (omega arith);
  rising = all_pairs_push (λ a b. number a < number b) rows row old.rising (λ k d lt. let b = old.below k d lt in omega arith);
}

pub numbered_filter : {A : Type 0} (number : A → ℕ) (next : ℕ) (p : A → Bool) (rows : List A) → AreNumbered number next rows
    → AreNumbered number next (filter p rows)
numbered_filter number next p rows old = record {
  positive = All-filter p (λ r. 1 ≤ number r) rows old.positive;
  below = All-filter p (λ r. number r < next) rows old.below;
  rising = AllPairs-filter (λ a b. number a < number b) p rows old.rising;
}

-- a map that changes no number
pub numbered_map : {A : Type 0} (number : A → ℕ) (next : ℕ) (change : A → A) → ((row : A) → number (change row) ≡ number row)
    → (rows : List A) → AreNumbered number next rows → AreNumbered number next (map change rows)
numbered_map number next change same rows old = record {
  positive = All-map (λ r. 1 ≤ number r) change rows (λ k d lt. subst (λ n. 1 ≤ n) (sym (same (get_or rows k d))) (old.positive k d lt));
  below = All-map (λ r. number r < next) change rows (λ k d lt. subst (λ n. n < next) (sym (same (get_or rows k d))) (old.below k d lt));
  rising = pairs_map (λ row. Unit {0}) (λ a b. number a < number b) (λ a b. number a < number b) change
      (λ a b p q lt. let x = same a in let y = same b in omega arith) rows (λ k d lt. tt) old.rising;
}
