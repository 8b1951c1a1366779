-- What a crash may leave, turn by turn.
use Rattle.std.proofs.Common.{ℕ, ◌≡◌, ◌≤◌, ⊎_elim, Bool, true, false, nat_lt, le-ltb, List, [], ◌∷◌, ◌++◌, length}
use Rattle.std.proofs.Common.{Option, Some, None, refl, sym, ap, ◌∙◌, subst, arith, append_assoc, append-nil}
use Rattle.std.proofs.lemmas.List.Sums.{fold-append}
use Rattle.record_journal.specs.Crashes.{AreCrashes, Crashes}
use Rattle.record_journal.specs.Bearing.{IsKept, Stands, Stood}
use Rattle.journal_lasting.specs.Lasting.{HasLasted, IsOfFront, TurnLeaves, next_change, stood_after, with_asked, with_outcome}
use Rattle.scm_model.specs.declared.steps.Change.{Change}
use Rattle.record_journal.proofs.Standing.{kept_more}
use Rattle.scm_history.specs.Outcomes.{Outcome}

asked_more : (s : Stood) (x : List ℕ) (change : Option Change) → IsKept s x → IsKept (with_asked s change) x
asked_more s x None kept = kept
asked_more s x (Some change) kept = kept_more s x change kept

-- ## At the opening

pub lasted_none : (s : Stood) (held : Option (List ℕ)) (settled : Type 0) (c : Crashes) → AreCrashes held c settled → Stands s c
    → HasLasted s c.moment [] c
lasted_none s held settled c law stands = record {
  stands = stands;
  moments = λ n. c.moment;
  first = refl;
  past = λ n le. omega arith;
  each = λ n le x left. record {
    front = [];
    rest = [];
    is = refl;
    all = le;
    kept = stands x (law.only_now x left);
  };
}

-- ## One turn more

-- what was kept of a front is so in the longer run
front_more : (s : Stood) (outs : List Outcome) (o : Outcome) (least : ℕ) (x : List ℕ) → IsOfFront s outs least x
    → IsOfFront s (outs ++ o ∷ []) least x
front_more s outs o least x is = record {
  front = is.front;
  rest = is.rest ++ o ∷ [];
  is = ap (λ (l : List Outcome). l ++ o ∷ []) is.is ∙ append_assoc is.front is.rest (o ∷ []);
  all = is.all;
  kept = in_rest is.rest is.kept;
}
  where
    in_rest : (rest : List Outcome) → IsKept (with_asked (stood_after s is.front) (next_change rest)) x
        → IsKept (with_asked (stood_after s is.front) (next_change (rest ++ o ∷ []))) x
    in_rest [] kept = asked_more (stood_after s is.front) x o.change kept
    in_rest (first ∷ rest) kept = kept

module _ (s : Stood) (opened : ℕ) (outs : List Outcome) (o : Outcome) (held : Option (List ℕ)) (settled : Type 0) (old new : Crashes)
    (law : AreCrashes held new settled) (was : HasLasted s opened outs old)
    (turn : TurnLeaves (stood_after s outs) o old new) where
  stands_now : Stands (stood_after s (outs ++ o ∷ [])) new
  stands_now x left = subst (λ (t : Stood). IsKept t x) (sym (fold-append with_outcome s outs (o ∷ []))) (turn.now x left)

  -- the moments of before, and this one
  abbrev at : Bool → ℕ → ℕ
  at true n = new.moment
  at false n = was.moments n

  abbrev moment_of : ℕ → ℕ
  moment_of n = at (nat_lt (length outs) n) n

  past_at : (n : ℕ) (b : Bool) → (b ≡ false → n ≤ length outs) → at b n ≤ new.moment
  past_at n true before = omega arith
  past_at n false before = let p = was.past n (before refl) in let l = turn.moments.later in omega (arith, p, l)

  -- an image of this turn
  of_turn : (least : ℕ) (x : List ℕ) → least ≤ length outs → IsKept (with_asked (stood_after s outs) o.change) x
      → IsOfFront s (outs ++ o ∷ []) least x
  of_turn least x le kept = record { front = outs; rest = o ∷ []; is = refl; all = le; kept = kept }

  each_at : (n : ℕ) → n ≤ length (outs ++ o ∷ []) → (x : List ℕ) (b : Bool) → (b ≡ false → n ≤ length outs)
      → new.left_since (at b n) x → IsOfFront s (outs ++ o ∷ []) n x
  each_at n le x true before left = record {
    front = outs ++ o ∷ [];
    rest = [];
    is = sym (append-nil (outs ++ o ∷ []));
    all = le;
    kept = stands_now x (law.only_now x left);
  }
  each_at n le x false before left = ⊎_elim
      (λ (then : old.left_since (was.moments n) x). front_more s outs o n x (was.each n (before refl) x then))
      (λ (kept : IsKept (with_asked (stood_after s outs) o.change) x). of_turn n x (before refl) kept)
      (turn.moments.between (was.moments n) x (was.past n (before refl)) left)

  is_before : (n : ℕ) → nat_lt (length outs) n ≡ false → n ≤ length outs
  is_before n not = grind (arith, not)

  pub lasted_more : HasLasted s opened (outs ++ o ∷ []) new
  lasted_more = record {
    stands = stands_now;
    moments = moment_of;
    first = ap (λ b. at b 0) (le-ltb (length outs) 0 (omega arith)) ∙ was.first;
    past = λ n le. past_at n (nat_lt (length outs) n) (is_before n);
    each = λ n le x left. each_at n le x (nat_lt (length outs) n) (is_before n) left;
  }
