-- What is kept of a line is read as the whole line is.
use Rattle.std.proofs.Common.{arith, cond, inl, inr, ℕ, ◌≡◌, ◌<◌, ◌≤◌, ◌⊎◌, List, [], ◌∷◌, ◌++◌, length, Option, None, Some, sym, ap}
use Rattle.std.proofs.Common.{◌∙◌}
use Rattle.std.proofs.lemmas.Bool.{cases_lt, eq-eqb, ne_eqb}
use Rattle.std.proofs.lemmas.List.{length-append, length-take, take-append-le, take_all}
use Rattle.child_link.specs.Cutting.{kept, kept_line, kept_with}
use Rattle.child_link.specs.Lines.{handed_on, stated}
use Rattle.child_link.proofs.Controls.{control_only, control_short}
use Rattle.child_link.proofs.Reports.{read_only}
use Rattle.child_link.proofs.Splits.{none_of}

module _ {A : Type 0} (read : List ℕ → Option A) (short : (line : List ℕ) (x : A) → read line ≡ Some x → length line ≤ 4096) where
  long_is_none : (line : List ℕ) → 4096 < length line → read line ≡ None
  long_is_none line long = none_of (read line) (λ x e. let low = short line x e in omega (arith, low, long))

  kept_as : (front : List ℕ) → (4096 < length front) ⊎ (length front ≤ 4096) → read (kept_line front) ≡ read (front ++ 10 ∷ [])
  kept_as front (inr few) = ap (λ f. read (f ++ 10 ∷ [])) (take_all 4096 front few)
  kept_as front (inl many) =
      long_is_none (kept_line front) (omega (arith, many, length-append (kept front) (10 ∷ []), length-take 4096 front))
      ∙ sym (long_is_none (front ++ 10 ∷ []) (omega (arith, many, length-append front (10 ∷ []))))

  pub kept_is_read : (front : List ℕ) → read (kept_line front) ≡ read (front ++ 10 ∷ [])
  kept_is_read front = kept_as front (cases_lt 4096 (length front))

pub kept_report : (front : List ℕ) → stated (kept_line front) ≡ stated (front ++ 10 ∷ [])
kept_report = kept_is_read stated (λ line report e. (read_only line report e).short)

pub kept_control : (front : List ℕ) → handed_on (kept_line front) ≡ handed_on (front ++ 10 ∷ [])
kept_control = kept_is_read handed_on (λ line n e. let h = control_only line n e in omega (arith, ap length h.0, control_short n h.1))

-- ## One byte more

pub with_feed : (front : List ℕ) (byte : ℕ) → byte ≡ 10 → front ++ byte ∷ [] ≡ kept_with front byte
with_feed front byte is = sym (ap (λ b. cond b (front ++ byte ∷ []) (kept (front ++ byte ∷ []))) (eq-eqb byte 10 is))

with_other : (front : List ℕ) (byte : ℕ) → (byte ≡ 10 → ⊥) → kept_with front byte ≡ kept (front ++ byte ∷ [])
with_other front byte other = ap (λ b. cond b (front ++ byte ∷ []) (kept (front ++ byte ∷ []))) (ne_eqb byte 10 other)

pub with_more : (front : List ℕ) (byte : ℕ) → (byte ≡ 10 → ⊥) → length front < 4096 → front ++ byte ∷ [] ≡ kept_with front byte
with_more front byte other room =
    sym (with_other front byte other ∙ take_all 4096 (front ++ byte ∷ []) (omega (arith, room, length-append front (byte ∷ []))))

pub with_none : (front : List ℕ) (byte : ℕ) → (byte ≡ 10 → ⊥) → length front ≤ 4096 → 4096 ≤ length front → front ≡ kept_with front byte
with_none front byte other few many =
    sym (with_other front byte other ∙ take-append-le 4096 front (byte ∷ []) many ∙ take_all 4096 front few)
