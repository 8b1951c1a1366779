-- What was kept of a run.
use Rattle.std.proofs.Common.{ℕ, ◌∙◌, Bool, true, false, List, [], ◌∷◌, ◌++◌, Option, Some, None, fold, length, ap, refl, subst, sym}
use Rattle.std.proofs.Common.{◌≡◌, ⊎_elim, append-nil}
use Rattle.std.specs.List.{list_any}
use Rattle.std.proofs.lemmas.Bool.{or_parts}
use Rattle.std.proofs.lemmas.List.Sums.{fold-append}
use Rattle.scm_model.specs.declared.steps.Change.{Change}
use Rattle.scm_model.specs.declared.steps.Form.{Form}
use Rattle.record_journal.specs.Bearing.{IsAmong, IsKept, PartOf, Stood, with_change}
use Rattle.record_journal.specs.Format.{piece}
use Rattle.scm_history.specs.Kept.{one_or_none}
use Rattle.scm_history.specs.Outcomes.{Outcome, if_kept, is_lost, kept_among}
use Rattle.journal_lasting.specs.Lasting.{IsAlike, StandsByKept, stood_after, with_outcome, with_told}

changed : (s t : Stood) (change : Change) → IsAlike s t → IsAlike (with_change s change) (with_change t change)
changed s t change same = record {
  bytes = ap (λ (b : List ℕ). b ++ piece (length b) s.form change) same.bytes
      ∙ ap (λ (f : Form). t.bytes ++ piece (length t.bytes) f change) same.form;
  form = refl;
}

-- one change more, kept or not
told_alike : (kept : Bool) (s t : Stood) (told : Option Change) → IsAlike s t
    → IsAlike (with_told kept s told) (fold with_change t (one_or_none (if_kept kept told)))
told_alike true s t None same = same
told_alike true s t (Some change) same = changed s t change same
told_alike false s t None same = same
told_alike false s t (Some change) same = record { bytes = same.bytes; form = same.form }

alike_after : (s t : Stood) (outs : List Outcome) → IsAlike s t → IsAlike (stood_after s outs) (fold with_change t (kept_among outs))
alike_after s t [] same = same
alike_after s t (o ∷ outs) same =
    let now = one_or_none (if_kept o.kept o.change) in
    subst (λ (u : Stood). IsAlike (stood_after s (o ∷ outs)) u) (sym (fold-append with_change t now (kept_among outs)))
    (alike_after (with_outcome s o) (fold with_change t now) outs (told_alike o.kept s t o.change same))

-- what was kept of a run is what the changes that were kept come to
pub kept_alone : (s : Stood) (outs : List Outcome) → StandsByKept s outs
kept_alone s outs = alike_after s s outs (record { bytes = refl; form = refl })

-- ## Where no append failed

told_unlost : (kept : Bool) (s : Stood) (told : Option Change) → s.lost ≡ [] → is_lost (record { change = told; kept = kept }) ≡ false
    → (with_told kept s told).lost ≡ []
told_unlost true s None none unlost = none
told_unlost true s (Some change) none unlost = refl
told_unlost false s None none unlost = none
told_unlost false s (Some change) none unlost = absurd cc

pub none_lost : (s : Stood) (outs : List Outcome) → s.lost ≡ [] → list_any is_lost outs ≡ false → (stood_after s outs).lost ≡ []
none_lost s [] none unlost = none
none_lost s (o ∷ outs) none unlost =
    let parts = or_parts (is_lost o) (list_any is_lost outs) unlost in
    none_lost (with_outcome s o) outs (told_unlost o.kept s o.change none parts.0) parts.1

pub left_alone : (s : Stood) (now : List ℕ) → s.lost ≡ [] → IsKept s now → now ≡ s.bytes
left_alone s now none kept = ⊎_elim
    (λ (empty : kept.tail ≡ []). kept.holds ∙ (ap (λ (b : List ℕ). s.bytes ++ b) empty ∙ append-nil s.bytes))
    (λ (part : PartOf s kept.tail). absurd (subst (IsAmong part.change) none part.lost))
    kept.part
