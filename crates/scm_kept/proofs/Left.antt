-- What is left of a run is read.
use Rattle.std.proofs.Common.{ℕ, ◌≡◌, ◌∙◌, ◌≤◌, ⊎_elim, inl, inr, false, List, [], ◌∷◌, ◌++◌, Option, None, Some}
use Rattle.std.proofs.Common.{Ok, fold, length, take, refl, sym, ap, subst, append_assoc, append-nil}
use Rattle.std.proofs.Math.Seq.{take-append_seam}
use Rattle.std.specs.Prelude.{IfSome}
use Rattle.outside.specs.Written.{Begins}
use Rattle.scm_model.specs.declared.flat.Config.{Config}
use Rattle.scm_model.specs.declared.flat.Flat.{Flat}
use Rattle.scm_model.specs.declared.flat.Limits.{Limits}
use Rattle.scm_model.specs.declared.steps.Change.{Change}
use Rattle.scm_model.specs.declared.steps.Form.{Form}
use Rattle.scm_model.specs.Entries.{Entry}
use Rattle.record_journal.specs.Bearing.{IsAmong, IsKept, PartOf, Stood, and_changes, piece_after, with_change}
use Rattle.record_journal.specs.Entries.{read_journal}
use Rattle.record_journal.specs.Format.{piece}
use Rattle.record_journal.specs.Replay.{replayed}
use Rattle.scm_rules.specs.Histories.{state}
use Rattle.scm_rules.specs.Opening.{IsOpening}
use Rattle.scm_rules.specs.Runs.{IsLegal, run_state}
use Rattle.scm_history.specs.Kept.{kept_changes}
use Rattle.scm_history.specs.Outcomes.{Outcome, kept_among, outcome_in, outcome_of, outcomes}
use Rattle.scm_history.proofs.Outcomes.{law_of_outcomes}
use Rattle.journal_lasting.specs.Lasting.{IsAlike, IsOfFront, next_change, stood_after, with_asked}
use Rattle.journal_lasting.proofs.Standing.{kept_alone}
use Rattle.scm_runs.proofs.Histories.{made_front, may_behind, state_is}
use Rattle.scm_runs.proofs.Sound.{begun}
use Rattle.scm_kept.specs.Fitting.{AllFit, FitsStep}
use Rattle.scm_kept.specs.Read.{IsJournalOf, IsLeftReadable, Rests, Stays}
use Rattle.scm_kept.specs.Reopened.{IsLeftSo, OpensToFront, kept_configs, stood_amid}
use Rattle.scm_kept.specs.Replayed.{unmarked}
use Rattle.scm_kept.proofs.Again.{IsReplayable, next_can, run_ends}
use Rattle.scm_kept.proofs.Lost.{change_told, heads, lost_at, parted}
use Rattle.scm_kept.proofs.ReadCut.{read_cut, rests_all}
use Rattle.scm_kept.proofs.Reopened.{IsMadeOf, made_units, reopened}
use Rattle.scm_kept.proofs.Runs.{unmarked_kept}

-- ## Fronts

fits_front : (front rest : List Entry) → AllFit (front ++ rest) → AllFit front
fits_front [] rest fits = tt
fits_front (e ∷ front) rest fits = (fits.0, fits_front front rest fits.1)

fits_at : (front : List Entry) (e : Entry) (rest : List Entry) → AllFit (front ++ e ∷ rest) → FitsStep e.1
fits_at [] e rest fits = fits.0
fits_at (first ∷ front) e rest fits = fits_at front e rest fits.1

-- parted once more
parted_at : (es front rest a b c : List Entry) (e : Entry) → es ≡ front ++ rest → front ≡ a ++ b → b ≡ e ∷ c
    → es ≡ a ++ e ∷ (c ++ rest)
parted_at es front rest a b c e is of_front of_b =
    is ∙ ap (λ (l : List Entry). l ++ rest) (of_front ∙ ap (λ (l : List Entry). a ++ l) of_b) ∙ append_assoc a (e ∷ c) rest

-- ## What stands

all_kept : (s : Stood) (changes : List Change) → and_changes (Some s) changes ≡ Some (fold with_change s changes)
all_kept s [] = refl
all_kept s (change ∷ changes) = all_kept (with_change s change) changes

-- a journal is read by its bytes and its form
journal_as : (s t : Stood) (configs : List Config) → IsAlike s t → IsJournalOf t configs → IsJournalOf s configs
journal_as s t configs same is =
    ap read_journal same.bytes
    ∙ is
    ∙ ap (λ (n : ℕ). Ok (record { configs = configs; kept = n; form = t.form })) (ap length (sym same.bytes))
    ∙ ap (λ (form : Form). Ok (record { configs = configs; kept = length s.bytes; form = form })) (sym same.form)

-- a front of a piece is so many of its bytes
so_many : (tail all : List ℕ) → Begins tail all → take (length tail) all ≡ tail
so_many tail all begins = ap (take (length tail)) begins.1 ∙ take-append_seam tail begins.0

asked_bytes : (t : Stood) (made : Option Change) → (with_asked t made).bytes ≡ t.bytes
asked_bytes t None = refl
asked_bytes t (Some change) = refl

asked_piece : (t : Stood) (made : Option Change) (change : Change) → piece_after (with_asked t made) change ≡ piece_after t change
asked_piece t None change = refl
asked_piece t (Some made) change = refl

module _ (l : Limits) (f : Flat) (es : List Entry) (few : l.services ≤ 1024) (begins : IsOpening l f) (legal : IsLegal l f es)
    (fits : AllFit es) (s : Stood) (made : IsMadeOf s f) (none : s.lost ≡ []) where
  abbrev Stands : List Entry → Stood
  Stands front = stood_after s (outcomes l f front)

  -- what was kept of a front is a journal
  is_journal : (front rest : List Entry) → es ≡ front ++ rest → IsJournalOf (Stands front) (kept_configs l f front)
  is_journal front rest is =
      let changes = kept_changes l f front in
      let here = reopened l f front few begins (made_front l f front rest (subst (IsLegal l f) is legal))
      (fits_front front rest (subst AllFit is fits)) s made in
      let of_changes : IsJournalOf (fold with_change s changes) (kept_configs l f front) =
      subst (λ (o : Option Stood). IfSome o (λ (now : Stood). IsJournalOf now (kept_configs l f front))) (all_kept s changes) here in
      let same : IsAlike (Stands front) (fold with_change s changes) =
      subst (λ (cs : List Change). IsAlike (Stands front) (fold with_change s cs)) (sym ((law_of_outcomes l f).changes front))
      (kept_alone s (outcomes l f front)) in
      journal_as (Stands front) (fold with_change s changes) (kept_configs l f front) same of_changes

  -- the change of the next entry can be replayed
  next_replayable : (front : List Entry) (e : Entry) (rest : List Entry) (change : Change) → es ≡ front ++ e ∷ rest
      → (outcome_in l (run_state l f front) e.1).change ≡ Some change → IsReplayable (kept_configs l f front) change
  unfolding state
  next_replayable front e rest change is told =
      let g = run_state l f front in
      let legal' = subst (IsLegal l f) is legal in
      let fits' = subst AllFit is fits in
      let first = begun l f begins in
      let before = made_front l f front (e ∷ rest) legal' in
      let ends = run_ends l f front first before (fits_front front (e ∷ rest) fits') (made_units s f made) in
      let can = next_can l g e.0 e.1 few ends.sound (may_behind l f front e rest legal') (fits_at front e rest fits') ends.units in
      subst (λ (configs : List Config). IsReplayable configs change) (unmarked_kept l f front first before)
      (subst (λ (o : Option Change). IfSome o (IsReplayable (unmarked g.services))) (change_told l g e.1 change told) can)

  -- a part of the change that is in progress
  of_next : (front : List Entry) (e : Entry) (rest : List Entry) (change : Change) (now tail : List ℕ) → es ≡ front ++ e ∷ rest
      → (outcome_in l (run_state l f front) e.1).change ≡ Some change → now ≡ (Stands front).bytes ++ tail
      → Begins tail (piece_after (Stands front) change) → Stays (Stands front).bytes (kept_configs l f front) change now
  of_next front e rest change now tail is told holds begins' =
      let t = Stands front in
      let can = next_replayable front e rest change is told in
      let cut = read_cut t (kept_configs l f front) change (length tail) (is_journal front (e ∷ rest) is) can.0 can.1 in
      let same : t.bytes ++ take (length tail) (piece_after t change) ≡ now =
      ap (λ (p : List ℕ). t.bytes ++ p) (so_many tail (piece_after t change) begins') ∙ sym holds in
      subst (Stays t.bytes (kept_configs l f front) change) same cut

  -- what is kept after one front is so after another
  same_kept : (a b : List Entry) → kept_among (outcomes l f a) ≡ kept_among (outcomes l f b) → IsAlike (Stands a) (Stands b)
  same_kept a b same =
      let of_a = kept_alone s (outcomes l f a) in
      let of_b = kept_alone s (outcomes l f b) in
      let both = ap (fold with_change s) same in
      record {
        bytes = of_a.bytes ∙ ap (λ (t : Stood). t.bytes) both ∙ sym of_b.bytes;
        form = of_a.form ∙ ap (λ (t : Stood). t.form) both ∙ sym of_b.form;
      }

  same_configs : (a b : List Entry) → kept_among (outcomes l f a) ≡ kept_among (outcomes l f b) → kept_configs l f a ≡ kept_configs l f b
  same_configs a b same =
      ap (replayed (unmarked f.services)) ((law_of_outcomes l f).changes a ∙ same ∙ sym ((law_of_outcomes l f).changes b))

  -- a part of a change whose append failed
  of_lost : (front rest : List Entry) (change : Change) (now tail : List ℕ) → es ≡ front ++ rest → IsAmong change (Stands front).lost
      → now ≡ (Stands front).bytes ++ tail → Begins tail (piece_after (Stands front) change)
      → Stays (Stands front).bytes (kept_configs l f front) change now
  of_lost front rest change now tail is lost holds begins' =
      let at = lost_at s (outcomes l f front) change none lost in
      let p = parted l f front at.front (outcome_of change false ∷ at.rest) at.is in
      let g = run_state l f p.front in
      let h = heads l g p.rest (outcome_of change false) at.rest p.of_rest in
      let whole = parted_at es front rest p.front p.rest h.rest h.entry is p.is h.is in
      let kept : kept_among (outcomes l f front) ≡ kept_among (outcomes l f p.front) = at.changes ∙ ap kept_among (sym p.of_front) in
      let same = same_kept front p.front kept in
      let t = Stands front in
      let u = Stands p.front in
      let pieces : piece_after t change ≡ piece_after u change =
      ap (λ (b : List ℕ). piece (length b) t.form change) same.bytes ∙ ap (λ (form : Form). piece (length u.bytes) form change) same.form in
      let stays = of_next p.front h.entry (h.rest ++ rest) change now tail whole (ap (λ (o : Outcome). o.change) h.outcome)
      (holds ∙ ap (λ (b : List ℕ). b ++ tail) same.bytes) (subst (Begins tail) pieces begins') in
      subst (λ (b : List ℕ). Stays b (kept_configs l f front) change now) (sym same.bytes)
      (subst (λ (cs : List Config). Stays u.bytes cs change now) (sym (same_configs front p.front kept)) stays)

  -- of either
  of_part : (front rest : List Entry) (made' : Option Change) (change : Change) (now tail : List ℕ) → es ≡ front ++ rest
      → next_change (outcomes l (run_state l f front) rest) ≡ made' → IsAmong change (with_asked (Stands front) made').lost
      → now ≡ (Stands front).bytes ++ tail → Begins tail (piece_after (Stands front) change)
      → Stays (Stands front).bytes (kept_configs l f front) change now
  unfolding outcomes
  of_part front rest None change now tail is next lost holds begins' = of_lost front rest change now tail is lost holds begins'
  of_part front [] (Some asked) change now tail is next lost holds begins' = absurd cc
  of_part front (e ∷ rest) (Some asked) change now tail is next lost holds begins' = ⊎_elim
      (λ (same : change ≡ asked).
      of_next front e rest change now tail is (next ∙ ap (λ (c : Change). Some c) (sym same)) holds begins')
      (λ (before : IsAmong change (Stands front).lost). of_lost front (e ∷ rest) change now tail is before holds begins')
      lost

  left_at : (front rest : List Entry) (made' : Option Change) (now : List ℕ) → es ≡ front ++ rest
      → next_change (outcomes l (run_state l f front) rest) ≡ made' → IsKept (with_asked (Stands front) made') now
      → IsLeftReadable (with_asked (Stands front) made') (kept_configs l f front) now
  left_at front rest made' now is next kept =
      let t = Stands front in
      let configs = kept_configs l f front in
      let same = asked_bytes t made' in
      let holds : now ≡ t.bytes ++ kept.tail = kept.holds ∙ ap (λ (b : List ℕ). b ++ kept.tail) same in
      ⊎_elim
      (λ (empty : kept.tail ≡ []).
      let whole : t.bytes ≡ now = sym (append-nil t.bytes) ∙ ap (λ (b : List ℕ). t.bytes ++ b) (sym empty) ∙ sym holds in
      inl (subst (λ (b : List ℕ). Rests b configs now) (sym same)
      (subst (Rests t.bytes configs) whole (rests_all t configs (is_journal front rest is)))))
      (λ (part : PartOf (with_asked t made') kept.tail).
      inr (record {
        change = part.change;
        lost = part.lost;
        stays =
            subst (λ (b : List ℕ). Stays b configs part.change now) (sym same)
            (of_part front rest made' part.change now kept.tail is next part.lost holds
            (subst (Begins kept.tail) (asked_piece t made' part.change) part.begins));
      }))
      kept.part

  -- ## At the end, and at each moment

  no_next : next_change (outcomes l (run_state l f es) []) ≡ None
  unfolding outcomes
  no_next = refl

  pub still_journal : IsJournalOf (stood_after s (outcomes l f es)) (kept_configs l f es)
  still_journal = is_journal es [] (sym (append-nil es))

  pub left_so : (now : List ℕ) → IsLeftSo s l f es now
  left_so now kept = left_at es [] None now (sym (append-nil es)) no_next kept

  pub opens_to_front : (least : ℕ) (now : List ℕ) → IsOfFront s (outcomes l f es) least now → OpensToFront s l f es least now
  opens_to_front least now of =
      let p = parted l f es of.front of.rest of.is in
      let next = next_change (outcomes l (state l f p.front) p.rest) in
      let state_same = state_is l f p.front in
      let kept : IsKept (stood_amid s l f p.front p.rest) now =
      subst (λ (g : Flat). IsKept (with_asked (Stands p.front) (next_change (outcomes l g p.rest))) now) (sym state_same)
      (subst (λ (outs : List Outcome). IsKept (with_asked (Stands p.front) (next_change outs)) now) (sym p.of_rest)
      (subst (λ (outs : List Outcome). IsKept (with_asked (stood_after s outs) (next_change of.rest)) now) (sym p.of_front) of.kept)) in
      record {
        front = p.front;
        rest = p.rest;
        is = p.is;
        all = subst (λ (n : ℕ). least ≤ n)
            (sym (ap (λ (outs : List Outcome). length outs) p.of_front) ∙ (law_of_outcomes l f).long p.front) of.all;
        left = left_at p.front p.rest next now p.is
            (ap (λ (g : Flat). next_change (outcomes l g p.rest)) (sym state_same)) kept;
      }
