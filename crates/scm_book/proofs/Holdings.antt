-- What the holder has stands at the end of the longer history.
use Rattle.std.proofs.Common.{◌≡◌, ℕ, ◌+◌, ◌≤◌, true, List, [], ◌∷◌, ◌++◌, length, length-append, refl, sym, ap, ◌∙◌, subst}
use Rattle.std.proofs.Common.{Some, arith, false, inl, inr}
use Rattle.std.specs.Prelude.{IfSome, option_map}
use Rattle.scm_model.specs.declared.flat.Flat.{Flat}
use Rattle.scm_model.specs.declared.flat.Limits.{Limits}
use Rattle.scm_model.specs.declared.steps.Answer.{Answer}
use Rattle.scm_model.specs.declared.steps.Kept.{Kept}
use Rattle.scm_model.specs.declared.steps.Step.{Step}
use Rattle.scm_model.specs.declared.steps.Step.TheVariants.{Call}
use Rattle.scm_model.specs.Entries.{Entry, text_in, with_kept}
use Rattle.scm_model.specs.Texts.{text_of}
use Rattle.scm_rules.specs.Histories.{state}
use Rattle.scm_rules.specs.Owed.{owed}
use Rattle.scm_rules.specs.Room.{debt, is_owed}
use Rattle.scm_runs.proofs.Histories.{state_appended}
use Rattle.scm_history.specs.Outcomes.{Outcome, no_outcome, outcome_in, outcomes}
use Rattle.scm_history.proofs.Outcomes.{law_of_outcomes}
use Rattle.journal_lasting.specs.Lasting.{HasLasted, TurnLeaves, stood_after, with_outcome}
use Rattle.journal_lasting.proofs.Turning.{bears_behind, same_bears, turn_none}
use Rattle.scm_owed.proofs.Effects.{debt_owed}
use Rattle.book_rule.specs.declared.view.Opening.{Opening}
use Rattle.record_journal.specs.Bearing.{Bears, Stands, Stood}
use Rattle.record_journal.specs.declared.journal.Journal.{Journal}
use Rattle.record_journal.specs.Keepers.{SettledSince}
use Rattle.trail_log.specs.Recorders.{is_recording}
use Rattle.scm_core.specs.Managed.{Managed}
use Rattle.scm_book.specs.Ghosts.{Ghosts}
use Rattle.scm_book.specs.Recording.{CanRecord, Records}
use Rattle.scm_book.proofs.Recording.{coded_gone, coded_more, coded_same, recorded_more, recorded_same, recorded_within}
use Rattle.scm_book.specs.declared.held.Held.{Held}
use Rattle.scm_book.specs.Holds.{Holds, Lasts, RoseBy, Runs, failures_in, kept_after, one_failed, stood_at}
use Rattle.scm_book.specs.Steps.{Adds, Grows, IsAsItWas, Makes, outcome_at}
use Rattle.scm_book.proofs.Last.{leaves_owed}
use Rattle.scm_book.proofs.Leaving.{lasts_on}
use Rattle.scm_book.proofs.Room.{room_text, text_kept}

text_more : (log : List Entry) (e : Entry) → text_in (log ++ e ∷ []) ≡ text_in log + text_of e.1
text_more [] e = omega arith
text_more (x ∷ log) e = let rest = text_more log e in omega arith

failed_more : (log : List Entry) (e : Entry) → failures_in (log ++ e ∷ []) ≡ failures_in log + one_failed e.1
failed_more [] e = omega arith
failed_more (x ∷ log) e = let rest = failed_more log e in omega arith

rose_more : (n m a b c : ℕ) → RoseBy n a b → RoseBy m b c → RoseBy (n + m) a c
rose_more n m a b c first then = omega arith

-- a keeper whose count rose by so many at least fails later, or is settled
settled_later : (n a b c : ℕ) (Settled : Type 0) → RoseBy n a b → SettledSince b c Settled → SettledSince a c Settled
settled_later n a b c Settled first (inl rose) = inl (omega arith)
settled_later n a b c Settled first (inr settled) = inr settled

-- it failed before, or fails now, or is settled still
settled_more : (n m a b c : ℕ) (Before After : Type 0) → RoseBy n a b → RoseBy m b c → SettledSince a b Before
    → (Before → SettledSince b c After) → SettledSince a c After
settled_more n m a b c Before After first then (inl rose) keeps = inl (omega arith)
settled_more n m a b c Before After first then (inr settled) keeps = settled_later n a b c After first (keeps settled)

debt_kept : (f : Flat) (step : Step) (now : Kept) → debt f (with_kept step now) ≡ debt f step
debt_kept f (Call caller asked append) now = refl
debt_kept f step now = refl

module _ {K : Type 0} (ghosts : Ghosts K) (o : Opening) (log : List Entry)
    (h h' : Held K)
    (holds : Holds ghosts o log h) where
  module _ (moment : ℕ) (step : Step) (told : Answer) (grows : Grows h h' moment step told) where
    flat_then : h'.manager.flat ≡ state o.limits o.first (log ++ (moment, step) ∷ [])
    flat_then = grows.flat ∙ ((λ i. state (holds.limits i) (holds.manager i) ((moment, step) ∷ []))
        ∙ sym (state_appended o.limits o.first log ((moment, step) ∷ [])))

    steps_then : h'.manager.steps ≡ length (log ++ (moment, step) ∷ [])
    steps_then = let a = grows.steps in let b = holds.steps in let n = length-append log ((moment, step) ∷ []) in omega arith

    text_then : h'.manager.text ≡ text_in (log ++ (moment, step) ∷ [])
    text_then = grows.text ∙ (ap (λ (n : ℕ). n + text_of step) holds.text ∙ sym (text_more log (moment, step)))

    owed_then : Runs o (log ++ (moment, step) ∷ []) → owed h'.manager.flat + 1 ≤ owed h.manager.flat + debt h.manager.flat step
    owed_then runs =
        let pays = leaves_owed o.limits o.first runs.opens.begins log (moment, step) runs.legal in
        let now = ap owed flat_then in
        let before = ap owed holds.manager in
        let debts = ap (λ (f : Flat). debt f step) holds.manager in
        omega arith

  -- what is kept after one entry more, of which this became
  module _ (e : Entry) (out : Outcome) (is : out ≡ outcome_in o.limits (state o.limits o.first log) e.1) where
    outcomes_then : outcomes o.limits o.first (log ++ e ∷ []) ≡ outcomes o.limits o.first log ++ out ∷ []
    outcomes_then = (law_of_outcomes o.limits o.first).more log e
        ∙ ap (λ (x : Outcome). outcomes o.limits o.first log ++ x ∷ []) (sym is)

    journal_then : Bears (option_map (λ s. with_outcome s out) (kept_after o log)) h'.journal (ghosts.held h'.keeper)
        → Bears (kept_after o (log ++ e ∷ [])) h'.journal (ghosts.held h'.keeper)
    journal_then bears = subst (λ (outs : List Outcome). Bears (option_map (λ s. stood_after s outs) (stood_at o)) h'.journal
        (ghosts.held h'.keeper)) (sym outcomes_then)
        (bears_behind (stood_at o) (outcomes o.limits o.first log) out h'.journal (ghosts.held h'.keeper) bears)

    lasts_then : ((s : Stood) → Bears (Some s) h.journal (ghosts.held h.keeper) → Stands s (ghosts.crashes h.keeper)
        → TurnLeaves s out (ghosts.crashes h.keeper) (ghosts.crashes h'.keeper)) → Lasts o (log ++ e ∷ []) (ghosts.crashes h'.keeper)
    lasts_then turn = subst (λ (outs : List Outcome). IfSome (stood_at o) (λ s. HasLasted s o.moment outs (ghosts.crashes h'.keeper)))
        (sym outcomes_then) (lasts_on (stood_at o) o.moment (outcomes o.limits o.first log) out h.journal (ghosts.held h.keeper)
        (ghosts.held h'.keeper) (ghosts.settled h'.keeper) (ghosts.crashes h.keeper) (ghosts.crashes h'.keeper)
        (ghosts.are_crashes h'.keeper) holds.journal holds.lasts turn)

  pub holds_made : (moment : ℕ) (step : Step) (told : Answer) (made : Makes ghosts h h' moment step told)
      → Runs o (log ++ (moment, with_kept step made.append) ∷ [])
      → Holds ghosts o (log ++ (moment, with_kept step made.append) ∷ []) h'
  holds_made moment step told made runs =
      let now : Step = with_kept step made.append in
      let grows = made.grows in record {
        recorded = recorded_more o.logged log h.trail h'.trail h.recorder h'.recorder (moment, now) holds.recorded grows.trail grows.recorder;
        records = ap (λ (r : _). is_recording r.mode) grows.recorder ∙ holds.records;
        coded = coded_more log h.trail h'.trail (moment, now) holds.coded grows.trail;
        limits = grows.limits ∙ holds.limits;
        steps = steps_then moment now told grows;
        text = text_then moment now told grows;
        manager = flat_then moment now told grows;
        journal = journal_then (moment, now) (outcome_at h now) (λ i. outcome_in (holds.limits i) (holds.manager i) now)
            (made.keeps.bears (kept_after o log) holds.journal);
        lasts = lasts_then (moment, now) (outcome_at h now) (λ i. outcome_in (holds.limits i) (holds.manager i) now) made.keeps.turn;
        asked = made.keeps.asked ∙ holds.asked;
        faults = subst (λ (n : ℕ). RoseBy n o.faults (ghosts.faults h'.keeper)) (sym (failed_more log (moment, now)))
            (rose_more (failures_in log) (one_failed now) o.faults (ghosts.faults h.keeper) (ghosts.faults h'.keeper) holds.faults
            made.keeps.faults);
        settled = settled_more (failures_in log) (one_failed now) o.faults (ghosts.faults h.keeper) (ghosts.faults h'.keeper)
            (ghosts.settled h.keeper) (ghosts.settled h'.keeper) holds.faults made.keeps.faults holds.settled made.keeps.settled;
        room = let owes = owed_then moment now told grows runs in let d = debt_kept h.manager.flat step made.append in let r = made.room in
            omega arith;
        fits =
            let r = room_text h.manager.limits h.manager.flat h.manager.steps h.manager.text step made.free in
            let l = ap (λ (l : Limits). l.text) holds.limits in
            let t = holds.text in
            let k = text_kept step made.append in
            let m = text_more log (moment, now) in
            omega arith;
      }

  pub holds_added : (moment : ℕ) (step : Step) (told : Answer) → Adds h h' moment step told → is_owed step ≡ true → text_of step ≡ 0
      → one_failed step ≡ 0
      → outcome_at h step ≡ no_outcome → Runs o (log ++ (moment, step) ∷ [])
      → Holds ghosts o (log ++ (moment, step) ∷ []) h'
  holds_added moment step told adds owes textless faultless changeless runs =
      let grows = adds.grows in
      let none : no_outcome ≡ outcome_in o.limits (state o.limits o.first log) step =
      sym changeless ∙ (λ i. outcome_in (holds.limits i) (holds.manager i) step) in record {
        recorded = recorded_more o.logged log h.trail h'.trail h.recorder h'.recorder (moment, step) holds.recorded grows.trail grows.recorder;
        records = ap (λ (r : _). is_recording r.mode) grows.recorder ∙ holds.records;
        coded = coded_more log h.trail h'.trail (moment, step) holds.coded grows.trail;
        limits = grows.limits ∙ holds.limits;
        steps = steps_then moment step told grows;
        text = text_then moment step told grows;
        manager = flat_then moment step told grows;
        journal = journal_then (moment, step) no_outcome none
            (subst (λ (j : Journal). Bears (option_map (λ s. with_outcome s no_outcome) (kept_after o log)) j (ghosts.held h'.keeper))
            (sym adds.journal)
            (subst (λ (k : K). Bears (option_map (λ s. with_outcome s no_outcome) (kept_after o log)) h.journal (ghosts.held k))
            (sym adds.keeper) (same_bears (kept_after o log) false h.journal (ghosts.held h.keeper) holds.journal)));
        lasts = lasts_then (moment, step) no_outcome none
            (λ s bears stands. subst (λ (k : K). TurnLeaves s no_outcome (ghosts.crashes h.keeper) (ghosts.crashes k)) (sym adds.keeper)
            (turn_none s false (ghosts.crashes h.keeper) stands));
        asked = ap ghosts.asked adds.keeper ∙ holds.asked;
        faults = subst (λ (n : ℕ). RoseBy n o.faults (ghosts.faults h'.keeper)) (sym (failed_more log (moment, step)))
            (let f = ap ghosts.faults adds.keeper in let b = holds.faults in let z = faultless in omega arith);
        settled = subst (λ (k : K). SettledSince o.faults (ghosts.faults k) (ghosts.settled k)) (sym adds.keeper) holds.settled;
        room = let o = owed_then moment step told grows runs in let d = debt_owed h.manager.flat step owes in let r = adds.room in
            let b = holds.room in omega arith;
        fits = let m = text_more log (moment, step) in let b = holds.fits in omega arith;
      }

  pub holds_same : IsAsItWas h h' → Holds ghosts o log h'
  holds_same same = record {
    recorded = recorded_same o.logged log h.trail h'.trail h.recorder h'.recorder holds.recorded same.none.trail same.none.recorder;
    records = ap (λ (r : _). is_recording r.mode) same.none.recorder ∙ holds.records;
    coded = coded_same log h.trail h'.trail holds.coded same.none.trail;
    limits = same.none.limits ∙ holds.limits;
    steps = same.none.steps ∙ holds.steps;
    text = same.none.text ∙ holds.text;
    manager = same.none.flat ∙ holds.manager;
    journal = subst (λ (j : Journal). Bears (kept_after o log) j (ghosts.held h'.keeper)) (sym same.journal)
        (subst (λ (k : K). Bears (kept_after o log) h.journal (ghosts.held k)) (sym same.keeper) holds.journal);
    lasts = subst (λ (k : K). Lasts o log (ghosts.crashes k)) (sym same.keeper) holds.lasts;
    asked = ap ghosts.asked same.keeper ∙ holds.asked;
    faults = let f = ap ghosts.faults same.keeper in let b = holds.faults in omega arith;
    settled = subst (λ (k : K). SettledSince o.faults (ghosts.faults k) (ghosts.settled k)) (sym same.keeper) holds.settled;
    room = let f = ap owed same.none.flat in let b = holds.room in let r = same.room in omega arith;
    fits = holds.fits;
  }

  -- what goes to the log leaves all else as it was
  pub holds_recorded : Records h h' → Holds ghosts o log h'
  holds_recorded same = record {
    recorded = same.recorded o.logged log holds.recorded;
    records = same.mode ∙ holds.records;
    coded = coded_gone log h.trail h'.trail holds.coded same.goes same.coded;
    limits = ap (λ (m : Managed). m.limits) same.manager ∙ holds.limits;
    steps = ap (λ (m : Managed). m.steps) same.manager ∙ holds.steps;
    text = ap (λ (m : Managed). m.text) same.manager ∙ holds.text;
    manager = ap (λ (m : Managed). m.flat) same.manager ∙ holds.manager;
    journal = subst (λ (j : Journal). Bears (kept_after o log) j (ghosts.held h'.keeper)) (sym same.journal)
        (subst (λ (k : K). Bears (kept_after o log) h.journal (ghosts.held k)) (sym same.keeper) holds.journal);
    lasts = subst (λ (k : K). Lasts o log (ghosts.crashes k)) (sym same.keeper) holds.lasts;
    asked = ap ghosts.asked same.keeper ∙ holds.asked;
    faults = let f = ap ghosts.faults same.keeper in let b = holds.faults in omega arith;
    settled = subst (λ (k : K). SettledSince o.faults (ghosts.faults k) (ghosts.settled k)) (sym same.keeper) holds.settled;
    room = let f = ap (λ (m : Managed). owed m.flat) same.manager in let b = holds.room in let r = same.goes.room in omega arith;
    fits = holds.fits;
  }

  pub can_record : CanRecord h
  can_record = recorded_within o.logged log h.trail h.recorder holds.recorded
