-- What a book's close hands out, and what its calls are told.
use Rattle.std.proofs.Common.{◌≡◌, ◌≢◌, ℕ, All, List, false, length, Option, sym, ap, ◌∙◌, subst}
use mathlib.Core.List.{IsPrefix}
use Rattle.scm_model.specs.declared.flat.Flat.{Flat}
use Rattle.scm_model.specs.declared.steps.Answer.{Answer}
use Rattle.scm_model.specs.declared.steps.Answer.TheVariants as answers
use Rattle.scm_model.specs.declared.steps.Step.TheVariants.{Gone}
use Rattle.scm_model.specs.Entries.{Entry, text_in}
use Rattle.trail_log.specs.Recorders.{is_recording}
use Rattle.scm_trail.specs.Trailed.{Trailed}
use Rattle.scm_trail.proofs.Histories.{ends_whole}
use Rattle.scm_trail.specs.Segments.{IsCoded}
use Rattle.scm_history.specs.Outcomes.{outcomes}
use Rattle.journal_lasting.proofs.Turning.{closed}
use Rattle.scm_rules.specs.Histories.{Legal, state}
use Rattle.atomic_table.specs.declared.shared.Seat.{Seat}
use Rattle.std.proofs.Common.{Box}
use Rattle.std.specs.declared.alloc.Global.{Global}
use Rattle.book_rule.specs.declared.view.Opening.{Opening}
use Rattle.book_rule.specs.declared.view.View.{View}
use Rattle.book_rule.specs.Seats.{Identity}
use Rattle.book_rule.specs.Seats.{Closes as Ends}
use Rattle.scm_book.specs.Ghosts.{Ghosts}
use Rattle.scm_book.specs.declared.book.Closed.{Closed}
use Rattle.scm_book.specs.declared.held.Held.{Held}
use Rattle.scm_book.specs.Holds.{Holds, Opens, kept_after, way_of, stood_at}
use Rattle.scm_book.specs.Calls.{Closes, ClosesWhole, Goes, HasKept}
use Rattle.scm_book.specs.Recording.{IsRecorded}
use Rattle.scm_book.proofs.Recording.{coded_all, recorded_ends, recorded_whole}
use Rattle.scm_book.specs.Passes.{Known, Made}
use Rattle.scm_book.specs.Turns.{known}
use Rattle.scm_book.proofs.Coming.{shaped}
use Rattle.scm_book.proofs.Leaving.{only_kept}

has_kept : {K : Type 0} (ghosts : Ghosts K) (o : Opening) (log : List Entry) (h : Held K) (keeper : K) → keeper ≡ h.keeper
    → Holds ghosts o log h → HasKept ghosts o log keeper
has_kept ghosts o log h keeper is holds =
    let kept = closed (kept_after o log) h.journal (ghosts.held h.keeper) holds.journal in
    subst (λ k. HasKept ghosts o log k) (sym is) (record {
      holds = kept;
      lasts = holds.lasts;
      only = only_kept (stood_at o) (outcomes o.limits o.first log) o.moment (ghosts.held h.keeper) (ghosts.crashes h.keeper) kept
          holds.lasts;
      faults = holds.faults;
      settled = holds.settled;
      asked = holds.asked;
    })

module _ {K : Type 0} (ghosts : Ghosts K) (b : Identity)
    (s : Seat (Option (Box (Held K) Global)) View)
    (h : Held K) (ends : Ends (way_of ghosts) b s h) where
  pub closes : (c : Closed K) → c.trail ≡ h.trail → c.recorder ≡ h.recorder → c.keeper ≡ h.keeper
      → c.services ≡ length h.manager.flat.services → All IsCoded c.trail.entries → Closes ghosts b.opening (known s) c
  closes c trail recorder keeper services coded =
      let log = ends.log in record {
        history = log;
        recorded = subst (λ (t : Trailed). IsRecorded b.opening.logged log t c.recorder) (sym trail)
            (subst (λ (r : _). IsRecorded b.opening.logged log h.trail r) (sym recorder) ends.fits.recorded);
        records = ap (λ (r : _). is_recording r.mode) recorder ∙ ends.fits.records;
        longer = ends.longer;
        legal = ends.run.legal;
        alone = λ only. (ends.alone only).seen;
        services = services ∙ ap (λ (f : Flat). length f.services) ends.fits.manager;
        coded = coded_all log h.trail ends.fits.coded (subst (λ (t : Trailed). All IsCoded t.entries) trail coded);
        keeps = has_kept ghosts b.opening log h c.keeper keeper ends.fits;
      }

-- where nothing is recorded, the trail has the whole history
pub closed_whole : {K : Type 0} (ghosts : Ghosts K) (o : Opening) (k : Known) (c : Closed K) → o.records ≡ false → Closes ghosts o k c
    → ClosesWhole ghosts o k c
closed_whole ghosts o k c off closes =
    let past : c.trail.past ≡ 0 = recorded_whole o.logged closes.history c.trail c.recorder closes.recorded (closes.records ∙ off) in
    let ends = recorded_ends o.logged closes.history c.trail c.recorder closes.recorded in
    let is : c.trail.entries ≡ closes.history = ends_whole c.trail closes.history ends past in record {
      longer = subst (IsPrefix k.seen) (sym is) closes.longer;
      past = past;
      text = ends.text ∙ ap text_in (sym is);
      legal = subst (Legal o.limits o.first) (sym is) closes.legal;
      alone = λ only. is ∙ closes.alone only;
      services = closes.services ∙ ap (λ (l : List Entry). length (state o.limits o.first l).services) (sym is);
      coded = subst (All IsCoded) (sym is) closes.coded;
      keeps = subst (λ (l : List Entry). HasKept ghosts o l c.keeper) (sym is) closes.keeps;
    }

-- a going is told that it was done
pub gone_told : (o : Opening) → Opens o → (k k' : Known) (moment caller : ℕ) (told : Answer) → Made o k moment (Gone caller) told k'
    → Made o k moment (Gone caller) answers.Done k'
gone_told o opens k k' moment caller told made = subst (λ (t : Answer). Made o k moment (Gone caller) t k')
    (shaped o opens k k' moment (Gone caller) told made) made

-- a pass that is nobody's makes no step
pub goes_nobody : (o : Opening) (k k' : Known) (moment whose : ℕ) → k' ≡ k → whose ≡ k'.caller → whose ≡ 0 → Goes o k moment k'
goes_nobody o k k' moment whose same is none = record {
  caller = λ some. absurd (some (ap (λ (x : Known). x.caller) (sym same) ∙ (sym is ∙ none)));
  nobody = λ zero. same;
}

-- a caller goes
pub goes_away : (o : Opening) → Opens o → (k from k' : Known) (moment whose : ℕ) (told : Answer) → from ≡ k → whose ≡ from.caller
    → whose ≢ 0 → Made o from moment (Gone whose) told k' → Goes o k moment k'
goes_away o opens k from k' moment whose told same is some made = record {
  caller = λ one. subst (λ (c : ℕ). Made o k moment (Gone c) answers.Done k') (is ∙ ap (λ (x : Known). x.caller) same)
      (subst (λ (x : Known). Made o x moment (Gone whose) answers.Done k') same (gone_told o opens from k' moment whose told made));
  nobody = λ none. absurd (some (is ∙ (ap (λ (x : Known). x.caller) same ∙ none)));
}
