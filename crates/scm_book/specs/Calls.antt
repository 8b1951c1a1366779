-- The outcome of each call of the book.
use Rattle.std.specs.Prelude.{ℕ, ◌≡◌, ◌≢◌, All, IfSome, true, List, [], length, Option, Some}
use mathlib.Core.List.{IsPrefix}
use Rattle.scm_model.specs.declared.steps.Answer.TheVariants as answers
use Rattle.scm_model.specs.declared.steps.Step.TheVariants.{Gone}
use Rattle.scm_model.specs.Entries.{Entry, text_in}
use Rattle.history_log.specs.Logged.{Logged}
use Rattle.trail_log.specs.declared.recorder.Recorder.{Recorder}
use Rattle.trail_log.specs.Recorders.{is_recording}
use Rattle.scm_rules.specs.Histories.{Legal, state}
use Rattle.book_rule.specs.declared.view.Opening.{Opening}
use Rattle.book_rule.specs.Seats.{Identity}
use Rattle.record_journal.specs.Bearing.{KeptIn, Stood}
use Rattle.record_journal.specs.Keepers.{SettledSince}
use Rattle.record_journal.specs.declared.journal.Journal.{Journal}
use Rattle.scm_trail.specs.Segments.{IsCoded}
use Rattle.scm_core.specs.Managed.{Managed}
use Rattle.scm_book.specs.Ghosts.{Ghosts}
use Rattle.scm_book.specs.declared.book.Closed.{Closed}
use Rattle.scm_book.specs.declared.book.Opened.{Opened}
use Rattle.scm_book.specs.Holds.{Lasts, RoseBy, begun_as, begun_with, failures_in, kept_after}
use Rattle.scm_book.specs.Passes.{Known, Made}
use Rattle.scm_book.specs.Recording.{IsRecorded}

-- a crash leaves nothing but what is held, if that is known
abbrev pub IsOnly : Option (List ℕ) → (List ℕ → Type 0) → Type 0
IsOnly held leaves = IfSome held (λ x. (y : List ℕ) → leaves y → y ≡ x)

-- ## new, close

-- the one pass of a new book
abbrev pub IsFirstPass : Identity → Known → Opening → Type 0
IsFirstPass b k o = (b.opening ≡ o) × (k ≡ record {
  table = b.table;
  opening = Some o;
  caller = 0;
  names = [];
  seen = [];
  own = [];
  alone = true;
})

module _ {K : Type 0} (ghosts : Ghosts K) where
  -- its history begins with the manager's state, with what the keeper holds, and with the journal's form
  abbrev pub BeginsWith : Managed → Journal → K → Opened K → Type 0
  BeginsWith m j keeper made =
      IsFirstPass made.book made.pass (begun_with ghosts m.limits m.flat j keeper)

  -- and with what the log told before
  abbrev pub BeginsRecorded : Managed → Recorder Logged → Journal → K → Opened K → Type 0
  BeginsRecorded m r j keeper made =
      let opening = begun_as ghosts m.limits m.flat j keeper (is_recording r.mode) r.sink.held in
      IsFirstPass made.book made.pass opening

  -- what a keeper has of a history that has ended
  pub record HasKept (o : Opening) (log : List Entry) (keeper : K) : Type 0 where
    -- what stood before and the kept changes in order, and perhaps a part of one whose append failed since
    pub holds : KeptIn (kept_after o log) (ghosts.held keeper)
    -- and so it was with what a crash might have left
    pub lasts : Lasts o log (ghosts.crashes keeper)
    -- if no append failed since the last change that was kept, a crash leaves just that
    pub only : (s : Stood) → kept_after o log ≡ Some s → s.lost ≡ [] → IsOnly (ghosts.held keeper) (ghosts.crashes keeper).leaves
    -- each change that was not kept has a fault of the keeper
    pub faults : RoseBy (failures_in log) o.faults (ghosts.faults keeper)
    -- a crash leaves what it holds, unless it failed
    pub settled : SettledSince o.faults (ghosts.faults keeper) (ghosts.settled keeper)
    -- it wasn't opened anew
    pub asked : ghosts.asked keeper ≡ o.asked

  -- a legal history of which the pass had seen a prefix, and all of it where it was alone; what the trail and the log have of it; and what
  -- the keeper holds of its changes
  pub record Closes (o : Opening) (k : Known) (c : Closed K) : Type 0 where
    pub history : List Entry
    pub recorded : IsRecorded o.logged history c.trail c.recorder
    pub records : is_recording c.recorder.mode ≡ o.records
    pub longer : IsPrefix k.seen history
    pub legal : Legal o.limits o.first history
    pub alone : k.alone ≡ true → history ≡ k.seen
    pub services : c.services ≡ length (state o.limits o.first history).services
    -- each entry has a code
    pub coded : All IsCoded history
    pub keeps : HasKept o history c.keeper

  -- the trail has that history, whole
  pub record ClosesWhole (o : Opening) (k : Known) (c : Closed K) : Type 0 where
    pub longer : IsPrefix k.seen c.trail.entries
    pub past : c.trail.past ≡ 0
    pub text : c.trail.text ≡ text_in c.trail.entries
    pub legal : Legal o.limits o.first c.trail.entries
    pub alone : k.alone ≡ true → c.trail.entries ≡ k.seen
    pub services : c.services ≡ length (state o.limits o.first c.trail.entries).services
    -- each entry has a code
    pub coded : All IsCoded c.trail.entries
    pub keeps : HasKept o c.trail.entries c.keeper

-- ## gone

-- a caller goes; a pass that is nobody's makes no step
pub record Goes (o : Opening) (k : Known) (moment : ℕ) (k' : Known) : Type 0 where
  pub caller : k.caller ≢ 0 → Made o k moment (Gone k.caller) answers.Done k'
  pub nobody : k.caller ≡ 0 → k' ≡ k
