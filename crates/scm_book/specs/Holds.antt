-- What the holder of the turn has at the end of a history.
use Rattle.std.specs.Prelude.{ℕ, ◌≡◌, ◌≤◌, ◌+◌, ◌-◌, ◌^◌, min, Bool, false, IfSome, IsTrue, List, [], ◌∷◌, length, Option, None, option_map}
use Rattle.std.specs.List.{last_or}
use Rattle.scm_model.specs.declared.flat.Flat.{Flat}
use Rattle.scm_model.specs.declared.flat.Limits.{Limits}
use Rattle.scm_model.specs.declared.steps.Kept.TheVariants as appended
use Rattle.scm_model.specs.declared.steps.Step.{Step}
use Rattle.scm_model.specs.declared.steps.Step.TheVariants.{Call}
use Rattle.scm_model.specs.Entries.{Entry, text_in}
use Rattle.scm_model.specs.Rows.{is_caller}
use Rattle.book_rule.specs.declared.view.Opening.{Opening}
use Rattle.book_rule.specs.Ways.{Protocol}
use Rattle.record_journal.specs.Bearing.{Bears, Stood, stood_in}
use Rattle.record_journal.specs.Crashes.{Crashes}
use Rattle.record_journal.specs.Keepers.{SettledSince}
use Rattle.record_journal.specs.declared.journal.Journal.{Journal}
use Rattle.trail_log.specs.Recorders.{is_recording}
use Rattle.scm_book.specs.Recording.{HasCodedFront, IsRecorded}
use Rattle.scm_rules.specs.Histories.{Legal, state}
use Rattle.scm_rules.specs.Opening.{IsOpening}
use Rattle.scm_rules.specs.Owed.{owed}
use Rattle.scm_core.specs.Managed.{AreSmall}
use Rattle.scm_history.specs.Outcomes.{outcomes}
use Rattle.journal_lasting.specs.Lasting.{HasLasted, stood_after}
use Rattle.scm_book.specs.Ghosts.{Ghosts}
use Rattle.scm_book.specs.declared.held.Held.{Held}
use Rattle.scm_book.specs.Naming.{names_made, all_names, whose_after}

-- ## Faults

-- 1 where a step tells that its change was not kept
abbrev pub one_failed : Step → ℕ
one_failed (Call caller asked appended.Failed) = 1
one_failed step = 0

-- how many entries tell that
abbrev pub failures_in : List Entry → ℕ
failures_in [] = 0
failures_in (e ∷ es) = one_failed e.1 + failures_in es

-- a count of faults rose by so many at least; at the greatest number that it can be it stays
abbrev pub RoseBy : ℕ → ℕ → ℕ → Type 0
RoseBy n before now = min (before + n) (2 ^ 64 - 1) ≤ now

-- ## Histories

-- a history begins in an opening state, under limits that a manager can have
pub record Opens (o : Opening) : Type 0 where
  pub begins : IsOpening o.limits o.first
  pub small : AreSmall o.limits

pub record Runs (o : Opening) (log : List Entry) : Type 0 where
  pub opens : Opens o
  pub legal : Legal o.limits o.first log

-- what stood of the journal, and its form, where the keeper tells
abbrev pub stood_at : Opening → Option Stood
stood_at o = stood_in o.form o.bytes

-- what is kept of it after a history
abbrev pub kept_after : Opening → List Entry → Option Stood
kept_after o log = option_map (λ s. stood_after s (outcomes o.limits o.first log)) (stood_at o)

-- what a crash may have left at each moment since the opening, step by step
abbrev pub Lasts : Opening → List Entry → Crashes → Type 0
Lasts o log now = IfSome (stood_at o) (λ s. HasLasted s o.moment (outcomes o.limits o.first log) now)

-- the caller has joined, and hasn't gone
abbrev pub Lives : Opening → List Entry → ℕ → Type 0
Lives o log caller = IsTrue (is_caller (state o.limits o.first log) caller)

module _ {K : Type 0} (ghosts : Ghosts K) where
  -- how a history begins, by its limits, its first state, its journal and its keeper, and by whether it is recorded and what the log told
  abbrev pub begun_as : Limits → Flat → Journal → K → (records : Bool) → (logged : Option (List ℕ)) → Opening
  begun_as l f j keeper records logged = record {
    limits = l;
    first = f;
    bytes = ghosts.held keeper;
    form = j.form;
    faults = ghosts.faults keeper;
    moment = (ghosts.crashes keeper).moment;
    asked = ghosts.asked keeper;
    records = records;
    logged = logged;
  }

  -- nothing of it is recorded: the trail is to have the whole history
  abbrev pub begun_with : Limits → Flat → Journal → K → Opening
  begun_with l f j keeper = begun_as l f j keeper false None

  pub record Holds (o : Opening) (log : List Entry) (h : Held K) : Type 0 where
    -- the trail holds the history, or its end, and the log the rest, after what it told before
    pub recorded : IsRecorded o.logged log h.trail h.recorder
    pub records : is_recording h.recorder.mode ≡ o.records
    pub coded : HasCodedFront log h.trail
    pub limits : h.manager.limits ≡ o.limits
    pub steps : h.manager.steps ≡ length log
    pub text : h.manager.text ≡ text_in log
    pub manager : h.manager.flat ≡ state o.limits o.first log
    -- the keeper holds what stood before and the kept changes in order, and perhaps a part of one whose append failed since
    pub journal : Bears (kept_after o log) h.journal (ghosts.held h.keeper)
    -- and so it was with what a crash might have left
    pub lasts : Lasts o log (ghosts.crashes h.keeper)
    -- each change that was not kept has a fault of the keeper
    pub faults : RoseBy (failures_in log) o.faults (ghosts.faults h.keeper)
    -- a crash now leaves what the keeper holds, unless it failed
    pub settled : SettledSince o.faults (ghosts.faults h.keeper) (ghosts.settled h.keeper)
    -- it wasn't opened anew
    pub asked : ghosts.asked h.keeper ≡ o.asked
    -- memory for the entries that are owed
    pub room : owed h.manager.flat ≤ h.trail.room
    -- the text is within its limit
    pub fits : text_in log ≤ o.limits.text

  abbrev pub way_of : Protocol (Held K)
  way_of = record {
    opening = λ h. begun_as h.manager.limits h.manager.flat h.journal h.keeper (is_recording h.recorder.mode)
        h.recorder.sink.held;
    last = λ h. last_or None h.trail.entries;
    fits = Holds;
    run = Runs;
    lives = Lives;
    names = λ e. all_names e.1;
    makes = λ o log e. names_made (state o.limits o.first log) e.1;
    whose = λ o log caller e. whose_after (state o.limits o.first log) caller e.1;
  }
