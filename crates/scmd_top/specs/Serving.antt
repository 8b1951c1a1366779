-- `serve`: the connections of two listeners over one book.
use Rattle.std.specs.Prelude.{ℕ, ◌≡◌, ◌⊎◌, Bool, List, [], ◌++◌, IsSome, Option, None, Some}
use Rattle.std.specs.Io.KnownBytes.{Appends}
use Rattle.outside.specs.Causes.{Rose}
use Rattle.outside.specs.Written.{AppendsFront}
use Rattle.scm_model.specs.Entries.{Entry}
use Rattle.scm_rules.specs.Histories.{Legal}
use Rattle.scm_rules.specs.Opening.{CanOpen}
use Rattle.scm_history.specs.Outcomes.{outcomes}
use Rattle.record_journal.specs.Crashes.{Crashes}
use Rattle.record_journal.specs.declared.replaying.Replay.{Replay}
use Rattle.scm_model.specs.declared.flat.Config.{Config}
use Rattle.book_rule.specs.declared.view.Opening.{Opening}
use Rattle.opening_lines.specs.declared.opening.Opening.{Opening as Beginning}
use Rattle.trail_text.specs.Histories.{AreAuditable, TellsLegal, first_of, told}
use Rattle.scm_book.specs.Holds.{failures_in}
use Rattle.scm_listener.specs.declared.listener.Listening.{Listening}
use Rattle.scm_trail.specs.Trailed.{Trailed}
use Rattle.scm_server.specs.All.{ServedIn}
use Rattle.scm_server.specs.Ports.{Told}
use Rattle.scm_serving.specs.Listening.{HandsNothing, listening_at}
use Rattle.scm_serving.specs.Serving.{EndsAs, lacked_memory}
use Rattle.scm_serving.specs.declared.serving.BookEnd.{BookEnd}
use Rattle.scm_serving.specs.declared.serving.BookEnd.TheVariants.{Ended, ListenFault, OutOfMemory}
use Rattle.scmd_top.specs.Opening.{HasNotOpened, IsOpenable, beginning_if, program_opening}
use Rattle.scmd_top.specs.Pipe.{IsOpenedAgain, IsOrFails, KeepsJournal}
use Rattle.scmd_top.specs.Sides.{IsUntouched, Ports, Side, Sides}
use Rattle.scmd_top.specs.Statuses.{program_limits}

-- ## What is written

-- a history as text, from what its manager began with, if it is to be exported
abbrev pub exported : Option Beginning → List Entry → List ℕ
exported None history = []
exported (Some begun) history = told begun history

-- a trail has all of it, and it is legal from there, where a manager can begin
pub record CanTell (begun : Beginning) (history : Trailed) : Type 0 where
  pub small : AreAuditable begun.limits
  pub can : CanOpen begun.limits begun.configs
  pub whole : history.past ≡ 0
  pub legal : Legal begun.limits (first_of begun) history.entries

abbrev pub CanExport : Option Beginning → Trailed → Type 0
CanExport None history = Unit {0}
CanExport (Some begun) history = CanTell begun history

-- what is written of it tells that it is legal
abbrev pub TellsExport : Option Beginning → List Entry → Type 0
TellsExport None history = Unit {0}
TellsExport (Some begun) history = TellsLegal begun history (told begun history)

abbrev pub CanEnd : Option Beginning → BookEnd → Type 0
CanEnd begun (Ended text trail) = CanExport begun trail
CanEnd begun end = Unit {0}

-- the whole text, or a front of it where the output failed, or where there was no memory for a history that is exported
abbrev pub IsPut : (text : List ℕ) → (begun : Option Beginning) → (output : Side) → (status : ℕ) → Type 0
IsPut text begun output status =
    ((status ≡ 0) × Appends output.told output.told_now text)
    ⊎ ((status ≡ 2) × AppendsFront output.told output.told_now text × Rose output.faults output.faults_now)
    ⊎ ((status ≡ 8) × AppendsFront output.told output.told_now text × IsSome begun × (output.faults_now ≡ output.faults))

-- what is exported of the history, which tells that it is legal where all of it was written, and the summary; at another end nothing
abbrev pub HasSummary : Option Beginning → BookEnd → (output : Side) → (status : ℕ) → Type 0
HasSummary begun (Ended text trail) output status =
    IsPut (exported begun trail.entries ++ text) begun output status × (status ≡ 0 → TellsExport begun trail.entries)
HasSummary begun OutOfMemory output status = (status ≡ 8) × IsUntouched output
HasSummary begun ListenFault output status = (status ≡ 10) × IsUntouched output

-- ## The book

-- it opens under the program's limits with these groups and services, and nobody is there
pub record IsProgramOpening (groups : List (List ℕ)) (configs : List Config) (opened : ℕ) (o : Opening) : Type 0 where
  pub limits : o.limits ≡ program_limits
  pub first : o.first ≡ program_opening groups configs opened

-- One history from a moment of the clock on, over what stood under the path: the connections of both listeners stand in it, its kept
-- changes stand in the journal after what stood, and it is what is exported and summed up.
pub record HasHistory (tells : ℕ → Type 0) (path : Bool) (groups : List (List ℕ)) (export : Bool) (keeper : Side) (now : Crashes)
    (a a' u u' : Told) (begun : Option Beginning) (end : BookEnd) : Type 0 where
  pub replay : Replay
  pub stood : IsOpenable path keeper.told replay
  pub opened : ℕ
  pub opened_at : tells opened
  pub opening : Opening
  pub opens : IsProgramOpening groups replay.configs opened opening
  pub begins : begun ≡ beginning_if export groups replay.configs opened
  pub history : List Entry
  pub legal : Legal program_limits (program_opening groups replay.configs opened) history
  pub kept : KeepsJournal replay (outcomes program_limits (program_opening groups replay.configs opened) history) (failures_in history)
      keeper now
  pub again : IsOpenedAgain replay program_limits (program_opening groups replay.configs opened) history keeper now
  pub served : ServedIn tells opening history a a' u u' (lacked_memory end)
  pub ends : EndsAs opening history a a' u u' end

-- there was no memory for a book: nothing was handed out, and no change is kept
pub record HasNoBook (path : Bool) (keeper : Side) (now : Crashes) (a a' u u' : Told) (end : BookEnd) : Type 0 where
  pub replay : Replay
  pub stood : IsOpenable path keeper.told replay
  pub lacks : end ≡ OutOfMemory
  pub admin : a' ≡ a
  pub user : u' ≡ u
  pub kept : KeepsJournal replay [] 0 keeper now

abbrev pub HasServedOver : (tells : ℕ → Type 0) → (path : Bool) → (groups : List (List ℕ)) → (export : Bool) → (keeper : Side)
    → Crashes → (a a' u u' : Told) → Option Beginning → BookEnd → Type 0
HasServedOver tells path groups export keeper now a a' u u' begun end = HasHistory tells path groups export keeper now a a' u u' begun end
    ⊎ HasNoBook path keeper now a a' u u' end

-- ## The program

-- both listened, each once and where it was to, and were served
pub record HasListened (tells : ℕ → Type 0) (path : Bool) (groups : List (List ℕ)) (export : Bool) (admin user : Listening) (s : Sides)
    (now : Crashes) (p : Ports) (status : ℕ) : Type 0 where
  pub begun : Option Beginning
  pub end : BookEnd
  pub served : HasServedOver tells path groups export s.keeper now (listening_at p.admin admin) p.admin_now
      (listening_at p.user user) p.user_now begun end
  pub written : HasSummary begun end s.output status

-- one failed to listen: nothing was handed out, no change is kept, and nothing is written
pub record HasNotListened (path : Bool) (s : Sides) (now : Crashes) (p : Ports) (status : ℕ) : Type 0 where
  pub status_is : status ≡ 10
  pub admin : HandsNothing p.admin p.admin_now
  pub user : HandsNothing p.user p.user_now
  pub replay : Replay
  pub stood : IsOpenable path s.keeper.told replay
  pub cause : Rose p.admin.faults p.admin_now.faults ⊎ Rose p.user.faults p.user_now.faults
  pub kept : KeepsJournal replay [] 0 s.keeper now
  pub output : IsUntouched s.output

abbrev pub HasServed : (tells : ℕ → Type 0) → (path : Bool) → (groups : List (List ℕ)) → (export : Bool) → (admin user : Listening)
    → Sides → Crashes → Ports → (status : ℕ) → Type 0
HasServed tells path groups export admin user s now p status =
    HasListened tells path groups export admin user s now p status
    ⊎ HasNotListened path s now p status
    ⊎ (HasNotOpened path s status × (p.admin_now ≡ p.admin) × (p.user_now ≡ p.user))

-- where neither the output's count nor a listener's rose the status is 0, unless memory ran out, or the journal was not opened
abbrev pub IsServingComplete : (path : Bool) → Sides → Ports → (status : ℕ) → Type 0
IsServingComplete path s p status =
    (Rose s.output.faults s.output.faults_now → ⊥) → (Rose p.admin.faults p.admin_now.faults → ⊥)
    → (Rose p.user.faults p.user_now.faults → ⊥) → IsOrFails path s.keeper 0 status
