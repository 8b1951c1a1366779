-- `pipe`: one connection from the input to the output, over a book that only its caller calls.
use Rattle.std.specs.Prelude.{ℕ, ◌≡◌, ◌≢◌, ◌<◌, ◌^◌, ◌⊎◌, Bool, List, [], length, Option, Some, IfSome, option_map}
use Rattle.outside.specs.Causes.{Rose}
use Rattle.outside.specs.Written.{Begins}
use Rattle.scm_model.specs.declared.flat.Config.{Config}
use Rattle.scm_model.specs.declared.flat.Flat.{Flat}
use Rattle.scm_model.specs.declared.flat.Limits.{Limits}
use Rattle.scm_model.specs.declared.flat.Principal.{Principal}
use Rattle.scm_model.specs.declared.steps.Change.{Change}
use Rattle.scm_model.specs.Entries.{Entry}
use Rattle.scm_history.specs.Kept.{kept_changes}
use Rattle.scm_history.specs.Outcomes.{Outcome, outcomes}
use Rattle.record_journal.specs.Bearing.{KeptIn, Stands, Stood, and_changes}
use Rattle.record_journal.specs.Crashes.{Crashes}
use Rattle.record_journal.specs.Replay.{replayed}
use Rattle.record_journal.specs.declared.replaying.Replay.{Replay}
use Rattle.journal_lasting.specs.Lasting.{stood_after}
use Rattle.scm_kept.specs.Fitting.{AreBytes}
use Rattle.scm_kept.specs.Read.{IsJournalOf, IsLeftReadable}
use Rattle.scm_book.specs.Calls.{IsOnly}
use Rattle.scm_book.specs.Holds.{RoseBy, failures_in}
use Rattle.rpc_session.specs.Items.{StreamEnd, AtRest, Unfinished, BadPdu, TooLong, items}
use Rattle.conn_desk.specs.declared.served.Served.{Served}
use Rattle.conn_desk.specs.declared.served.Served.TheVariants as served
use Rattle.conn_desk.specs.Connection.{IsOpenEnd, IsServedFor}
use Rattle.scm_pipe.specs.Piping.{HasRoomForAll, IsPiped}
use Rattle.scmd_top.specs.Opening.{FailsToOpen, HasNotOpened, IsOpenable, kept_front, program_opening}
use Rattle.scmd_top.specs.Sides.{Side, Sides}
use Rattle.scmd_top.specs.Statuses.{IsOrLacks, program_limits}

abbrev pub status_of : Served → ℕ
status_of served.Ended = 0
status_of served.ReadFault = 1
status_of served.WriteFault = 2
status_of served.Truncated = 6
status_of (served.BadPdu place _) = 7
status_of (served.TooLong length) = 7
status_of served.OutOfMemory = 8
status_of served.Full = 9
status_of served.Worn = 12

-- ## The journal

-- what is kept after what stood and what these steps did with their changes
abbrev pub kept_behind : Replay → List Outcome → (told : Option (List ℕ)) → Option Stood
kept_behind replay outs told = option_map (λ s. stood_after s outs) (kept_front replay told)

-- After what is kept of what stood the keeper has the changes that these steps kept, and perhaps a part of one whose append failed since the
-- last of them; and so it is with what a crash now leaves. So many failed appends raised its count.
pub record KeepsJournal (replay : Replay) (outs : List Outcome) (failed : ℕ) (keeper : Side) (now : Crashes) : Type 0 where
  pub kept : KeptIn (kept_behind replay outs keeper.told) keeper.told_now
  pub stands : IfSome (kept_front replay keeper.told) (λ s. Stands (stood_after s outs) now)
  -- if no append failed since the last change that was kept, a crash now leaves just what is held
  pub only : (s : Stood) → kept_behind replay outs keeper.told ≡ Some s → s.lost ≡ [] → IsOnly keeper.told_now now.leaves
  pub faults : RoseBy failed keeper.faults keeper.faults_now

-- what the keeper holds, and what a crash now leaves, is read as these configurations, or with one change more whose append failed since the
-- last that was kept
pub record IsReadAs (configs : List Config) (s : Stood) (told : Option (List ℕ)) (now : Crashes) : Type 0 where
  pub held : IfSome told (IsLeftReadable s configs)
  pub left : (x : List ℕ) → now.leaves x → IsLeftReadable s configs x

-- Where bytes are bytes, the next opening reads what was kept of what stood and then these changes, as what they come to; and so it reads
-- what the keeper holds, or what a crash leaves of it.
pub record OpensAgain (replay : Replay) (changes : List Change) (outs : List Outcome) (keeper : Side) (now : Crashes) : Type 0 where
  pub kept : IfSome (and_changes (kept_front replay keeper.told) changes) (λ s. IsJournalOf s (replayed replay.configs changes))
  pub read : IfSome (kept_behind replay outs keeper.told) (λ s. IsReadAs (replayed replay.configs changes) s keeper.told_now now)

abbrev pub IsOpenedAgain : Replay → Limits → Flat → List Entry → (keeper : Side) → Crashes → Type 0
IsOpenedAgain replay l f history keeper now =
    IfSome keeper.told AreBytes → OpensAgain replay (kept_changes l f history) (outcomes l f history) keeper now

-- ## The connection

-- One history from a moment of the clock on, over what stood under the path: what was added to the output is its answer to what was read of
-- the input, and its kept changes stand in the journal after what stood.
pub record HasServed (tells : ℕ → Type 0) (path : Bool) (principal : Principal) (how : Served) (s : Sides) (now : Crashes) : Type 0 where
  pub replay : Replay
  pub stood : IsOpenable path s.keeper.told replay
  pub opened : ℕ
  pub opened_at : tells opened
  pub history : List Entry
  pub piped : IsPiped tells principal program_limits (program_opening [] replay.configs opened) s.input.told s.input.told_now s.output.told
      s.output.told_now how history
  pub kept : KeepsJournal replay (outcomes program_limits (program_opening [] replay.configs opened) history) (failures_in history)
      s.keeper now
  pub again : IsOpenedAgain replay program_limits (program_opening [] replay.configs opened) history s.keeper now

-- there was no memory for a book and its caller: nothing is read or written, and no change is kept
pub record HasNotJoined (path : Bool) (how : Served) (s : Sides) (now : Crashes) : Type 0 where
  pub replay : Replay
  pub stood : IsOpenable path s.keeper.told replay
  pub how_is : how ≡ served.OutOfMemory
  pub unread : s.input.told_now ≡ s.input.told
  pub unwritten : s.output.told_now ≡ s.output.told
  pub kept : KeepsJournal replay [] 0 s.keeper now

abbrev pub HasCome : (tells : ℕ → Type 0) → (path : Bool) → Principal → Served → Sides → Crashes → Type 0
HasCome tells path principal how s now = HasServed tells path principal how s now ⊎ HasNotJoined path how s now

pub record HasConnected (tells : ℕ → Type 0) (path : Bool) (principal : Principal) (s : Sides) (now : Crashes) (status : ℕ) : Type 0 where
  pub how : Served
  pub status_is : status ≡ status_of how
  pub come : HasCome tells path principal how s now
  pub cause : IsServedFor how s.input.faults s.input.faults_now s.output.faults s.output.faults_now

abbrev pub HasPiped : (tells : ℕ → Type 0) → (path : Bool) → Principal → Sides → Crashes → (status : ℕ) → Type 0
HasPiped tells path principal s now status = HasConnected tells path principal s now status ⊎ HasNotOpened path s status

-- ## Completeness

-- the status of an input that ends so
abbrev pub pipe_status : StreamEnd → ℕ
pipe_status AtRest = 0
pipe_status Unfinished = 6
pipe_status (BadPdu place _) = 7
pipe_status (TooLong length) = 7

-- the status, unless memory ran out, or the journal was not opened
abbrev pub IsOrFails : (path : Bool) → (keeper : Side) → (due status : ℕ) → Type 0
IsOrFails path keeper due status = IsOrLacks due status ⊎ FailsToOpen path keeper status

-- Each end of the input has its status; where more comes than a connection may have and no end before that, it is 12.
pub record EndsAs (path : Bool) (keeper : Side) (bytes : List ℕ) (status : ℕ) : Type 0 where
  pub whole : length bytes < 2 ^ 40 → IsOrFails path keeper (pipe_status (items bytes).ending) status
  pub worn : (front : List ℕ) → Begins front bytes → length front ≡ 2 ^ 40 → IsOpenEnd (items front).ending
      → IsOrFails path keeper 12 status

-- whenever the history begins over what stood under the path, if a manager can begin with it, the limits have room for each request of
-- these bytes after any history that serves those before it
abbrev pub HasRoomAlways : (path : Bool) → (held : Option (List ℕ)) → Principal → List ℕ → Type 0
HasRoomAlways path held principal bytes =
    (opened : ℕ) (replay : Replay) → IsOpenable path held replay → HasRoomForAll principal program_limits
    (program_opening [] replay.configs opened) bytes

-- If the input is known and neither its count nor the output's rose, the status is that of its end, unless a request found no room. If the
-- input is known and there is room for each request, the status isn't 9.
pub record IsComplete (path : Bool) (principal : Principal) (s : Sides) (status : ℕ) : Type 0 where
  pub ends : IfSome s.input.told (λ bytes. (Rose s.input.faults s.input.faults_now → ⊥) → (Rose s.output.faults s.output.faults_now → ⊥)
      → status ≢ 9 → EndsAs path s.keeper bytes status)
  pub room : IfSome s.input.told (λ bytes. HasRoomAlways path s.keeper.told principal bytes → status ≢ 9)
