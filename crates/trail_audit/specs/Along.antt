-- Where an audit stands, and what became of the bytes on a stretch of a text.
use Rattle.std.specs.Prelude.{ℕ, ◌≡◌, ◌+◌, ◌<◌, ◌≤◌, ◌^◌, Bool, true, false, List, [], ◌∷◌, ◌++◌, length, take, Option, None, Some, IfNone, Result}
use Rattle.std.specs.Prelude.{Ok, Err}
use Rattle.std.specs.List.{AllByRecursion}
use Rattle.feed_loop.specs.declared.fed.ReadEnd.{ReadEnd}
use Rattle.feed_loop.specs.declared.fed.ReadEnd.TheVariants as fed
use Rattle.scm_core.specs.Managed.{Managed}
use Rattle.scm_replay.specs.Replay.{IsOneLine}
use Rattle.trail_text.specs.Audits.{At, BeforeAnswer, InEntries, next, reached_from}
use Rattle.trail_text.specs.Histories.{ended}
use Rattle.trail_audit.specs.Heads.{IsSound, head_at}
use Rattle.trail_audit.specs.declared.audited.Audited.{Audited}
use Rattle.trail_audit.specs.declared.audited.Audited.TheVariants as audited
use Rattle.trail_audit.specs.declared.auditor.Auditor.{Auditor}
use Rattle.trail_audit.specs.declared.feeding.Reading.{Reading}
use Rattle.trail_audit.specs.declared.stop.Stop.{Stop}
use Rattle.trail_audit.specs.declared.stop.Stop.TheVariants as stop

-- ## Where it stands

-- among the entries, of which the last may lack its answer
abbrev pub later_at : (is_due : Bool) → (due : List ℕ) → Managed → At
later_at true due m = BeforeAnswer due m.limits m.steps m.flat
later_at false due m = InEntries m.limits m.steps m.flat

abbrev pub at_by : Option Managed → Auditor → At
at_by None a = head_at a.head
at_by (Some m) a = later_at a.is_due a.due.items m

abbrev pub at_of : Auditor → At
at_of a = at_by a.entering a

-- the opening can still be begun with; later nothing is to hold
abbrev pub CanGoOn : Auditor → Type 0
CanGoOn a = IfNone a.entering (IsSound a.head)

-- where the lines so far lead, the number of the next one, and what was read of it
pub record Point : Type 0 where
  pub at : At
  pub number : ℕ
  pub pending : List ℕ

abbrev pub point : Auditor → Reading → Point
point a reading = record { at = at_of a; number = reading.number; pending = reading.pending.items }

-- so many bytes more can be read
pub record MayRead (a : Auditor) (reading : Reading) (most : ℕ) : Type 0 where
  pub on : CanGoOn a
  pub clean : IsOneLine reading.pending.items
  pub lines : reading.number + most ≤ 2 ^ 50

-- ## Stretches

-- these bytes, after what was read of the line, are lines that may come one after another, and what was read of the next one
pub record GoesOn (piece : List ℕ) (a b : Point) : Type 0 where
  pub lines : List (List ℕ)
  pub parts : a.pending ++ piece ≡ ended lines ++ b.pending
  pub whole : AllByRecursion IsOneLine lines
  pub led : reached_from a.at lines ≡ Some b.at
  pub count : b.number ≡ a.number + length lines
  pub clean : IsOneLine b.pending

-- the bytes before a line feed go on, and the line that it ends may not come
pub record GoesWrong (piece : List ℕ) (a : Point) (number : ℕ) : Type 0 where
  pub before : List ℕ
  pub rest : List ℕ
  pub point : Point
  pub parts : piece ≡ before ++ 10 ∷ rest
  pub on : GoesOn before a point
  pub place : number ≡ point.number
  pub wrong : next point.at point.pending ≡ None

-- memory may be wanting anywhere
abbrev pub StopsIn : (piece : List ℕ) → Point → Stop → Type 0
StopsIn piece a (stop.Wrong number) = GoesWrong piece a number
StopsIn piece a stop.OutOfMemory = Unit {0}

abbrev pub LinesFed : {T : Type 0} → (piece : List ℕ) → Point → Point → Result T Stop → Type 0
LinesFed piece a b (Ok done) = GoesOn piece a b
LinesFed piece a b (Err why) = StopsIn piece a why

-- so many of the bytes, at least one, are taken from their front on
abbrev pub FrontFed : (bytes : List ℕ) → Point → Point → Result ℕ Stop → Type 0
FrontFed bytes a b (Ok count) = (0 < count) × (count ≤ length bytes) × GoesOn (take count bytes) a b
FrontFed bytes a b (Err why) = StopsIn bytes a why

-- ## The end

-- what is said at the end, by how many entries a text has that ends there, if one may
abbrev pub audited_as : ReadEnd Stop → Option ℕ → Audited
audited_as fed.Ended (Some entries) = audited.Legal entries
audited_as fed.Ended None = audited.Truncated
audited_as fed.ReadFault entries = audited.ReadFault
audited_as fed.Worn entries = audited.Worn
audited_as (fed.Stopped (stop.Wrong line)) entries = audited.NotLegal line
audited_as (fed.Stopped stop.OutOfMemory) entries = audited.OutOfMemory
