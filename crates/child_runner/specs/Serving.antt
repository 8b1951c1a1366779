-- A child from its first byte to its end.
use Rattle.std.specs.Prelude.{ℕ, ◌≡◌, ◌<◌, ◌≤◌, ◌+◌, ◌^◌, ◌⊎◌, ◌++◌, All, Bool, IfSome, false, true, List, [], ◌∷◌, length, map, slice_get}
use Rattle.std.specs.Prelude.{Option, Some}
use Rattle.std.specs.Io.KnownBytes.{Consumes, IsAtEnd}
use mathlib.Core.List.{IsPrefix}
use Rattle.feed_loop.specs.declared.fed.ReadEnd.{ReadEnd}
use Rattle.feed_loop.specs.declared.fed.ReadEnd.TheVariants as fed
use Rattle.outside.specs.Causes.{Rose}
use Rattle.outside.specs.Written.{Begins}
use Rattle.child_link.specs.declared.lines.Reported.{Reported}
use Rattle.scm_model.specs.declared.steps.Step.TheVariants as steps
use Rattle.scm_model.specs.Entries.{Entry}
use Rattle.book_rule.specs.declared.view.Opening.{Opening}
use Rattle.book_rule.specs.Ways.{Has}
use Rattle.child_link.specs.Children.{HasEnded}
use Rattle.child_link.specs.Lines.{report_step}
use Rattle.scm_book.specs.declared.fault.MakeFault.{MakeFault}
use Rattle.scm_book.specs.declared.fault.MakeFault.TheVariants as lacks
use Rattle.scm_book.specs.declared.processes.EndedEnd.{EndedEnd}
use Rattle.scm_book.specs.Passes.{FindsNoRoom, Known, Learnt, room_behind}
use Rattle.scm_book.specs.Processes.{EndedSo}
use Rattle.child_runner.specs.declared.served.ChildServed.{ChildServed}
use Rattle.child_runner.specs.declared.served.ChildServed.TheVariants as served
use Rattle.child_runner.specs.Reports.{Chain, reports}

-- ## All reads

-- how it ends that a child's output was fed so
abbrev pub child_served_as : ReadEnd MakeFault → ChildServed
child_served_as fed.Ended = served.Ended
child_served_as fed.ReadFault = served.ReadFault
child_served_as fed.Worn = served.Worn
child_served_as (fed.Stopped lacks.Full) = served.Full
child_served_as (fed.Stopped lacks.OutOfMemory) = served.OutOfMemory

-- all of the link's bytes were read, where it tells them
abbrev pub IsAll : (left : Option (List ℕ)) → (read : List ℕ) → Type 0
IsAll left read = IfSome left (λ bytes. read ≡ bytes)

-- all was read, or as much as a child may have, or up to a read that failed
abbrev pub IsReadOut : (left : Option (List ℕ)) → (read : List ℕ) → (faults faults_now : ℕ) → Type 0
IsReadOut left read faults faults_now = IsAll left read ⊎ (length read ≡ 2 ^ 40) ⊎ Rose faults faults_now

-- what is left was read, after so many bytes
pub record ReadsOn (left left_now : Option (List ℕ)) (count faults faults_now : ℕ) : Type 0 where
  pub more : List ℕ
  pub consumed : Consumes left left_now more
  pub most : count + length more ≤ 2 ^ 40
  pub out : IsAtEnd left_now ⊎ (count + length more ≡ 2 ^ 40) ⊎ Rose faults faults_now
  pub caused : (faults_now ≡ faults) ⊎ Rose faults faults_now

-- the limits have no room for the report that comes next, after what the pass has seen
pub record HasNoRoom (o : Opening) (process : ℕ) (k : Known) (read : List ℕ) (done : List Reported) : Type 0 where
  pub next : Reported
  pub follows : Begins (done ++ next ∷ []) (reports read)
  pub full : room_behind o k.seen (report_step process next) ≡ false

-- How far the reports of what was read came, by what is answered.
abbrev pub HowFar : Opening → ℕ → Known → ChildServed → (left : Option (List ℕ)) → (read : List ℕ) → List Reported → Type 0
HowFar o process k served.Ended left read done = IsAll left read × (length read < 2 ^ 40) × (done ≡ reports read)
HowFar o process k served.ReadFault left read done = (length read < 2 ^ 40) × (done ≡ reports read)
HowFar o process k served.Worn left read done = (length read ≡ 2 ^ 40) × (done ≡ reports read)
HowFar o process k served.Full left read done = HasNoRoom o process k read done
HowFar o process k served.OutOfMemory left read done = Begins done (reports read)

-- How far they came where reading ended or a report wasn't made, whatever follows what was read.
abbrev pub CameTo : Opening → ℕ → (last now : Known) → ChildServed → (left : Option (List ℕ)) → (read : List ℕ) → List Reported → Type 0
CameTo o process last now served.Full left read done =
    (next : Reported) × ((more : List ℕ) → Begins (done ++ next ∷ []) (reports (read ++ more)))
    × FindsNoRoom o last (report_step process next) now
CameTo o process last now served.OutOfMemory left read done = Learnt o last now × ((more : List ℕ) → Begins done (reports (read ++ more)))
CameTo o process last now how left read done = (now ≡ last) × HowFar o process now how left read done

-- the pass is as the last report made it, but where the next one had no room or no memory
abbrev pub PassLeft : Opening → ChildServed → (last now : Known) → Type 0
PassLeft o served.Full last now = Learnt o last now
PassLeft o served.OutOfMemory last now = (now ≡ last) ⊎ Learnt o last now
PassLeft o how last now = now ≡ last

-- the link's count of faults rose where reading failed, and is the same where it ended or enough was read
abbrev pub IsReadFor : ChildServed → (faults faults_now : ℕ) → Type 0
IsReadFor served.Ended faults faults_now = faults_now ≡ faults
IsReadFor served.Worn faults faults_now = faults_now ≡ faults
IsReadFor served.ReadFault faults faults_now = Rose faults faults_now
IsReadFor how faults faults_now = (faults_now ≡ faults) ⊎ Rose faults faults_now

module _ (tells : ℕ → Type 0) (o : Opening) (process : ℕ) where
  -- The first reports of what was read lead to last.
  pub record MakesReports (k now : Known) (left left_now : Option (List ℕ)) (count : ℕ) (how : ChildServed) : Type 0 where
    pub read : List ℕ
    pub done : List Reported
    pub consumed : Consumes left left_now read
    pub counted : count ≡ length read
    pub most : length read ≤ 2 ^ 40
    pub last : Known
    pub chain : Chain tells o process k last done
    pub came : CameTo o process last now how left read done

  -- All was read, and the first reports of it lead to last; the pass then stands here.
  pub record ReadsAll (k stood : Known) (left left_now : Option (List ℕ)) (faults faults_now : ℕ) (how : ChildServed) : Type 0 where
    pub read : List ℕ
    pub done : List Reported
    pub consumed : Consumes left left_now read
    pub most : length read ≤ 2 ^ 40
    pub out : IsReadOut left read faults faults_now
    pub last : Known
    pub chain : Chain tells o process k last done
    pub leaves : PassLeft o how last stood
    pub reached : HowFar o process stood how left read done

-- ## The whole

-- a failed wait is a read fault where nothing else came before
abbrev pub waited_in_vain : ChildServed → ChildServed
waited_in_vain served.Ended = served.ReadFault
waited_in_vain how = how

-- the child has ended, where the link tells that; or the wait failed, and the count rose
abbrev pub Awaits : ChildServed → (ended_now : Option Bool) → (faults faults_now : ℕ) → ChildServed → Type 0
Awaits how ended_now faults faults_now how' =
    ((how' ≡ how) × HasEnded ended_now × (faults_now ≡ faults)) ⊎ ((how' ≡ waited_in_vain how) × Rose faults faults_now)

-- The link's count of faults rose in a read or a wait that failed; where it is the same, the child has ended, where the link tells that.
abbrev pub IsEndedFor : ChildServed → (ended_now : Option Bool) → (faults faults_now : ℕ) → Type 0
IsEndedFor served.Ended ended_now faults faults_now = HasEnded ended_now × (faults_now ≡ faults)
IsEndedFor served.ReadFault ended_now faults faults_now = Rose faults faults_now
IsEndedFor how ended_now faults faults_now = (HasEnded ended_now × (faults_now ≡ faults)) ⊎ Rose faults faults_now

-- these entries stand at these places of a history
abbrev pub EntriesStandAt : List Entry → List ℕ → List Entry → Type 0
EntriesStandAt log [] [] = Unit {0}
EntriesStandAt log (place ∷ places) (e ∷ entries) = (slice_get log place ≡ Some e) × EntriesStandAt log places entries
EntriesStandAt log [] (e ∷ entries) = ⊥
EntriesStandAt log (place ∷ places) [] = ⊥

-- these entries are the reports, in order, at moments that the clock tells
pub record AreReports (tells : ℕ → Type 0) (process : ℕ) (heard : List Reported) (entries : List Entry) : Type 0 where
  pub steps : map (λ (e : Entry). e.1) entries ≡ map (report_step process) heard
  pub told : All (λ (e : Entry). tells e.0) entries

module _ (tells : ℕ → Type 0) (o : Opening) (process : ℕ) where
  -- The pass's own places are those that it had, and those of these reports, and last that of the process's end.
  pub record HasReported (k k' : Known) (heard : List Reported) : Type 0 where
    pub entries : List Entry
    pub reports : AreReports tells process heard entries
    pub moment : ℕ
    pub told : tells moment
    pub places : List ℕ
    pub own : k'.own ≡ k.own ++ places
    pub stand : EntriesStandAt k'.seen places (entries ++ (moment, steps.Ended process) ∷ [])

  -- All was read, and the reports that were made of it lead to stood. Then the process ended.
  pub record ServesChild (k k' : Known) (left left_now : Option (List ℕ)) (faults faults_now : ℕ) (how : ChildServed) : Type 0 where
    pub stood : Known
    pub reads : ReadsAll tells o process k stood left left_now faults faults_now how
    pub moment : ℕ
    pub told : tells moment
    pub ended : EndedEnd
    pub ends : EndedSo o stood moment process ended k'
    pub reported : HasReported k k' reads.done

-- ## Completeness

-- the limits had room for each of these reports after all that the pass then saw
abbrev pub HadRoomFor : Opening → ℕ → Known → Known → List Reported → Type 0
HadRoomFor o process k k' heard =
    (log : List Entry) (report : Reported) → IsPrefix k.seen log → IsPrefix log k'.seen → Has report heard
    → room_behind o log (report_step process report) ≡ true

-- Where the link tells its bytes, fewer than a child may have, its count didn't rise, and there was room, all reports were made and the
-- answer is
-- Ended, or there was no memory.
abbrev pub IsWhole : (tells : ℕ → Type 0) → Opening → ℕ → (k k' : Known) → (left : Option (List ℕ)) → (faults faults_now : ℕ)
    → ChildServed → Type 0
IsWhole tells o process k k' left faults faults_now how =
    (bytes : List ℕ) → left ≡ Some bytes → length bytes < 2 ^ 40 → (Rose faults faults_now → ⊥) → HadRoomFor o process k k' (reports bytes)
    → (how ≡ served.OutOfMemory) ⊎ ((how ≡ served.Ended) × HasReported tells o process k k' (reports bytes))
