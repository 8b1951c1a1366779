-- The outcomes of joins, and the passes that are made and taken in.
use Rattle.std.specs.Prelude.{ℕ, ◌≡◌, Bool, true, false, nat_lt, List, [], length, Option, Result, Ok, Err, Box}
use Rattle.std.specs.declared.alloc.Global.{Global}
use mathlib.Core.List.{IsPrefix}
use Rattle.atomic_table.specs.declared.badge.Badge.{Badge}
use Rattle.atomic_table.specs.declared.shared.Seat.{Seat}
use Rattle.scm_model.specs.declared.flat.Principal.{Principal}
use Rattle.scm_model.specs.declared.steps.Answer.TheVariants as answers
use Rattle.scm_model.specs.declared.steps.Step.{Step}
use Rattle.scm_model.specs.declared.steps.Step.TheVariants.{Joined}
use Rattle.scm_model.specs.Entries.{Entry}
use Rattle.scm_rules.specs.Histories.{Legal, state}
use Rattle.book_rule.specs.declared.view.Opening.{Opening}
use Rattle.book_rule.specs.declared.view.View.{View}
use Rattle.book_rule.specs.Seats.{HandsOver, Identity}
use Rattle.book_rule.specs.Views.{longer}
use Rattle.scm_book.specs.Ghosts.{Ghosts}
use Rattle.scm_book.specs.declared.answers.JoinFault.{JoinFault}
use Rattle.scm_book.specs.declared.answers.JoinFault.TheVariants as joins
use Rattle.scm_book.specs.declared.fault.StepFault.{StepFault}
use Rattle.scm_book.specs.declared.fault.StepFault.TheVariants as steps
use Rattle.scm_book.specs.declared.held.Held.{Held}
use Rattle.scm_book.specs.declared.joining.MadeBeside.{MadeBeside}
use Rattle.scm_book.specs.Passes.{Known, Learnt, MadeSo}
use Rattle.scm_book.specs.Turns.{DidSoBy, LeftIt, MakeCause, StepCause, known, of_badge}

-- ## Causes

-- whether there are fewer callers than there may be after a history
abbrev pub has_place : Opening → List Entry → Bool
has_place o log = nat_lt (length (state o.limits o.first log).callers) o.limits.callers

-- why a join after a history fails
abbrev pub JoinCauseAt : Opening → List Entry → Principal → JoinFault → Type 0
JoinCauseAt o log principal joins.TooMany = has_place o log ≡ false
JoinCauseAt o log principal (joins.Unmade fault) = (has_place o log ≡ true) × MakeCause o log (Joined principal) fault

-- in the state that the pass has seen
abbrev pub JoinCause : Opening → Known → Principal → JoinFault → Type 0
JoinCause o k principal fault = JoinCauseAt o k.seen principal fault

-- a join is a step that isn't owed
abbrev pub join_told : StepFault → JoinFault
join_told steps.NotNow = joins.TooMany
join_told (steps.Unmade fault) = joins.Unmade fault

-- ## join_alone

-- the pass is that of the caller whose number it was told
abbrev pub BecomesCaller : Opening → Known → ℕ → Principal → Known → Type 0
BecomesCaller o root moment principal pass = MadeSo o root moment (Joined principal) (answers.Caller pass.caller) pass

-- the pass joined, and is the new caller's
pub record JoinsAs (o : Opening) (k : Known) (moment : ℕ) (principal : Principal) (k' : Known) (number : ℕ) : Type 0 where
  pub made : MadeSo o k moment (Joined principal) (answers.Caller number) k'
  pub caller : k'.caller ≡ number

-- it did, or nobody joined, for this cause in the state of the new history
abbrev pub JoinEnds : Opening → Known → ℕ → Principal → Known → Result ℕ JoinFault → Type 0
JoinEnds o k moment principal k' (Ok number) = JoinsAs o k moment principal k' number
JoinEnds o k moment principal k' (Err fault) = Learnt o k k' × JoinCause o k' principal fault

abbrev pub JoinEndsAt : {K : Type 0} → Opening → Seat (Option (Box (Held K) Global)) View → ℕ → Principal
    → Seat (Option (Box (Held K) Global)) View → Result ℕ JoinFault → Type 0
JoinEndsAt o s moment principal s' r = JoinEnds o (known s) moment principal (known s') r

abbrev pub JoinEndsBy : Opening → Badge View → ℕ → Principal → Badge View → Result ℕ JoinFault → Type 0
JoinEndsBy o badge moment principal badge' r = JoinEnds o (of_badge badge) moment principal (of_badge badge') r

-- ## join, join_runner

-- what a new pass knows that has seen as much as another, before its first step
abbrev pub fresh : Known → Known
fresh k = record { table = k.table; opening = k.opening; caller = 0; names = []; seen = k.seen; own = []; alone = false }

-- a pass by which others are made isn't the only one, and stays as it is otherwise
abbrev pub accompanied : Known → Known
accompanied k = record k { alone = false }

-- a pass has seen another join, or not join: all that it had seen, and what that one has. It is whose it was, with the same own places
pub record Watches (o : Opening) (by by' : Known) : Type 0 where
  pub same : by' ≡ record by { seen = by'.seen; alone = by'.alone }
  pub longer : IsPrefix by.seen by'.seen
  pub legal : Legal o.limits o.first by'.seen

abbrev pub WatchesBy : Opening → Badge View → Badge View → Type 0
WatchesBy o by by' = Watches o (of_badge by) (of_badge by')

-- the new pass ends with its Joined, which stands after all that the other had seen and is its one own place; the other has seen it join,
-- and isn't alone. Where it was, nothing stands between
pub record Joins (o : Opening) (by : Known) (moment : ℕ) (principal : Principal) (by' p : Known) : Type 0 where
  pub made : MadeSo o (fresh by) moment (Joined principal) (answers.Caller p.caller) p
  pub seen : by'.seen ≡ p.seen
  pub company : by'.alone ≡ false
  pub alone : by.alone ≡ true → made.made.before ≡ by.seen

abbrev pub JoinsBy : Opening → Badge View → ℕ → Principal → Badge View → Known → Type 0
JoinsBy o by moment principal by' p = Joins o (of_badge by) moment principal (of_badge by') p

abbrev pub LearntBy : Opening → Badge View → Badge View → Type 0
LearntBy o by by' = Learnt o (of_badge by) (of_badge by')

module _ {K : Type 0} (ghosts : Ghosts K) (b : Identity)
    (s s' : Seat (Option (Box (Held K) Global)) View) (moment : ℕ) (step : Step) where
  -- the seat, which had the turn, handed it over to a new seat, which made this step and has given the turn up
  pub record DidBeside (made : MadeBeside K) : Type 0 where
    pub holder : Seat (Option (Box (Held K) Global)) View
    pub hands : HandsOver s s' holder
    pub did : DidSoBy ghosts b holder made.seat moment step made.told

  -- it did, or no step was made, and it has given the turn up
  abbrev pub DidStepBeside : Result (MadeBeside K) StepFault → Type 0
  DidStepBeside (Ok made) = DidBeside made
  DidStepBeside (Err fault) = LeftIt s s' × StepCause b.opening s.me.0.seen moment step fault

-- ## leave

-- a pass takes a spent one in: it goes on from the longer of the two histories, and both begin it
pub record TakesIn (by spent by' : Known) : Type 0 where
  pub same : by' ≡ record by { seen = longer by.seen spent.seen }
  pub this : IsPrefix by.seen by'.seen
  pub that : IsPrefix spent.seen by'.seen
