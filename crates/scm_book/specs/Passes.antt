-- What contracts see of a pass, and what a call of the book makes of it.
use Rattle.std.specs.Prelude.{ℕ, ◌≡◌, ◌≢◌, Bool, true, false, List, [], ◌∷◌, ◌++◌, length, Option, Some}
use mathlib.Core.List.{IsPrefix}
use Rattle.atomic_table.specs.Seated.{TableId}
use Rattle.scm_model.specs.declared.flat.Flat.{Flat}
use Rattle.scm_model.specs.declared.flat.Phase.{Phase}
use Rattle.scm_model.specs.declared.steps.Answer.{Answer}
use Rattle.scm_model.specs.declared.steps.Kept.{Kept}
use Rattle.scm_model.specs.declared.steps.Name.{Name}
use Rattle.scm_model.specs.declared.steps.Name.TheVariants as names
use Rattle.scm_model.specs.declared.steps.Step.{Step}
use Rattle.scm_model.specs.Entries.{Entry, text_in, with_kept}
use Rattle.scm_rules.specs.Histories.{Legal, answer, state}
use Rattle.scm_rules.specs.Room.{has_room}
use Rattle.scm_rules.specs.Steps.{may_come}
use Rattle.scm_history.specs.Phases.{phase_of}
use Rattle.start_plan.specs.Decided.{plan_caller}
use Rattle.book_rule.specs.declared.view.Opening.{Opening}
use Rattle.book_rule.specs.declared.view.View.{View}
use Rattle.book_rule.specs.declared.view.Stage.TheVariants.{Away}
use Rattle.book_rule.specs.Ways.{Claims, Has}
use Rattle.book_rule.specs.Views.{nobody}
use Rattle.book_rule.specs.Seats.{Identity}
use Rattle.scm_book.specs.Ghosts.{nothing_seen}
use Rattle.scm_book.specs.declared.fault.MakeFault.{MakeFault}
use Rattle.scm_book.specs.declared.fault.MakeFault.TheVariants as makes
use Rattle.scm_book.specs.Naming.{names_made, whose_after}
use Rattle.scm_book.specs.Holds.{way_of}

-- whose pass it is, whom its own places made, what it has seen, which places of that are its own, and whether it is the book's only one
pub record Known : Type 0 where
  pub table : TableId
  pub opening : Option Opening
  pub caller : ℕ
  pub names : List Name
  pub seen : List Entry
  pub own : List ℕ
  pub alone : Bool

abbrev pub view_of : List View → View
view_of [] = nobody
view_of (v ∷ vs) = v

abbrev pub knows : TableId → View → Known
knows table v = record {
  table = table;
  opening = v.opening;
  caller = v.caller;
  names = v.names;
  seen = v.seen;
  own = v.own;
  alone = v.alone;
}

abbrev pub known_of : TableId → List View → Known
known_of table views = knows table (view_of views)

-- the view of a token between two calls
pub record Rests (views : List View) : Type 0 where
  pub one : views ≡ view_of views ∷ []
  pub away : (view_of views).stage ≡ Away

-- the view of a pass
pub record Sits (views : List View) (caller : ℕ) : Type 0 where
  pub rests : Rests views
  pub whose : caller ≡ (view_of views).caller

-- the pass is of this book
pub record IsOf (b : Identity) (k : Known) : Type 0 where
  pub table : k.table ≡ b.table
  pub opening : k.opening ≡ Some b.opening

pub record IsSame (k k' : Known) : Type 0 where
  pub table : k'.table ≡ k.table
  pub opening : k'.opening ≡ k.opening
  pub alone : k'.alone ≡ k.alone

-- what a pass claims of a history; what a keeper tells plays no part in it
abbrev pub ClaimsIn : Opening → List Entry → Known → Type 0
ClaimsIn o log k = Claims (way_of nothing_seen) o log k.caller k.names k.own k.seen

-- the state of the history that a pass has seen
abbrev pub seen_state : Opening → Known → Flat
seen_state o k = state o.limits o.first k.seen

-- whether a step may come after a history
abbrev pub may_behind : Opening → List Entry → ℕ → Step → Bool
may_behind o log moment step = may_come o.limits (state o.limits o.first log) moment step

-- whether the limits have room for a step after a history
abbrev pub room_behind : Opening → List Entry → Step → Bool
room_behind o log step = has_room o.limits (state o.limits o.first log) (length log) (text_in log) step

-- the pass has seen a legal history that begins with all that it had seen and ends with this step, which was told this there. What it had
-- claimed it could claim until then, so nobody else had a step of one of its own. A pass that is alone had seen all but the step
pub record Made (o : Opening) (k : Known) (moment : ℕ) (step : Step) (told : Answer) (k' : Known) : Type 0 where
  pub before : List Entry
  pub longer : IsPrefix k.seen before
  pub seen : k'.seen ≡ before ++ (moment, step) ∷ []
  pub legal : Legal o.limits o.first k'.seen
  pub own : k'.own ≡ k.own ++ length before ∷ []
  pub names : k'.names ≡ k.names ++ names_made (state o.limits o.first before) step
  pub caller : k'.caller ≡ whose_after (state o.limits o.first before) k.caller step
  pub answer : answer o.limits o.first k'.seen (length before) ≡ Some told
  pub until : ClaimsIn o before k
  pub claims : ClaimsIn o k'.seen k'
  pub alone : k.alone ≡ true → before ≡ k.seen
  pub same : IsSame k k'

-- the same, with what became of the step's change, and with room for it
pub record MadeSo (o : Opening) (k : Known) (moment : ℕ) (step : Step) (told : Answer) (k' : Known) : Type 0 where
  pub append : Kept
  pub made : Made o k moment (with_kept step append) told k'
  pub room : room_behind o made.before step ≡ true

-- it has seen a legal history that begins with all that it had seen, and made no step
pub record Learnt (o : Opening) (k k' : Known) : Type 0 where
  pub longer : IsPrefix k.seen k'.seen
  pub legal : Legal o.limits o.first k'.seen
  pub own : k'.own ≡ k.own
  pub names : k'.names ≡ k.names
  pub caller : k'.caller ≡ k.caller
  pub until : ClaimsIn o k'.seen k
  pub claims : ClaimsIn o k'.seen k'
  pub alone : k.alone ≡ true → k'.seen ≡ k.seen
  pub same : IsSame k k'

-- it learnt that there is no room for the step
pub record FindsNoRoom (o : Opening) (k : Known) (step : Step) (k' : Known) : Type 0 where
  pub learnt : Learnt o k k'
  pub full : room_behind o k'.seen step ≡ false

-- there was no memory for the step, for which there is room
pub record FindsNoMemory (o : Opening) (k : Known) (step : Step) (k' : Known) : Type 0 where
  pub learnt : Learnt o k k'
  pub free : room_behind o k'.seen step ≡ true

-- it learnt why the step isn't made
abbrev pub FindsFault : Opening → Known → Step → MakeFault → Known → Type 0
FindsFault o k step makes.Full k' = FindsNoRoom o k step k'
FindsFault o k step makes.OutOfMemory k' = FindsNoMemory o k step k'

-- ## What a pass is responsible for

-- the pass took the launch of the process, and the process is in this phase
pub record HoldsProcess (o : Opening) (k : Known) (process : ℕ) (phase : Phase) : Type 0 where
  pub named : Has (names.Process process) k.names
  pub listed : phase_of (seen_state o k) process ≡ Some phase

-- the plan is its caller's
pub record HasPlan (o : Opening) (k : Known) (plan : ℕ) : Type 0 where
  pub caller : k.caller ≢ 0
  pub there : plan_caller (seen_state o k).plans plan ≡ Some k.caller

-- all that the pass was responsible for it still is
pub record KeepsAll (o : Opening) (k k' : Known) : Type 0 where
  pub processes : (process : ℕ) (phase : Phase) → HoldsProcess o k process phase → HoldsProcess o k' process phase
  pub plans : (plan : ℕ) → HasPlan o k plan → HasPlan o k' plan
