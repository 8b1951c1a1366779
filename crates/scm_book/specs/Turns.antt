-- What a call of the book makes of a seat within its turn.
use Rattle.std.specs.Prelude.{ℕ, ◌≡◌, true, false, IsTrue, List, [], ◌∷◌, ◌++◌, length, Option, None, Some, Result, Ok, Err, Box}
use Rattle.std.specs.declared.alloc.Global.{Global}
use mathlib.Core.List.{IsPrefix}
use Rattle.atomic_table.specs.declared.badge.Badge.{Badge}
use Rattle.atomic_table.specs.declared.shared.Seat.{Seat}
use Rattle.scm_model.specs.declared.steps.Answer.{Answer}
use Rattle.scm_model.specs.declared.steps.Kept.{Kept}
use Rattle.scm_model.specs.declared.steps.Name.{Name}
use Rattle.scm_model.specs.declared.steps.Step.{Step}
use Rattle.scm_model.specs.declared.steps.Step.TheVariants.{NoMemory}
use Rattle.scm_model.specs.Entries.{Entry, with_kept}
use Rattle.scm_rules.specs.Histories.{answer}
use Rattle.book_rule.specs.declared.view.Opening.{Opening}
use Rattle.book_rule.specs.declared.view.View.{View}
use Rattle.book_rule.specs.Ways.{Has, Protocol}
use Rattle.book_rule.specs.Rule.{ClaimsOf}
use Rattle.book_rule.specs.Seats.{Holding, Identity}
use Rattle.book_rule.specs.Views.{having_left, having_made}
use Rattle.scm_book.specs.Ghosts.{Ghosts}
use Rattle.scm_book.specs.declared.turning.Recorded.{Recorded}
use Rattle.scm_book.specs.declared.turning.Recorded.TheVariants as recorded
use Rattle.scm_book.specs.declared.fault.MakeFault.{MakeFault}
use Rattle.scm_book.specs.declared.fault.MakeFault.TheVariants as makes
use Rattle.scm_book.specs.declared.fault.StepFault.{StepFault}
use Rattle.scm_book.specs.declared.fault.StepFault.TheVariants as faults
use Rattle.scm_book.specs.declared.held.Held.{Held}
use Rattle.scm_book.specs.Holds.{Holds, Runs, way_of}
use Rattle.scm_book.specs.Naming.{all_names}
use Rattle.scm_book.specs.Passes.{ClaimsIn, IsOf, KeepsAll, Known, Learnt, Made, MadeSo, Rests, known_of, knows, may_behind, room_behind}

-- the step names none but these
abbrev pub NamesNoOther : List Name → Step → Type 0
NamesNoOther names step = (n : Name) → Has n (all_names step) → Has n names

-- a step may come after a history, and names none but these
pub record MayMake (o : Opening) (log : List Entry) (names : List Name) (moment : ℕ) (step : Step) : Type 0 where
  pub may : IsTrue (may_behind o log moment step)
  pub own : NamesNoOther names step

-- after what a seat has seen, with names of its own
abbrev pub MayMakeBy : Opening → View → ℕ → Step → Type 0
MayMakeBy o v moment step = MayMake o v.seen v.names moment step

-- a step may come after each history that goes on from what a pass has seen
abbrev pub AlwaysMay : Opening → Known → ℕ → Step → Type 0
AlwaysMay o k moment step = (log : List Entry) → IsPrefix k.seen log → Runs o log → ClaimsIn o log k → MayMake o log k.names moment step

-- why a step that may come isn't made after a history
abbrev pub MakeCause : Opening → List Entry → Step → MakeFault → Type 0
MakeCause o log step makes.Full = room_behind o log step ≡ false
MakeCause o log step makes.OutOfMemory = room_behind o log step ≡ true

-- why a step isn't made after a history
abbrev pub StepCause : Opening → List Entry → ℕ → Step → StepFault → Type 0
StepCause o log moment step faults.NotNow = may_behind o log moment step ≡ false
StepCause o log moment step (faults.Unmade fault) = (may_behind o log moment step ≡ true) × MakeCause o log step fault

-- ## Between two calls

abbrev pub of_badge : Badge View → Known
of_badge badge = known_of badge.table_id badge.views

-- a token of this book between two calls
pub record IsSeated (b : Identity) (badge : Badge View) : Type 0 where
  pub rests : Rests badge.views
  pub of : IsOf b (of_badge badge)

-- what the tokens know before and after a step
abbrev pub MadeBy : Opening → Badge View → ℕ → Step → Answer → Badge View → Type 0
MadeBy o badge moment step told badge' = Made o (of_badge badge) moment step told (of_badge badge')

abbrev pub KeepsAllBy : Opening → Badge View → Badge View → Type 0
KeepsAllBy o badge badge' = KeepsAll o (of_badge badge) (of_badge badge')

-- the outcome of a step that isn't owed: it was made, with this answer; or it wasn't, for this cause in the state of the new history
abbrev pub StepEnds : Opening → Known → ℕ → Step → Result Answer StepFault → Known → Type 0
StepEnds o k moment step (Ok told) k' = MadeSo o k moment step told k'
StepEnds o k moment step (Err fault) k' = Learnt o k k' × StepCause o k'.seen moment step fault

abbrev pub StepEndsBy : Opening → Badge View → ℕ → Step → Badge View → Result Answer StepFault → Type 0
StepEndsBy o badge moment step badge' r = StepEnds o (of_badge badge) moment step r (of_badge badge')

-- what a call was told: the answer that lies beside what was recorded, or none where there was no memory; or why no step was made
abbrev pub call_told : Result Recorded MakeFault → Answer → Result (Option Answer) MakeFault
call_told (Ok recorded.Call) told = Ok (Some told)
call_told (Ok recorded.NoMemory) told = Ok None
call_told (Err fault) told = Err fault

-- the outcome of a caller's call: it was made, with this answer; or there was room for it but no memory, and NoMemory stands in its place;
-- or no step was made
abbrev pub CallEnds : Opening → Known → ℕ → ℕ → Step → Result (Option Answer) MakeFault → Known → Type 0
CallEnds o k moment caller call (Ok (Some told)) k' = MadeSo o k moment call told k'
CallEnds o k moment caller call (Ok None) k' = (told : Answer) × (made : MadeSo o k moment (NoMemory caller) told k')
    × (room_behind o made.made.before call ≡ true)
CallEnds o k moment caller call (Err fault) k' = Learnt o k k' × MakeCause o k'.seen call fault

abbrev pub CallEndsBy : Opening → Badge View → ℕ → ℕ → Step → Badge View → Result (Option Answer) MakeFault → Type 0
CallEndsBy o badge moment caller call badge' r = CallEnds o (of_badge badge) moment caller call r (of_badge badge')

-- ## Within a turn

module _ {K : Type 0} (ghosts : Ghosts K) where
  -- a seat that has the turn has seen a legal history, and what it holds stands at the end of that history
  pub record HasTurn (b : Identity) (s : Seat (Option (Box (Held K) Global)) View) (h : Held K) : Type 0 where
    pub seat : Holding b s
    pub holds : Holds ghosts b.opening s.me.0.seen h
    pub runs : Runs b.opening s.me.0.seen

module _ {K : Type 0} where
  abbrev pub known : Seat (Option (Box (Held K) Global)) View → Known
  known s = knows s.table_id s.me.0

  abbrev pub StepEndsAt : Opening → Seat (Option (Box (Held K) Global)) View → ℕ → Step → Seat (Option (Box (Held K) Global)) View
      → Result Answer StepFault → Type 0
  StepEndsAt o s moment step s' r = StepEnds o (known s) moment step r (known s')

  module _ (w : Protocol (Held K)) (b : Identity) (s s' : Seat (Option (Box (Held K) Global)) View) where
    -- the seat, which had the turn, made this step, and has given the turn up
    pub record Did (moment : ℕ) (step : Step) (told : Answer) : Type 0 where
      pub table : s'.table_id ≡ s.table_id
      pub me : s'.me ≡ (having_left (having_made w b.opening s.me.0 (moment, step)), [])
      pub run : Runs b.opening (s.me.0.seen ++ (moment, step) ∷ [])
      pub answer : answer b.opening.limits b.opening.first (s.me.0.seen ++ (moment, step) ∷ []) (length s.me.0.seen) ≡ Some told
      pub claims : ClaimsOf w b.opening s'.me.0.seen s'.me.0

    pub record DidSo (moment : ℕ) (step : Step) (told : Answer) : Type 0 where
      pub append : Kept
      pub did : Did moment (with_kept step append) told
      pub free : room_behind b.opening s.me.0.seen step ≡ true

  abbrev pub DidBy : Ghosts K → Identity → Seat (Option (Box (Held K) Global)) View
      → Seat (Option (Box (Held K) Global)) View → ℕ → Step → Answer → Type 0
  DidBy ghosts b s s' moment step told = Did (way_of ghosts) b s s' moment step told

  abbrev pub DidSoBy : Ghosts K → Identity → Seat (Option (Box (Held K) Global)) View
      → Seat (Option (Box (Held K) Global)) View → ℕ → Step → Answer → Type 0
  DidSoBy ghosts b s s' moment step told = DidSo (way_of ghosts) b s s' moment step told

  -- it made no step, and has given the turn up
  pub record LeftIt (s s' : Seat (Option (Box (Held K) Global)) View) : Type 0 where
    pub table : s'.table_id ≡ s.table_id
    pub me : s'.me ≡ (having_left s.me.0, [])

  module _ (ghosts : Ghosts K) (b : Identity)
      (s s' : Seat (Option (Box (Held K) Global)) View) where
    abbrev pub DidStep : ℕ → Step → Result Answer StepFault → Type 0
    DidStep moment step (Ok told) = DidSo (way_of ghosts) b s s' moment step told
    DidStep moment step (Err fault) = LeftIt s s' × StepCause b.opening s.me.0.seen moment step fault

    -- there was no memory for a call, and that stands in its place; or there was none for that either, and the seat has given the turn up
    abbrev pub DidNone : ℕ → ℕ → Result Recorded MakeFault → Type 0
    DidNone moment caller (Ok recorded.NoMemory) = (told : Answer) × DidSo (way_of ghosts) b s s' moment
        (NoMemory caller) told
    DidNone moment caller (Err makes.OutOfMemory) = LeftIt s s'
    DidNone moment caller ended = ⊥

    abbrev pub DidCall : ℕ → ℕ → Step → Result (Option Answer) MakeFault → Type 0
    DidCall moment caller call (Ok (Some told)) = DidSo (way_of ghosts) b s s' moment call told
    DidCall moment caller call (Ok None) = (told : Answer) × DidSo (way_of ghosts) b s s' moment (NoMemory caller) told
        × (room_behind b.opening s.me.0.seen call ≡ true)
    DidCall moment caller call (Err fault) = LeftIt s s' × MakeCause b.opening s.me.0.seen call fault
