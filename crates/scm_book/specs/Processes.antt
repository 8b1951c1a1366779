-- The outcomes of the calls of the book on processes.
use Rattle.std.specs.Prelude.{ℕ, ◌≡◌, ◌≢◌, ◌⊎◌, Bool, true, false, List, Option, None, Some, Box}
use Rattle.std.specs.declared.alloc.Global.{Global}
use Rattle.atomic_table.specs.declared.shared.Seat.{Seat}
use Rattle.scm_text.specs.TextWithRoom.{TextWithRoom}
use Rattle.scm_model.specs.declared.flat.Phase.{Phase}
use Rattle.scm_model.specs.declared.flat.Phase.TheVariants as phases
use Rattle.scm_model.specs.declared.steps.Answer.{Answer}
use Rattle.scm_model.specs.declared.steps.Answer.TheVariants as answers
use Rattle.scm_model.specs.declared.steps.Step.TheVariants.{Ended, LaunchTaken}
use Rattle.scm_model.specs.Entries.{Entry}
use Rattle.scm_rules.specs.Histories.{state}
use Rattle.scm_rules.specs.Steps.{wants_launch}
use Rattle.scm_tables.specs.Lines.{first_line}
use Rattle.scm_history.specs.Shapes.{has_current}
use Rattle.book_rule.specs.declared.view.Opening.{Opening}
use Rattle.book_rule.specs.declared.view.View.{View}
use Rattle.book_rule.specs.Seats.{Identity}
use Rattle.scm_book.specs.Ghosts.{Ghosts}
use Rattle.scm_book.specs.declared.held.Held.{Held}
use Rattle.scm_book.specs.declared.processes.LaunchRoom.{LaunchRoom}
use Rattle.scm_book.specs.declared.processes.TakenLaunch.{TakenLaunch}
use Rattle.scm_book.specs.declared.processes.EndedEnd.{EndedEnd}
use Rattle.scm_book.specs.declared.processes.EndedEnd.TheVariants as ends
use Rattle.scm_book.specs.declared.processes.LaunchLook.{LaunchLook}
use Rattle.scm_book.specs.declared.processes.LaunchLook.TheVariants as launches
use Rattle.scm_book.specs.Passes.{HasPlan, HoldsProcess, Known, Learnt, Made}
use Rattle.scm_book.specs.Steps.{Adds}
use Rattle.scm_book.specs.Turns.{DidBy, LeftIt}

-- ## take_launch

-- whether a launch is wanted after a history
abbrev pub is_wanted_behind : Opening → List Entry → Bool
is_wanted_behind o log = wants_launch (state o.limits o.first log).wanted

-- the path and the words of the launch that is wanted first after a history
abbrev pub line_behind : Opening → List Entry → List ℕ × List (List ℕ)
line_behind o log = first_line (state o.limits o.first log) (state o.limits o.first log).wanted

-- the path lies in the room for it, and these are the words
pub record HandsOut (line : List ℕ × List (List ℕ)) (path path' : TextWithRoom) (words : List (List ℕ)) : Type 0 where
  pub lies : path' ≡ record { units = line.0; room = path.room }
  pub rest : words ≡ line.1

module _ {K : Type 0} where
  -- nothing is wanted, and nothing changes; or the launch that is wanted first is taken, and its line handed out
  abbrev pub HoldsLaunch : Held K → Held K → ℕ → TextWithRoom → TextWithRoom → Option TakenLaunch → Type 0
  HoldsLaunch h h' moment path path' None = (wants_launch h.manager.flat.wanted ≡ false) × (h' ≡ h) × (path' ≡ path)
  HoldsLaunch h h' moment path path' (Some taken) =
      Adds h h' moment LaunchTaken (answers.Launch taken.process) × HandsOut
      (first_line h.manager.flat h.manager.flat.wanted) path path' taken.words

  -- so it is with a seat that had the turn, and has given it up
  module _ (ghosts : Ghosts K) (b : Identity)
      (s s' : Seat (Option (Box (Held K) Global)) View) where
    abbrev pub DidLaunch : ℕ → TextWithRoom → TextWithRoom → Option TakenLaunch → Type 0
    DidLaunch moment path path' None = LeftIt s s' × (is_wanted_behind b.opening s.me.0.seen ≡ false) × (path' ≡ path)
    DidLaunch moment path path' (Some taken) =
        DidBy ghosts b s s' moment LaunchTaken (answers.Launch taken.process)
        × HandsOut (line_behind b.opening s.me.0.seen) path path' taken.words

-- the pass has taken the launch of a process, and its line is that of the state before
pub record TakesInHand (o : Opening) (k : Known) (moment process : ℕ) (path path' : TextWithRoom) (words : List (List ℕ))
    (k' : Known) : Type 0 where
  pub made : Made o k moment LaunchTaken (answers.Launch process) k'
  pub line : HandsOut (line_behind o made.before) path path' words

-- so it is with a pass; nothing is wanted in the state of its new history
abbrev pub TakesBy : Opening → Known → ℕ → TextWithRoom → TextWithRoom → Option TakenLaunch → Known → Type 0
TakesBy o k moment path path' None k' = Learnt o k k' × (is_wanted_behind o k'.seen ≡ false) × (path' ≡ path)
TakesBy o k moment path path' (Some taken) k' = TakesInHand o k moment taken.process path path' taken.words k'

abbrev pub LaunchEnds : Opening → Known → ℕ → LaunchRoom → LaunchRoom → LaunchLook → Known → Type 0
LaunchEnds o k moment room room' (launches.Launch process) k' = TakesInHand o k moment process room.path room'.path room'.words k'
    × HoldsProcess o k' process phases.Taken
LaunchEnds o k moment room room' launches.Empty k' = Learnt o k k' × (is_wanted_behind o k'.seen ≡ false) × (room' ≡ room)

-- ## ended

-- whether a service has a process as its current one after a history
abbrev pub is_current_behind : Opening → List Entry → ℕ → Bool
is_current_behind o log process = has_current (state o.limits o.first log) process

-- the answer to an end is that it was taken, or that it is stale
abbrev pub IsEnd : Answer → Type 0
IsEnd told = (told ≡ answers.Done) ⊎ (told ≡ answers.Stale)

abbrev pub told_of_end : EndedEnd → Answer
told_of_end ends.Taken = answers.Done
told_of_end ends.Stale = answers.Stale

abbrev pub EndedSo : Opening → Known → ℕ → ℕ → EndedEnd → Known → Type 0
EndedSo o k moment process ends.Taken k' = (made : Made o k moment (Ended process) answers.Done k')
    × (is_current_behind o made.before process ≡ true)
EndedSo o k moment process ends.Stale k' = (made : Made o k moment (Ended process) answers.Stale k')
    × (is_current_behind o made.before process ≡ false)

-- ## What a pass is still responsible for

-- all that the pass was responsible for it still is, except for one process
pub record KeepsAllBut (o : Opening) (one : ℕ) (k k' : Known) : Type 0 where
  pub processes : (process : ℕ) (phase : Phase) → process ≢ one → HoldsProcess o k process phase → HoldsProcess o k' process phase
  pub plans : (plan : ℕ) → HasPlan o k plan → HasPlan o k' plan
