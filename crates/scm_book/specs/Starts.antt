-- The outcome of a look at a start that waits.
use Rattle.std.specs.Prelude.{ℕ, ◌≡◌, ◌≢◌, List, Option, None, Some, Box}
use Rattle.std.specs.declared.alloc.Global.{Global}
use mathlib.Core.List.{IsPrefix}
use Rattle.atomic_table.specs.declared.badge.Badge.{Badge}
use Rattle.atomic_table.specs.declared.shared.Seat.{Seat}
use Rattle.scm_model.specs.declared.flat.Phase.{Phase}
use Rattle.scm_model.specs.declared.steps.Answer.{Answer}
use Rattle.scm_model.specs.declared.steps.Answer.TheVariants as answers
use Rattle.scm_model.specs.declared.steps.Name.{Name}
use Rattle.scm_model.specs.declared.steps.Name.TheVariants as names
use Rattle.scm_model.specs.declared.steps.Step.TheVariants.{EndStart}
use Rattle.scm_model.specs.Entries.{Entry}
use Rattle.start_plan.specs.Decided.{code_of, plan_caller}
use Rattle.scm_rules.specs.Histories.{state}
use Rattle.book_rule.specs.declared.view.Opening.{Opening}
use Rattle.book_rule.specs.declared.view.View.{View}
use Rattle.book_rule.specs.Ways.{Has}
use Rattle.book_rule.specs.Seats.{Identity}
use Rattle.scm_book.specs.Ghosts.{Ghosts}
use Rattle.scm_book.specs.declared.answers.EndLook.{EndLook}
use Rattle.scm_book.specs.declared.answers.EndLook.TheVariants as looks
use Rattle.scm_book.specs.declared.held.Held.{Held}
use Rattle.scm_book.specs.Holds.{Lives, Runs}
use Rattle.scm_book.specs.Passes.{ClaimsIn, HasPlan, HoldsProcess, KeepsAll, Known, Learnt, Made}
use Rattle.scm_book.specs.Turns.{DidBy, LeftIt, of_badge}

-- a plan isn't decided yet after a history
abbrev pub IsUndecided : Opening → List Entry → ℕ → Type 0
IsUndecided o log plan = code_of (state o.limits o.first log).plans plan ≡ None

-- after a history a plan is there, of a caller that lives and is one of these
pub record IsThere (o : Opening) (log : List Entry) (own : List Name) (caller plan : ℕ) : Type 0 where
  pub mine : Has (names.Caller caller) own
  pub lives : Lives o log caller
  pub there : plan_caller (state o.limits o.first log).plans plan ≡ Some caller

-- after each history that goes on from what a pass has seen
abbrev pub AlwaysThere : Opening → Known → ℕ → ℕ → Type 0
AlwaysThere o k caller plan = (log : List Entry) → IsPrefix k.seen log → Runs o log → ClaimsIn o log k → IsThere o log k.names caller plan

-- the start was answered, or its plan is undecided in the state of the new history
abbrev pub Ends : Opening → Known → ℕ → ℕ → ℕ → Known → Option Answer → Type 0
Ends o k moment caller plan k' (Some told) = Made o k moment (EndStart caller plan) told k'
Ends o k moment caller plan k' None = Learnt o k k' × IsUndecided o k'.seen plan

abbrev pub IsEndBy : Opening → Badge View → ℕ → ℕ → ℕ → Badge View → Option Answer → Type 0
IsEndBy o badge moment caller plan badge' r = Ends o (of_badge badge) moment caller plan (of_badge badge') r

module _ {K : Type 0} (ghosts : Ghosts K) (b : Identity)
    (s s' : Seat (Option (Box (Held K) Global)) View) where
  abbrev pub DidEnd : ℕ → ℕ → ℕ → Option Answer → Type 0
  DidEnd moment caller plan (Some told) = DidBy ghosts b s s' moment (EndStart caller plan) told
  DidEnd moment caller plan None = LeftIt s s' × IsUndecided b.opening s.me.0.seen plan

-- ## end_start

abbrev pub EndLooks : Opening → Known → ℕ → ℕ → Known → EndLook → Type 0
EndLooks o k moment plan k' (looks.Done reply) = Made o k moment (EndStart k.caller plan) (answers.Reply reply) k'
EndLooks o k moment plan k' looks.Again = Learnt o k k' × IsUndecided o k'.seen plan

-- all that a pass was responsible for it still is, except for one plan
pub record KeepsAllButPlan (o : Opening) (one : ℕ) (k k' : Known) : Type 0 where
  pub processes : (process : ℕ) (phase : Phase) → HoldsProcess o k process phase → HoldsProcess o k' process phase
  pub plans : (plan : ℕ) → plan ≢ one → HasPlan o k plan → HasPlan o k' plan

-- the start's plan leaves with its answer
abbrev pub EndKeeps : Opening → ℕ → Known → Known → EndLook → Type 0
EndKeeps o plan k k' (looks.Done reply) = KeepsAllButPlan o plan k k'
EndKeeps o plan k k' looks.Again = KeepsAll o k k'
