-- What a connection does while its start waits. A waiter is silent where its turns make no step.
use Rattle.std.specs.Prelude.{ℕ, Bool, ◌≡◌, ◌⊎◌, All, false, List, [], ◌∷◌, Option, None, Some}
use Rattle.scm_model.specs.declared.calls.Reply.{Reply}
use Rattle.scm_model.specs.declared.codes.TheConstants.{ERROR_SERVICE_NO_THREAD}
use Rattle.scm_model.specs.declared.steps.Answer.TheVariants as answers
use Rattle.scm_model.specs.declared.steps.Step.TheVariants.{EndStart, LaunchFailed, LaunchTaken}
use Rattle.book_rule.specs.declared.view.Opening.{Opening}
use Rattle.scm_book.specs.Passes.{HasPlan, Known, Learnt, Made}
use Rattle.scm_book.specs.Processes.{is_wanted_behind}
use Rattle.scm_book.specs.Starts.{IsUndecided}

-- ## A turn

-- the launch that was wanted first was taken, and failed with 1054, since no process is run
pub record FailsLaunch (o : Opening) (k : Known) (moment : ℕ) (k' : Known) : Type 0 where
  pub process : ℕ
  pub taken : Known
  pub takes : Made o k moment LaunchTaken (answers.Launch process) taken
  pub fails : Made o taken moment (LaunchFailed process ERROR_SERVICE_NO_THREAD) answers.Done k'

-- the pass is as it was, or has seen more and made no step
abbrev pub OnlySees : Opening → Known → Known → Type 0
OnlySees o k k' = (k' ≡ k) ⊎ Learnt o k k'

-- a turn leaves the pass, or lets one launch fail where the waiter isn't silent
abbrev pub Turns : (silent : Bool) → Opening → Known → ℕ → Known → Type 0
Turns silent o k moment k' = OnlySees o k k' ⊎ ((silent ≡ false) × FailsLaunch o k moment k')

-- where no process is run, it leaves the pass only where nothing is wanted in what that has then seen
abbrev pub FailsWanted : Opening → Known → ℕ → Known → Type 0
FailsWanted o k moment k' = FailsLaunch o k moment k' ⊎ (is_wanted_behind o k'.seen ≡ false)

-- the plans of the pass's caller stay its own
abbrev pub KeepsPlans : Opening → Known → Known → Type 0
KeepsPlans o k k' = (plan : ℕ) → HasPlan o k plan → HasPlan o k' plan

-- ## Turns after looks

-- a look that found the plan undecided, and the turn after it
pub record WaitsOnce (silent : Bool) (o : Opening) (plan : ℕ) (k : Known) (moment : ℕ) (k' : Known) : Type 0 where
  pub looked : Known
  pub learnt : Learnt o k looked
  pub undecided : IsUndecided o looked.seen plan
  pub turns : Turns silent o looked moment k'

-- so it went on, with a turn at each of these moments
abbrev pub Waits : (silent : Bool) → Opening → ℕ → List ℕ → Known → Known → Type 0
Waits silent o plan [] k k' = k' ≡ k
Waits silent o plan (moment ∷ moments) k k' = (mid : Known) × WaitsOnce silent o plan k moment mid × Waits silent o plan moments mid k'

-- ## The end of a start, at moments that the clock tells

-- the start was answered
pub record Ends (tells : ℕ → Type 0) (o : Opening) (plan : ℕ) (k : Known) (reply : Reply) (k' : Known) : Type 0 where
  pub moment : ℕ
  pub told : tells moment
  pub made : Made o k moment (EndStart k.caller plan) (answers.Reply reply) k'

-- it still waits, after one further turn
pub record StillWaits (silent : Bool) (tells : ℕ → Type 0) (o : Opening) (plan : ℕ) (k k' : Known) : Type 0 where
  pub moment : ℕ
  pub told : tells moment
  pub waits : WaitsOnce silent o plan k moment k'
  pub has : HasPlan o k' plan

-- one look results in the answer, or in a turn
abbrev pub Looks : (silent : Bool) → (tells : ℕ → Type 0) → Opening → ℕ → Known → Known → Option Reply → Type 0
Looks silent tells o plan k k' (Some reply) = Ends tells o plan k reply k'
Looks silent tells o plan k k' None = StillWaits silent tells o plan k k'

-- the start waited through turns, and then was answered
pub record WaitsAndEnds (silent : Bool) (tells : ℕ → Type 0) (o : Opening) (plan : ℕ) (k : Known) (reply : Reply)
    (k' : Known) : Type 0 where
  pub turns : List ℕ
  pub told : All tells turns
  pub waited : Known
  pub waits : Waits silent o plan turns k waited
  pub ends : Ends tells o plan waited reply k'
