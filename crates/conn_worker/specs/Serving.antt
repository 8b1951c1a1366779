-- What becomes of a request at the book, at moments that the clock tells.
use Rattle.std.specs.Prelude.{ℕ, Bool, ◌⊎◌, List, Option, None, Some}
use Rattle.scm_model.specs.declared.calls.Reply.{Reply}
use Rattle.scm_model.specs.declared.calls.Reply.TheVariants as replies
use Rattle.scm_model.specs.declared.calls.Request.{Request}
use Rattle.scm_model.specs.declared.steps.Answer.TheVariants as answers
use Rattle.scm_model.specs.declared.steps.Kept.TheVariants.{NotAsked}
use Rattle.scm_model.specs.declared.steps.Step.{Step}
use Rattle.scm_model.specs.declared.steps.Step.TheVariants.{Call, Raised}
use Rattle.scm_model.specs.declared.codes.TheConstants.{ERROR_NOT_ENOUGH_MEMORY}
use Rattle.scm_model.specs.Refused.{refused}
use Rattle.book_rule.specs.declared.view.Opening.{Opening}
use Rattle.scm_book.specs.Called.{RaiseWants, RaisedSo, WantsMemory, called}
use Rattle.scm_book.specs.Passes.{Known, MadeSo}
use Rattle.conn_desk.specs.declared.asked.DecodedRequest.{DecodedRequest}
use Rattle.conn_desk.specs.declared.asked.DecodedRequest.TheVariants as asks
use Rattle.conn_worker.specs.Waiting.{WaitsAndEnds}

-- the step of a caller's request, as it is asked for
abbrev pub step_for : (caller : ℕ) → DecodedRequest → Step
step_for caller (asks.Call request) = Call caller request NotAsked
step_for caller (asks.Raise subtype) = Raised caller subtype

-- its call was made, and was told the reply
pub record IsTold (tells : ℕ → Type 0) (o : Opening) (k : Known) (asked : Request) (reply : Reply) (k' : Known) : Type 0 where
  pub moment : ℕ
  pub told : tells moment
  pub made : MadeSo o k moment (called k asked) (answers.Reply reply) k'

-- its call began a start, which waited through turns and then was answered with the reply
pub record IsWaitedFor (silent : Bool) (tells : ℕ → Type 0) (o : Opening) (k : Known) (asked : Request) (reply : Reply)
    (k' : Known) : Type 0 where
  pub moment : ℕ
  pub told : tells moment
  pub plan : ℕ
  pub begun : Known
  pub made : MadeSo o k moment (called k asked) (answers.Begun plan) begun
  pub ends : WaitsAndEnds silent tells o plan begun reply k'

-- what has the subtype was raised, and that was told a code, which is the reply
pub record IsRaised (tells : ℕ → Type 0) (o : Opening) (k : Known) (subtype : List ℕ) (reply : Reply) (k' : Known) : Type 0 where
  pub moment : ℕ
  pub told : tells moment
  pub made : RaisedSo o k moment subtype reply k'

-- what became of a request that was told a reply
abbrev pub IsReplyTo : (silent : Bool) → (tells : ℕ → Type 0) → Opening → Known → Known → DecodedRequest → Reply → Type 0
IsReplyTo silent tells o k k' (asks.Call request) reply = IsTold tells o k request reply k' ⊎ IsWaitedFor silent tells o k request reply k'
IsReplyTo silent tells o k k' (asks.Raise subtype) reply = IsRaised tells o k subtype reply k'

-- there was no memory for it: that stands in its place, and it is refused with 8
abbrev pub Wants : Opening → Known → (moment : ℕ) → DecodedRequest → Known → Type 0
Wants o k moment (asks.Call request) k' = WantsMemory o k moment request (refused request ERROR_NOT_ENOUGH_MEMORY) k'
Wants o k moment (asks.Raise subtype) k' = RaiseWants o k moment subtype (replies.Code ERROR_NOT_ENOUGH_MEMORY) k'

pub record IsRefused (tells : ℕ → Type 0) (o : Opening) (k : Known) (asked : DecodedRequest) (k' : Known) : Type 0 where
  pub moment : ℕ
  pub told : tells moment
  pub wants : Wants o k moment asked k'

-- what became of a request, by what was heard of it: a reply, or that there was no memory for one
abbrev pub IsServed : (silent : Bool) → (tells : ℕ → Type 0) → Opening → Known → Known → DecodedRequest → Option Reply → Type 0
IsServed silent tells o k k' asked (Some reply) = IsReplyTo silent tells o k k' asked reply
IsServed silent tells o k k' asked None = IsRefused tells o k asked k'
