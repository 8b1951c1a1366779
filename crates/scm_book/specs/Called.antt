-- The outcomes of a caller's calls.
use Rattle.std.specs.Prelude.{ℕ, ◌≡◌, ◌⊎◌, Bool, true, false, List, Option, None, Some, Result, Ok, Err}
use Rattle.scm_model.specs.declared.codes.TheConstants.{ERROR_NOT_ENOUGH_MEMORY}
use Rattle.scm_model.specs.declared.calls.Reply.{Reply}
use Rattle.scm_model.specs.declared.calls.Reply.TheVariants as replies
use Rattle.scm_model.specs.declared.calls.Request.{Request}
use Rattle.scm_model.specs.declared.calls.Request.TheVariants as request
use Rattle.scm_model.specs.declared.flat.Flat.{Flat}
use Rattle.scm_model.specs.declared.steps.Answer.{Answer}
use Rattle.scm_model.specs.declared.steps.Answer.TheVariants as answers
use Rattle.scm_model.specs.declared.steps.Kept.TheVariants as appended
use Rattle.scm_model.specs.declared.steps.Step.{Step}
use Rattle.scm_model.specs.declared.steps.Step.TheVariants.{Call, NoMemory, Raised}
use Rattle.scm_model.specs.Refused.{refused}
use Rattle.book_rule.specs.declared.view.Opening.{Opening}
use Rattle.scm_book.specs.declared.answers.CallEnd.{CallEnd}
use Rattle.scm_book.specs.declared.answers.CallEnd.TheVariants as calls
use Rattle.scm_book.specs.declared.answers.StartEnd.{StartEnd}
use Rattle.scm_book.specs.declared.answers.StartEnd.TheVariants as starts
use Rattle.scm_book.specs.declared.fault.MakeFault.{MakeFault}
use Rattle.scm_book.specs.Naming.{whose_after}
use Rattle.scm_book.specs.Passes.{FindsFault, HasPlan, Known, MadeSo, room_behind}

-- a pass's call, as it is asked for
abbrev pub called : Known → Request → Step
called k asked = Call k.caller asked appended.NotAsked

-- a pass that makes the step belongs to the same caller afterwards: no caller joins or goes by it
abbrev pub LeavesWhose : Step → Type 0
LeavesWhose step = (f : Flat) (caller : ℕ) → whose_after f caller step ≡ caller

abbrev pub is_start : Request → Bool
is_start (request.Start handle words) = true
is_start asked = false

-- ## Answers

-- there was no memory for the call's effect, though there was room for it: that stands in its place, and it is refused with 8
pub record WantsMemory (o : Opening) (k : Known) (moment : ℕ) (asked : Request) (reply : Reply) (k' : Known) : Type 0 where
  pub made : MadeSo o k moment (NoMemory k.caller) answers.Done k'
  pub room : room_behind o made.made.before (called k asked) ≡ true
  pub refused : reply ≡ refused asked ERROR_NOT_ENOUGH_MEMORY

-- the call was made and told this, or there was no memory for it
abbrev pub AnsweredSo : Opening → Known → ℕ → Request → Reply → Known → Type 0
AnsweredSo o k moment asked reply k' = MadeSo o k moment (called k asked) (answers.Reply reply) k' ⊎ WantsMemory o k moment asked reply k'

-- the refusal of a call with 8
abbrev pub refusal_of : Step → Reply
refusal_of (Call caller asked append) = refused asked ERROR_NOT_ENOUGH_MEMORY
refusal_of step = replies.Code ERROR_NOT_ENOUGH_MEMORY

-- ## call

abbrev pub Calls : Opening → Known → ℕ → Request → Known → CallEnd → Type 0
Calls o k moment asked k' (calls.Answered reply) = AnsweredSo o k moment asked reply k'
Calls o k moment asked k' (calls.Unmade fault) = FindsFault o k (called k asked) fault k'

-- the answer that lies in its place is a reply, by which the call was answered so
abbrev pub RepliesSo : Opening → Known → ℕ → Request → Answer → Known → Type 0
RepliesSo o k moment asked (answers.Reply reply) k' = AnsweredSo o k moment asked reply k'
RepliesSo o k moment asked told k' = ⊥

-- the same of a call whose reply is put into its place
abbrev pub CallsInto : Opening → Known → ℕ → Request → Known → Result (Unit {0}) MakeFault → Answer → Type 0
CallsInto o k moment asked k' (Ok done) told = RepliesSo o k moment asked told k'
CallsInto o k moment asked k' (Err fault) told = FindsFault o k (called k asked) fault k'

-- ## raise

-- what a pass raises
abbrev pub raised_by : Known → List ℕ → Step
raised_by k subtype = Raised k.caller subtype

-- there was no memory for what it does, though there was room for it: that stands in its place, and it is refused with 8
pub record RaiseWants (o : Opening) (k : Known) (moment : ℕ) (subtype : List ℕ) (reply : Reply) (k' : Known) : Type 0 where
  pub made : MadeSo o k moment (NoMemory k.caller) answers.Done k'
  pub room : room_behind o made.made.before (raised_by k subtype) ≡ true
  pub refused : reply ≡ replies.Code ERROR_NOT_ENOUGH_MEMORY

-- it was made and told this code
pub record RaisedSo (o : Opening) (k : Known) (moment : ℕ) (subtype : List ℕ) (reply : Reply) (k' : Known) : Type 0 where
  pub made : MadeSo o k moment (raised_by k subtype) (answers.Reply reply) k'
  pub code : ℕ
  pub is : reply ≡ replies.Code code

abbrev pub Raises : Opening → Known → ℕ → List ℕ → Known → CallEnd → Type 0
Raises o k moment subtype k' (calls.Answered reply) = RaisedSo o k moment subtype reply k' ⊎ RaiseWants o k moment subtype reply k'
Raises o k moment subtype k' (calls.Unmade fault) = FindsFault o k (raised_by k subtype) fault k'

-- ## begin_start

-- the start waits, and its plan is the caller's
pub record StartWaits (o : Opening) (k : Known) (moment : ℕ) (asked : Request) (plan : ℕ) (k' : Known) : Type 0 where
  pub made : MadeSo o k moment (called k asked) (answers.Begun plan) k'
  pub has : HasPlan o k' plan

abbrev pub StartsAs : Opening → Known → ℕ → Request → Known → StartEnd → Type 0
StartsAs o k moment asked k' (starts.Answered reply) = AnsweredSo o k moment asked reply k'
StartsAs o k moment asked k' (starts.Waiting plan) = StartWaits o k moment asked plan k'
StartsAs o k moment asked k' (starts.Unmade fault) = FindsFault o k (called k asked) fault k'

-- ## What is made of what a call was told

abbrev pub IsReply : Answer → Type 0
IsReply told = (reply : Reply) × (told ≡ answers.Reply reply)

-- a start is answered with a reply, or with the plan under which it waits
abbrev pub Begun : Answer → StartEnd → Type 0
Begun (answers.Reply reply) end = end ≡ starts.Answered reply
Begun (answers.Begun plan) end = end ≡ starts.Waiting plan
Begun told end = ⊥

abbrev pub IsBegun : Answer → Type 0
IsBegun told = (end : StartEnd) × Begun told end

-- what was told, if something was, is so
abbrev pub IfTold : (Answer → Type 0) → Result (Option Answer) MakeFault → Type 0
IfTold P (Ok (Some told)) = P told
IfTold P ended = Unit {0}

abbrev pub CallTold : Result (Option Answer) MakeFault → Reply → CallEnd → Type 0
CallTold (Ok (Some told)) refusal end = (reply : Reply) × (told ≡ answers.Reply reply) × (end ≡ calls.Answered reply)
CallTold (Ok None) refusal end = end ≡ calls.Answered refusal
CallTold (Err fault) refusal end = end ≡ calls.Unmade fault

-- the same where the answer lies in its place: it stays there unless the refusal takes its place
abbrev pub CallToldInto : Result (Option Answer) MakeFault → Reply → Result (Unit {0}) MakeFault → Answer → Answer → Type 0
CallToldInto (Ok (Some told)) refusal end lay lies = (end ≡ Ok tt) × (lies ≡ told)
CallToldInto (Ok None) refusal end lay lies = (end ≡ Ok tt) × (lies ≡ answers.Reply refusal)
CallToldInto (Err fault) refusal end lay lies = (end ≡ Err fault) × (lies ≡ lay)

abbrev pub StartTold : Result (Option Answer) MakeFault → Reply → StartEnd → Type 0
StartTold (Ok (Some told)) refusal end = Begun told end
StartTold (Ok None) refusal end = end ≡ starts.Answered refusal
StartTold (Err fault) refusal end = end ≡ starts.Unmade fault
