-- The history of a caller that is alone: what serves its requests, and what that tells it.
use Rattle.std.specs.Prelude.{ℕ, Bool, ◌≡◌, ◌==◌, ◌++◌, true, List, [], ◌∷◌, length, Option, None, Some, if◌then◌else◌}
use Rattle.std.specs.List.{cons_option}
use Rattle.scm_model.specs.declared.flat.Flat.{Flat}
use Rattle.scm_model.specs.declared.flat.Limits.{Limits}
use Rattle.scm_model.specs.declared.flat.Principal.{Principal}
use Rattle.scm_model.specs.declared.calls.Reply.{Reply}
use Rattle.scm_model.specs.declared.codes.TheConstants.{ERROR_SERVICE_NO_THREAD}
use Rattle.scm_model.specs.declared.steps.Step.{Step}
use Rattle.scm_model.specs.declared.steps.Step.TheVariants.{Call, EndStart, Gone, Joined, LaunchFailed, LaunchTaken, NoMemory, Raised}
use Rattle.scm_model.specs.declared.steps.Answer.{Answer}
use Rattle.scm_model.specs.declared.steps.Answer.TheVariants as answers
use Rattle.scm_model.specs.Entries.{Entry, text_in}
use Rattle.start_plan.specs.Decided.{code_of}
use Rattle.scm_rules.specs.Histories.{state}
use Rattle.scm_rules.specs.Launches.{first_wanted}
use Rattle.scm_rules.specs.Room.{has_room}
use Rattle.scm_rules.specs.Steps.{step_of}
use Rattle.scm_rules.specs.Runs.{run_state}
use Rattle.conn_desk.specs.declared.asked.DecodedRequest.{DecodedRequest}
use Rattle.conn_desk.specs.declared.asked.DecodedRequest.TheVariants as asks
use Rattle.conn_worker.specs.Serving.{step_for}

-- ## Replies

-- what an answer tells the caller of a request: nothing yet where a start waits
abbrev pub reply_in : Answer → Option (Option Reply)
reply_in (answers.Reply reply) = Some (Some reply)
reply_in answer = None

-- what a step tells a caller: a reply, or that there was no memory for one
abbrev pub heard_by : ℕ → Step → Answer → Option (Option Reply)
heard_by caller (Call of request append) answer = if of == caller then reply_in answer else None
heard_by caller (EndStart of plan) answer = if of == caller then reply_in answer else None
heard_by caller (Raised of subtype) answer = if of == caller then reply_in answer else None
heard_by caller (NoMemory of) answer = if of == caller then Some None else None
heard_by caller step answer = None

-- what a history from f on tells a caller, in order
abbrev pub replies : Limits → Flat → ℕ → List Entry → List (Option Reply)
replies l f caller [] = []
replies l f caller (e ∷ es) =
    cons_option (heard_by caller e.1 (step_of l f e.0 e.1).answer) (replies l (step_of l f e.0 e.1).flat caller es)

-- ## Requests

-- the step is what became of a caller's request: its call or what it raised, or that there was no memory for it
abbrev pub IsAskedAs : ℕ → DecodedRequest → Step → Type 0
IsAskedAs caller (asks.Call request) (Call of asked append) = (of ≡ caller) × (asked ≡ request)
IsAskedAs caller (asks.Raise subtype) (Raised of raised) = (of ≡ caller) × (raised ≡ subtype)
IsAskedAs caller request (NoMemory of) = of ≡ caller
IsAskedAs caller request step = ⊥

-- the launch that is wanted first fails, since no process is run
abbrev pub FailsFirst : Flat → Step → Type 0
FailsFirst f step = (process : ℕ) × (first_wanted f.wanted ≡ Some process) × (step ≡ LaunchFailed process ERROR_SERVICE_NO_THREAD)

-- A start waits: while its plan is undecided the launch that is wanted first is taken and fails at the same moment. Then the start ends.
abbrev pub PipeWaits : Limits → Flat → ℕ → ℕ → List Entry → Type 0
PipeWaits l f caller plan [] = ⊥
PipeWaits l f caller plan (e ∷ []) = e.1 ≡ EndStart caller plan
PipeWaits l f caller plan (e ∷ d ∷ es) =
    (code_of f.plans plan ≡ None) × (e.1 ≡ LaunchTaken) × FailsFirst f d.1 × (d.0 ≡ e.0)
    × PipeWaits l (run_state l f (e ∷ d ∷ [])) caller plan es

-- what follows a call, by its answer: if a start was begun it waits, else nothing follows
abbrev pub Follows : Limits → Flat → ℕ → Answer → List Entry → Type 0
Follows l f caller (answers.Begun plan) es = PipeWaits l f caller plan es
Follows l f caller answer es = es ≡ []

-- the entries are what became of a caller's request
abbrev pub IsPipeServed : Limits → Flat → ℕ → DecodedRequest → List Entry → Type 0
IsPipeServed l f caller request [] = ⊥
IsPipeServed l f caller request (e ∷ es) =
    IsAskedAs caller request e.1 × Follows l (step_of l f e.0 e.1).flat caller (step_of l f e.0 e.1).answer es

-- whether the limits have room for a caller's request after a history
abbrev pub has_room_after : Limits → Flat → (before : List Entry) → ℕ → DecodedRequest → Bool
has_room_after l f before caller request = has_room l (state l f before) (length before) (text_in before) (step_for caller request)

-- The entries are what became of a caller's requests after a history, one after another: each found room in the state that it met there.
abbrev pub AreServed : Limits → Flat → (before : List Entry) → ℕ → List DecodedRequest → List Entry → Type 0
AreServed l f before caller [] es = es ≡ []
AreServed l f before caller (request ∷ requests) es =
    (served : List Entry) × (rest : List Entry) × (es ≡ served ++ rest) × (has_room_after l f before caller request ≡ true)
    × IsPipeServed l (state l f before) caller request served × AreServed l f (before ++ served) caller requests rest

-- ## The whole history

-- the one caller of a pipe is the first that joins
abbrev pub the_caller : ℕ
the_caller = 1

-- the caller joins, and what serves these requests comes
pub record IsPipeRun (principal : Principal) (l : Limits) (f : Flat) (requests : List DecodedRequest) (history : List Entry) : Type 0 where
  pub joined : ℕ
  pub calls : List Entry
  pub order : history ≡ (joined, Joined principal) ∷ calls
  pub served : AreServed l f ((joined, Joined principal) ∷ []) the_caller requests calls

-- then it goes; nothing else stands in the history
pub record IsPipeHistory (principal : Principal) (l : Limits) (f : Flat) (requests : List DecodedRequest)
    (run history : List Entry) : Type 0 where
  pub runs : IsPipeRun principal l f requests run
  pub gone : ℕ
  pub order : history ≡ run ++ (gone, Gone the_caller) ∷ []
