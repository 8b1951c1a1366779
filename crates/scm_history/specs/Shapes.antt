-- The shape of each answer.
use Rattle.std.specs.Prelude.{ℕ, Bool, ◌≡◌, ◌⊎◌, true, false, Some, is_some}
use Rattle.std.specs.List.{list_any}
use Rattle.scm_model.specs.declared.codes.TheConstants.{ERROR_INVALID_DATA}
use Rattle.scm_model.specs.declared.flat.Flat.{Flat}
use Rattle.scm_model.specs.declared.flat.Order.{Order}
use Rattle.scm_model.specs.declared.calls.Reply.{Reply}
use Rattle.scm_model.specs.declared.calls.Reply.TheVariants as reply
use Rattle.scm_model.specs.declared.calls.Request.{Request}
use Rattle.scm_model.specs.declared.calls.Request.TheVariants as request
use Rattle.scm_model.specs.declared.steps.Answer.{Answer}
use Rattle.scm_model.specs.declared.steps.Answer.TheVariants as answer
use Rattle.scm_model.specs.declared.steps.Step.{Step}
use Rattle.scm_model.specs.declared.steps.Step.TheVariants.{Joined, Call, EndStart, LaunchTaken, Report, Ended, ControlTaken, Raised}
use Rattle.scm_model.specs.Entries.{Entry}
use Rattle.scm_rules.specs.Launches.{first_wanted, is_by}
use Rattle.scm_rules.specs.Reports.{reporting}

-- ## Replies

abbrev pub is_code : Reply → Bool
is_code (reply.Code code) = true
is_code told = false

abbrev pub is_handle_reply : Reply → Bool
is_handle_reply (reply.Handle handle code) = true
is_handle_reply told = false

abbrev pub is_state : Reply → Bool
is_state (reply.State status code) = true
is_state told = false

abbrev pub is_made : Reply → Bool
is_made (reply.Made tag handle code) = true
is_made told = false

abbrev pub is_tag : Reply → Bool
is_tag (reply.Tag tag code) = true
is_tag told = false

abbrev pub is_config_reply : Reply → Bool
is_config_reply (reply.Shown config needed code) = true
is_config_reply told = false

abbrev pub is_lock_state : Reply → Bool
is_lock_state (reply.LockState held owner seconds needed code) = true
is_lock_state told = false

abbrev pub is_name : Reply → Bool
is_name (reply.Name name size code) = true
is_name told = false

abbrev pub is_listing : Reply → Bool
is_listing (reply.Listing size bytes needed returned code) = true
is_listing told = false

abbrev pub is_page : Reply → Bool
is_page (reply.Page size bytes needed returned resume code) = true
is_page told = false

abbrev pub are_bytes : Reply → Bool
are_bytes (reply.Bytes size bytes needed code) = true
are_bytes told = false

abbrev pub is_notice : Reply → Bool
is_notice (reply.Notice mask status name code) = true
is_notice told = false

-- whether a reply has the form of those to a request
abbrev pub is_reply_to : Request → Reply → Bool
is_reply_to (request.Close handle) told = is_handle_reply told
is_reply_to (request.Control handle control) told = is_state told
is_reply_to (request.Delete handle) told = is_code told
is_reply_to (request.Lock handle) told = is_handle_reply told
is_reply_to (request.QuerySecurity handle parts size) told = are_bytes told
is_reply_to (request.SetSecurity handle parts bytes) told = is_code told
is_reply_to (request.QueryStatus handle) told = is_state told
is_reply_to (request.SetStatus handle status) told = is_code told
is_reply_to (request.Unlock handle) told = is_handle_reply told
is_reply_to (request.Change change) told = is_tag told
is_reply_to (request.Create new) told = is_made told
is_reply_to (request.OpenManager database access) told = is_handle_reply told
is_reply_to (request.OpenService handle name access) told = is_handle_reply told
is_reply_to (request.QueryConfig handle size) told = is_config_reply told
is_reply_to (request.QueryLock handle size) told = is_lock_state told
is_reply_to (request.Start handle words) told = is_code told
is_reply_to (request.DisplayName handle name size) told = is_name told
is_reply_to (request.KeyName handle name size) told = is_name told
is_reply_to (request.EnumDependents handle states size) told = is_listing told
is_reply_to (request.EnumServices handle kinds states size resume) told = is_page told
is_reply_to (request.QueryStatusEx handle level size) told = are_bytes told
is_reply_to (request.Change2 handle level) told = is_code told
is_reply_to (request.QueryConfig2 handle level size) told = are_bytes told
is_reply_to (request.Notify handle mask) told = is_handle_reply told
is_reply_to (request.GetNotify handle) told = is_notice told
is_reply_to (request.CloseNotify handle) told = is_handle_reply told

-- ## Answers

-- a reply of the request's form
pub record IsReplied (asked : Request) (told : Answer) : Type 0 where
  pub said : Reply
  pub is : told ≡ answer.Reply said
  pub form : is_reply_to asked said ≡ true

-- a start may be told its plan in place of a reply
abbrev pub IsAnswered : Flat → Request → Answer → Type 0
IsAnswered before (request.Start handle words) told = IsReplied (request.Start handle words) told ⊎ (told ≡ answer.Begun before.next.plan)
IsAnswered before asked told = IsReplied asked told

-- whether a service has a process as its current one
abbrev pub has_current : Flat → ℕ → Bool
has_current f process = list_any (is_by process) f.services

-- stale exactly where no service has the process, and else done
pub record IsStaleOrDone (before : Flat) (process : ℕ) (told : Answer) : Type 0 where
  pub stale : has_current before process ≡ false → told ≡ answer.Stale
  pub done : has_current before process ≡ true → told ≡ answer.Done

-- stale exactly where a report names no service whose current process it is, and else taken or refused
pub record IsStaleOrHeard (before : Flat) (process service : ℕ) (told : Answer) : Type 0 where
  pub stale : is_some (reporting before process service) ≡ false → told ≡ answer.Stale
  pub heard : is_some (reporting before process service) ≡ true → (told ≡ answer.Done) ⊎ (told ≡ answer.Refused ERROR_INVALID_DATA)

-- a code: of a start that waited, or of a raise
pub record IsEnded (told : Answer) : Type 0 where
  pub code : ℕ
  pub is : told ≡ answer.Reply (reply.Code code)

-- an order: a control that waited, or a service that is to start
pub record IsControl (told : Answer) : Type 0 where
  pub order : Order
  pub is : told ≡ answer.Control order

-- the process of the launch that was wanted first
pub record IsFirstLaunch (before : Flat) (told : Answer) : Type 0 where
  pub process : ℕ
  pub first : first_wanted before.wanted ≡ Some process
  pub is : told ≡ answer.Launch process

abbrev pub HasShape : Flat → Step → Answer → Type 0
HasShape before (Joined principal) told = told ≡ answer.Caller before.next.caller
HasShape before (Call caller asked append) told = IsAnswered before asked told
HasShape before (EndStart caller plan) told = IsEnded told
HasShape before LaunchTaken told = IsFirstLaunch before told
HasShape before (Report process service status) told = IsStaleOrHeard before process service told
HasShape before (Ended process) told = IsStaleOrDone before process told
HasShape before (ControlTaken process) told = IsControl told
HasShape before (Raised caller subtype) told = IsEnded told
HasShape before step told = told ≡ answer.Done

abbrev pub LawOfShapes : Flat → Entry → Answer → Flat → Type 0
LawOfShapes before e told after = HasShape before e.1 told
