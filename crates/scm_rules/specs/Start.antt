-- RStartServiceW: a plan to start a service after what it needs.
use Rattle.std.specs.Prelude.{ℕ, Bool, true, false, not, ◌||◌, ◌&&◌, ◌==◌, ◌+◌, ◌-◌, ◌^◌, ◌++◌, min, List, [], ◌∷◌, Option, None, Some}
use Rattle.std.specs.Prelude.{is_none, is_some, unwrap_or}
use Rattle.std.specs.List.{list_any}
use Rattle.std.specs.Char.Utf16.{has_unpaired_surrogate}
use Rattle.scm_model.specs.declared.flat.DueKind.TheVariants as dues
use Rattle.scm_model.specs.declared.flat.Flat.{Flat}
use Rattle.scm_model.specs.declared.flat.Need.{Need}
use Rattle.scm_model.specs.declared.flat.Need.TheVariants as needs
use Rattle.scm_model.specs.declared.flat.Plan.{Plan}
use Rattle.scm_model.specs.declared.flat.Service.{Service}
use Rattle.scm_model.specs.declared.calls.Reply.TheVariants as reply
use Rattle.scm_model.specs.Found.{if_found}
use Rattle.scm_model.specs.Rows.{held_service, named, opened}
use Rattle.scm_model.specs.Refused.{first_refusal, Refusals, outcome}
use Rattle.scm_model.specs.Outcomes.{CallResult}
use Rattle.scm_model.specs.declared.codes.TheConstants.{ERROR_ACCESS_DENIED, ERROR_INVALID_HANDLE, ERROR_INVALID_PARAMETER}
use Rattle.scm_model.specs.declared.codes.TheConstants.{ERROR_SERVICE_ALREADY_RUNNING, ERROR_SERVICE_DATABASE_LOCKED}
use Rattle.scm_model.specs.declared.codes.TheConstants.{ERROR_SERVICE_DEPENDENCY_DELETED, ERROR_SERVICE_DISABLED}
use Rattle.scm_model.specs.declared.codes.TheConstants.{ERROR_SERVICE_MARKED_FOR_DELETE, SERVICE_DISABLED, SERVICE_START, SERVICE_STOPPED}
use Rattle.start_plan.specs.Decided.{plan_caller, code_of, is_target, without_plan}
use Rattle.scm_model.specs.Ready.{state_in}
use Rattle.scm_rules.specs.Delete.{is_marked}
use Rattle.scm_rules.specs.Needs.{start_order}
use Rattle.scm_rules.specs.Rights.{lacks}
use Rattle.scm_model.specs.declared.calls.Request.TheVariants as request
use Rattle.scm_rules.specs.Due.{with_due}

-- ## Refusals

-- words that are absent, or of which one is no text
abbrev pub are_bad_words : Option (List (List ℕ)) → Bool
are_bad_words None = true
are_bad_words (Some words) = list_any has_unpaired_surrogate words

abbrev pub is_disabled : Option Service → Bool
is_disabled None = false
is_disabled (Some row) = row.config.start == SERVICE_DISABLED

-- whether a service that is needed by name isn't there or is marked
abbrev pub is_missing : Flat → Need → Bool
is_missing f (needs.Service name) = is_none (named f name) || is_marked (named f name)
is_missing f (needs.Group group) = false

abbrev pub lacks_need : Flat → Option Service → Bool
lacks_need f None = false
lacks_need f (Some row) = list_any (is_missing f) row.config.needs

-- for the handle and the words
abbrev pub starting_refusals : Flat → ℕ → ℕ → Option (List (List ℕ)) → Refusals
starting_refusals f caller handle words =
    (is_none (opened f caller handle), ERROR_INVALID_HANDLE)
    ∷ (are_bad_words words, ERROR_INVALID_PARAMETER)
    ∷ (lacks (opened f caller handle) SERVICE_START, ERROR_ACCESS_DENIED)
    ∷ []

-- whether an undecided plan aims at a service that is there
abbrev pub is_aimed_at : Flat → Option Service → Bool
is_aimed_at f None = false
is_aimed_at f (Some row) = is_target f.plans row.number

-- for how a service stands
abbrev pub service_refusals : Flat → Option Service → Refusals
service_refusals f service =
    (is_marked service, ERROR_SERVICE_MARKED_FOR_DELETE)
    ∷ (is_some f.lock, ERROR_SERVICE_DATABASE_LOCKED)
    ∷ (not (state_in service == SERVICE_STOPPED) || is_aimed_at f service, ERROR_SERVICE_ALREADY_RUNNING)
    ∷ (is_disabled service, ERROR_SERVICE_DISABLED)
    ∷ (lacks_need f service, ERROR_SERVICE_DEPENDENCY_DELETED)
    ∷ []

abbrev pub start_refusals : Flat → ℕ → ℕ → Option (List (List ℕ)) → Refusals
start_refusals f caller handle words = starting_refusals f caller handle words ++ service_refusals f (held_service f caller handle)

abbrev pub start_verdict : Flat → ℕ → ℕ → Option (List (List ℕ)) → ℕ
start_verdict f caller handle words = first_refusal (start_refusals f caller handle words)

-- ## Effect

-- the moment at which a plan that begins now is given up
abbrev pub deadline_at : ℕ → ℕ
deadline_at moment = min (moment + 120000) (2 ^ 64 - 1)

abbrev pub new_plan : Flat → ℕ → ℕ → List ℕ → List (List ℕ) → Plan
new_plan f caller target entries words = record {
  number = f.next.plan;
  caller = caller;
  target = target;
  entries = entries;
  tried = [];
  words = words;
  code = None;
}

-- a plan more, which has the next number, and its deadline
abbrev pub with_plan : Flat → Plan → Flat
with_plan f plan =
    with_due (record f { plans = f.plans ++ plan ∷ []; next = record f.next { plan = f.next.plan + 1 } }) (deadline_at f.moment)
    (dues.Deadline f.next.plan)

-- a plan to start the service begins, which goes by the start order
abbrev pub with_start : ℕ → List (List ℕ) → Service → Flat → Flat
with_start caller words row f = with_plan f (new_plan f caller row.number (start_order f row.number) words)

-- it is not answered until it is decided
abbrev pub start_done : Flat → ℕ → ℕ → Option (List (List ℕ)) → CallResult
start_done f caller handle words = record {
  reply = reply.Code 0;
  flat =
      if_found (with_start caller (unwrap_or words [])) (held_service f caller handle) f;
}

abbrev pub start_outcome : Flat → ℕ → ℕ → Option (List (List ℕ)) → CallResult
start_outcome f caller handle words = outcome (start_verdict f caller handle words) (request.Start handle words) f
    (start_done f caller handle words)

-- ## What ends a start

abbrev pub is_caller_of : Option ℕ → ℕ → Bool
is_caller_of None caller = false
is_caller_of (Some of) caller = of == caller

-- whether a plan is the caller's and decided
abbrev pub can_end : Flat → ℕ → ℕ → Bool
can_end f caller plan = is_caller_of (plan_caller f.plans plan) caller && is_some (code_of f.plans plan)

-- the plan leaves
abbrev pub ended : Flat → ℕ → Flat
ended f plan = record f { plans = without_plan f.plans plan }
