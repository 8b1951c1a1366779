-- What calls return, and what a refusal leaves as it is.
use Rattle.std.specs.Prelude.{ℕ, ◌≡◌, ◌≢◌, ◌⊎◌, ◌==◌, ◌+◌, true, false, [], Option, None, Some}
use Rattle.std.specs.List.{list_any}
use Rattle.scm_model.specs.declared.flat.Flat.{Flat}
use Rattle.scm_model.specs.declared.flat.Limits.{Limits}
use Rattle.scm_model.specs.declared.flat.Service.{Service}
use Rattle.scm_model.specs.declared.calls.Reply.{Reply}
use Rattle.scm_model.specs.declared.calls.Reply.TheVariants as reply
use Rattle.scm_model.specs.declared.calls.Request.{Request}
use Rattle.scm_model.specs.declared.calls.Request.TheVariants as request
use Rattle.scm_model.specs.declared.steps.Answer.{Answer}
use Rattle.scm_model.specs.declared.steps.Answer.TheVariants as answer
use Rattle.scm_model.specs.declared.steps.Kept.{Kept}
use Rattle.scm_model.specs.declared.steps.Step.{Step}
use Rattle.scm_model.specs.declared.steps.Step.TheVariants.{Call, EndStart, Raised}
use Rattle.scm_model.specs.Changes.{with_moment}
use Rattle.scm_model.specs.Rows.{held_service}
use Rattle.start_plan.specs.Decided.{code_of}
use Rattle.start_plan.specs.Entered.{with_entered}
use Rattle.start_plan.specs.Hosts.{enters_launched}
use Rattle.start_plan.specs.Settle.{is_undecided, settled}
use Rattle.scm_model.specs.Entries.{Entry}
use Rattle.scm_rules.specs.Raise.{raise_verdict}
use Rattle.scm_rules.specs.Steps.{effect_of}
use Rattle.scm_rules.specs.Verdicts.{told_refused, verdict}

-- ## Codes

-- the code that a reply ends with
abbrev pub reply_code : Reply → ℕ
reply_code (reply.Code code) = code
reply_code (reply.Handle handle code) = code
reply_code (reply.State status code) = code
reply_code (reply.Made tag handle code) = code
reply_code (reply.Tag tag code) = code
reply_code (reply.Shown config needed code) = code
reply_code (reply.LockState held owner seconds needed code) = code
reply_code (reply.Name name size code) = code
reply_code (reply.Listing size bytes needed returned code) = code
reply_code (reply.Page size bytes needed returned resume code) = code
reply_code (reply.Bytes size bytes needed code) = code
reply_code (reply.Notice mask status name code) = code

-- the code that an answer returns to a caller: only a reply has one
abbrev pub code_told : Answer → Option ℕ
code_told (answer.Caller caller) = None
code_told (answer.Reply told) = Some (reply_code told)
code_told (answer.Begun plan) = None
code_told (answer.Launch process) = None
code_told (answer.Control code) = None
code_told (answer.Refused code) = None
code_told answer.Stale = None
code_told answer.Done = None

-- ## Calls

-- the call returns why it is refused, and nothing changes but the moment
pub record IsRefused (before : Flat) (moment caller : ℕ) (asked : Request) (code : ℕ) (told : Answer) (after : Flat) : Type 0 where
  pub coded : code_told told ≡ Some code
  pub reply : told ≡ answer.Reply (told_refused (with_moment before moment) caller asked code)
  pub same : after ≡ with_moment before moment

-- a start waits: its plan has the next number, and is undecided
pub record Waits (before : Flat) (told : Answer) (after : Flat) : Type 0 where
  pub begun : told ≡ answer.Begun before.next.plan
  pub undecided : list_any (is_undecided before.next.plan) after.plans ≡ true

-- a number was used for a plan, and one for its deadline
abbrev pub with_plan_spent : Flat → Flat
with_plan_spent f = record f { next = record f.next { plan = f.next.plan + 1; due = f.next.due + 1 } }

-- the target of a start entered its host, which was launched, and nothing else changes but the moment and the numbers of the plan and its
-- deadline
pub record EntersHost (before : Flat) (moment : ℕ) (target : Service) (after : Flat) : Type 0 where
  pub launched : enters_launched before target.number ≡ true
  pub same : after ≡ with_plan_spent (with_entered (with_moment before moment) target.number [])

abbrev pub TargetEnters : Flat → ℕ → Option Service → Flat → Type 0
TargetEnters before moment None after = ⊥
TargetEnters before moment (Some target) after = EntersHost before moment target after

-- a start returns what its plan is decided to be as it is settled: 0 if its target enters a launched host; with another code nothing
-- changes but the moment and the numbers of the plan and its deadline
pub record IsDecided (l : Limits) (before : Flat) (moment caller handle : ℕ) (step : Step) (told : Answer) (after : Flat) : Type 0 where
  pub code : ℕ
  pub decided : code_of (settled l (effect_of l (with_moment before moment) step).flat).plans before.next.plan ≡ Some code
  pub reply : told ≡ answer.Reply (reply.Code code)
  pub entered : code ≡ 0 → TargetEnters before moment (held_service before caller handle) after
  pub same : (code == 0) ≡ false → after ≡ with_plan_spent (with_moment before moment)

-- a call that isn't refused returns 0, but a start waits or returns what was decided
abbrev pub Passes : Limits → Flat → ℕ → ℕ → Step → Request → Answer → Flat → Type 0
Passes l before moment caller step (request.Start handle words) told after =
    Waits before told after ⊎ IsDecided l before moment caller handle step told after
Passes l before moment caller step asked told after = code_told told ≡ Some 0

-- a call results in its verdict in the state before
pub record ComesTo (l : Limits) (before : Flat) (moment caller : ℕ) (asked : Request) (append : Kept) (told : Answer)
    (after : Flat) : Type 0 where
  pub refused : verdict l before caller asked append ≢ 0 → IsRefused before moment caller asked
      (verdict l before caller asked append) told after
  pub passes : verdict l before caller asked append ≡ 0
      → Passes l before moment caller (Call caller asked append) asked told after

-- ## Steps

-- a start that waited returns what its plan was decided to be
pub record Ends (before : Flat) (plan : ℕ) (told : Answer) : Type 0 where
  pub code : ℕ
  pub decided : code_of before.plans plan ≡ Some code
  pub ended : told ≡ answer.Reply (reply.Code code)

-- a raise returns its verdict in the state before; if it is refused nothing changes but the moment
pub record IsRaised (before : Flat) (moment caller : ℕ) (told : Answer) (after : Flat) : Type 0 where
  pub reply : told ≡ answer.Reply (reply.Code (raise_verdict before caller))
  pub refused : raise_verdict before caller ≢ 0 → after ≡ with_moment before moment

abbrev pub IsToldRightly : Limits → Flat → ℕ → Step → Answer → Flat → Type 0
IsToldRightly l before moment (Call caller asked append) told after = ComesTo l before moment caller asked append told after
IsToldRightly l before moment (EndStart caller plan) told after = Ends before plan told
IsToldRightly l before moment (Raised caller subtype) told after = IsRaised before moment caller told after
IsToldRightly l before moment step told after = code_told told ≡ None

-- each reply tells the verdict or what was decided, in a call, a raise or at the end of a start, and no other step has a reply
abbrev pub LawOfReplies : Limits → Flat → Entry → Answer → Flat → Type 0
LawOfReplies l before e told after = IsToldRightly l before e.0 e.1 told after
