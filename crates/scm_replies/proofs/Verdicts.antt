-- Verdicts don't read the moment, and replies tell them.
use Rattle.std.proofs.Common.{ℕ, ◌≡◌, ◌==◌, false, refl, cond, List, [], Option, None, Some, eqb-true, sym, true}
use Rattle.scm_model.specs.declared.calls.Reply.{Reply}
use Rattle.scm_model.specs.declared.calls.Request.{Request}
use Rattle.scm_model.specs.declared.calls.Request.TheVariants as request
use Rattle.scm_model.specs.declared.flat.Flat.{Flat}
use Rattle.scm_model.specs.declared.flat.Limits.{Limits}
use Rattle.scm_model.specs.declared.steps.Answer.{Answer}
use Rattle.scm_model.specs.declared.steps.Answer.TheVariants as answer
use Rattle.scm_model.specs.declared.steps.Kept.{Kept}
use Rattle.scm_model.specs.Changes.{with_moment}
use Rattle.scm_model.specs.Refused.{answered, zero_process_status}
use Rattle.scm_model.specs.Outcomes.{CallResult, StepResult}
use Rattle.scm_rules.specs.Steps.{call_answer, tells_plan}
use Rattle.scm_rules.specs.Verdicts.{done_of, told_refused, verdict}
use Rattle.scm_replies.specs.Replies.{reply_code}
use Rattle.scm_rules.specs.EnumServices.{page_of, services_asked}
use Rattle.scm_rules.specs.Notify.{notice_in, notify_of}
use Rattle.scm_model.specs.Notices.{registration_of}
use Rattle.scm_model.specs.declared.flat.Registration.{Registration}
use Rattle.scm_model.specs.declared.calls.Reply.TheVariants as reply
use Rattle.scm_model.specs.declared.flat.Service.{Service}
use Rattle.std.specs.Prelude.{option_and_then}

-- a verdict is the same at every moment
pub verdict_moved : (l : Limits) (f : Flat) (moment caller : ℕ) (asked : Request) (append : Kept)
    → verdict l (with_moment f moment) caller asked append ≡ verdict l f caller asked append
verdict_moved l f moment caller asked append = refl

-- a page that isn't whole ends with 234
page_code : (size code : ℕ) (resume : Option ℕ) (rows : List Service) →
    reply_code (cond (code == 234) (page_of size resume rows) (reply.Page size [] 0 0 resume code)) ≡ code
page_code size code resume rows =
    elim (code == 234) as (λ b. (code == 234) ≡ b → reply_code (cond b (page_of size resume rows) (reply.Page size [] 0 0 resume code)) ≡
    code) [ true ↦ λ e. sym (eqb-true code 234 e) | false ↦ λ e. refl ] refl

-- what a refused call is told ends with its code
pub refused_code : (f : Flat) (caller : ℕ) (asked : Request) (code : ℕ) → reply_code (told_refused f caller asked code) ≡ code
refused_code f caller (request.EnumServices handle kinds states size resume) code =
    page_code size code resume (services_asked f kinds states resume)
refused_code f caller asked code = refl

notice_code : (found : Option Registration) → reply_code (notice_in found) ≡ 0
notice_code None = refl
notice_code (Some row) = elim (row.fired == 0) as (λ b. reply_code (cond b (reply.Notice 0 zero_process_status None 0)
    (reply.Notice row.fired row.status (Some row.name) 0)) ≡ 0) [ true ↦ refl | false ↦ refl ]

-- what is told of a call's effect ends with 0
pub done_code : (l : Limits) (f : Flat) (caller : ℕ) (asked : Request) → reply_code (done_of l f caller asked).reply ≡ 0
done_code l f caller (request.GetNotify handle) = notice_code (option_and_then (registration_of f) (notify_of f caller handle))
done_code l f caller asked = refl

-- no plan is told of a call that is refused
no_plan : (asked : Request) (code : ℕ) → (code == 0) ≡ false → tells_plan asked code ≡ false
no_plan (request.Start handle words) code some = some
no_plan asked code some = refl

-- an answer, and the state that is left
abbrev pub leaving : Answer → Flat → StepResult
leaving told f = record { answer = told; flat = f }

-- the effect of a call that is refused
pub refused_effect : (asked : Request) (code plan : ℕ) (told : Reply) (f : Flat) (done : CallResult) → (code == 0) ≡ false
    → leaving (call_answer (tells_plan asked code) plan (answered code told f done).reply) (answered code told f done).flat ≡ leaving
    (answer.Reply told) f
refused_effect asked code plan told f done some = rw (no_plan asked code some, some) refl

-- the effect of a call with verdict 0 that is no start
pub passed_effect : (asked : Request) (code plan : ℕ) (told : Reply) (f : Flat) (done : CallResult) → code ≡ 0
    → tells_plan asked 0 ≡ false
    → leaving (call_answer (tells_plan asked code) plan (answered code told f done).reply) (answered code told f done).flat ≡ leaving
    (answer.Reply done.reply) done.flat
passed_effect asked code plan told f done none plain = rw (none, plain) refl

-- the effect of a start with verdict 0
pub begun_effect : (code plan : ℕ) (told : Reply) (f : Flat) (done : CallResult) → code ≡ 0
    → leaving (call_answer (code == 0) plan (answered code told f done).reply) (answered code told f done).flat ≡ leaving
    (answer.Begun plan) done.flat
begun_effect code plan told f done none = rw none refl
