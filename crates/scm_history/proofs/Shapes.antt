-- The shape of each answer.
use Rattle.std.proofs.Common.{ℕ, ◌≡◌, ◌⊎◌, ◌==◌, ◌||◌, Bool, true, false, cond, List, Option, None, Some, Ok, Err, refl, inl, inr, IsTrue}
use Rattle.std.proofs.Common.{[], ◌∷◌}
use Rattle.std.specs.Prelude.{is_some, unwrap_or, option_and_then}
use Rattle.scm_model.specs.declared.codes.TheConstants.{ERROR_INVALID_DATA}
use Rattle.scm_model.specs.declared.flat.Flat.{Flat}
use Rattle.scm_model.specs.declared.flat.Limits.{Limits}
use Rattle.scm_model.specs.declared.flat.Order.{Order}
use Rattle.scm_model.specs.declared.flat.Service.{Service}
use Rattle.scm_model.specs.declared.flat.Status.{Status}
use Rattle.scm_model.specs.declared.calls.Reply.TheVariants as reply
use Rattle.scm_model.specs.declared.calls.Request.{Request}
use Rattle.scm_model.specs.declared.calls.Request.TheVariants as request
use Rattle.scm_model.specs.declared.steps.Answer.{Answer}
use Rattle.scm_model.specs.declared.steps.Answer.TheVariants as answer
use Rattle.scm_model.specs.declared.steps.Kept.{Kept}
use Rattle.scm_model.specs.declared.steps.Step.{Step}
use Rattle.scm_model.specs.declared.steps.Step.TheVariants.{Call, EndStart, Report, Ended, ControlTaken, LaunchTaken, Raised}
use Rattle.scm_model.specs.Changes.{with_moment}
use Rattle.start_plan.specs.Decided.{code_of}
use Rattle.start_plan.specs.Settle.{settled}
use Rattle.status_machine.specs.Moves.{takes}
use Rattle.scm_rules.specs.Controls.{control_sent, next_order}
use Rattle.scm_rules.specs.Ends.{end_told}
use Rattle.scm_rules.specs.Reports.{report_answer, report_told, reporting}
use Rattle.scm_rules.specs.Start.{start_done, start_verdict}
use Rattle.scm_rules.specs.Steps.{answered_by, at_moment, effect_of, finished, step_of, may}
use Rattle.scm_rules.specs.Verdicts.{call_of, done_of, told_refused, verdict}
use Rattle.scm_runs.proofs.Along.{Gives}
use Rattle.scm_runs.proofs.Calls.{by_verdict}
use Rattle.scm_runs.proofs.Sound.{Sound}
use Rattle.scm_history.specs.Shapes.{HasShape, IsAnswered, IsReplied, LawOfShapes, is_reply_to, IsControl, is_notice, is_page}
use Rattle.scm_history.proofs.Refusals.{start_refused}
use Rattle.scm_runs.proofs.Founds.{launch_is}
use Rattle.scm_runs.proofs.Processes.{first_of}
use Rattle.scm_rules.specs.Launches.{currents, first_wanted, is_by}
use Rattle.std.specs.List.{list_any}
use Rattle.std.proofs.lemmas.Bool.{and_parts}
use Rattle.scm_rules.specs.Notify.{notice_in, notify_of}
use Rattle.scm_rules.specs.EnumServices.{page_of, services_asked}
use Rattle.scm_model.specs.declared.flat.Registration.{Registration}
use Rattle.scm_model.specs.Notices.{registration_of}
use Rattle.scm_model.specs.Refused.{zero_process_status}
use Rattle.scm_rules.specs.Raise.{raise_verdict}

-- ## Replies

-- what a registration was told, or that it was told nothing
of_notice : (found : Option Registration) → is_notice (notice_in found) ≡ true
of_notice None = refl
of_notice (Some row) = elim (row.fired == 0) as (λ b. is_notice (cond b (reply.Notice 0 zero_process_status None 0)
    (reply.Notice row.fired row.status (Some row.name) 0)) ≡ true) [ true ↦ refl | false ↦ refl ]

of_done : (l : Limits) (f : Flat) (caller : ℕ) (asked : Request) → is_reply_to asked (done_of l f caller asked).reply ≡ true
of_done l f caller (request.GetNotify handle) = of_notice (option_and_then (registration_of f) (notify_of f caller handle))
of_done l f caller asked = refl

of_refused : (f : Flat) (caller : ℕ) (asked : Request) (code : ℕ) → is_reply_to asked (told_refused f caller asked code) ≡ true
of_refused f caller (request.EnumServices handle kinds states size resume) code =
    let rows = services_asked f kinds states resume in
    elim (code == 234) as (λ b. is_page (cond b (page_of size resume rows) (reply.Page size [] 0 0 resume code)) ≡ true) [
      | true ↦ refl
      | false ↦ refl
    ]
of_refused f caller asked code = refl

pub of_reply : (l : Limits) (f : Flat) (caller : ℕ) (asked : Request) (append : Kept)
    → is_reply_to asked (call_of l f caller asked append).reply ≡ true
of_reply l f caller asked append =
    by_verdict (λ r. is_reply_to asked r.reply ≡ true) (verdict l f caller asked append)
    (told_refused f caller asked (verdict l f caller asked append)) f (done_of l f caller asked)
    (λ e. of_done l f caller asked) (λ e. of_refused f caller asked (verdict l f caller asked append))

-- ## Calls

-- a start that isn't refused waits, or is told its code
of_begun : (number handle : ℕ) (words : Option (List (List ℕ))) (code : Option ℕ)
    → IsReplied (request.Start handle words) (answered_by number code) ⊎ (answered_by number code ≡ answer.Begun number)
of_begun number handle words None = inr refl
of_begun number handle words (Some code) = inl (record { said = reply.Code code; is = refl; form = refl })

of_call : (l : Limits) (f : Flat) (moment caller : ℕ) (asked : Request) (append : Kept)
    → IsAnswered f asked (step_of l f moment (Call caller asked append)).answer
of_call l f moment caller (request.Start handle words) append =
    let g = with_moment f moment in
    let done = start_done g caller handle words in
    let refusal = start_refused g caller handle words in
    elim (start_verdict g caller handle words == 0) as (λ b. IsAnswered f (request.Start handle words)
    (finished (settled l (cond b done refusal).flat) (cond b (answer.Begun f.next.plan)
    (answer.Reply (cond b done refusal).reply))).answer) [
      | true ↦ of_begun f.next.plan handle words (code_of (settled l done.flat).plans f.next.plan)
      | false ↦ inl (record { said = refusal.reply; is = refl; form = refl })
    ]
of_call l f moment caller asked append = record {
  said = (call_of l (with_moment f moment) caller asked append).reply;
  is = refl;
  form = of_reply l (with_moment f moment) caller asked append;
}

-- ## Reports and ends

-- what is told of a process by whether a service has it
record IsHeard (found : Option Service) (told : Answer) : Type 0 where
  stale : is_some found ≡ false → told ≡ answer.Stale
  heard : is_some found ≡ true → (told ≡ answer.Done) ⊎ (told ≡ answer.Refused ERROR_INVALID_DATA)

of_taken : (g : Flat) (row : Service) (report : Status) → ((finished g (report_told (Some row) report)).answer ≡ answer.Done)
    ⊎ ((finished g (report_told (Some row) report)).answer ≡ answer.Refused ERROR_INVALID_DATA)
of_taken g row report =
    elim (takes row.status report) as (λ b. ((finished g (report_answer (cond b (Ok report) (Err ERROR_INVALID_DATA)))).answer ≡
    answer.Done)
    ⊎ ((finished g (report_answer (cond b (Ok report) (Err ERROR_INVALID_DATA)))).answer ≡ answer.Refused ERROR_INVALID_DATA))
    [ true ↦ inl refl | false ↦ inr refl ]

of_report : (g : Flat) (found : Option Service) (report : Status) → IsHeard found (finished g (report_told found report)).answer
of_report g None report = record { stale = λ e. refl; heard = λ e. absurd cc }
of_report g (Some row) report = record { stale = λ e. absurd cc; heard = λ e. of_taken g row report }

record IsOver (falls : Bool) (told : Answer) : Type 0 where
  stale : falls ≡ false → told ≡ answer.Stale
  done : falls ≡ true → told ≡ answer.Done

of_end : (g : Flat) (process : ℕ) (rows : List Service)
    → IsOver (list_any (is_by process) rows) (finished g (end_told (currents process rows))).answer
of_end g process [] = record { stale = λ e. refl; done = λ e. absurd cc }
of_end g process (row ∷ rows) =
    elim (is_by process row) as (λ b. IsOver (b || list_any (is_by process) rows)
    (finished g (end_told (cond b (row ∷ currents process rows) (currents process rows)))).answer) [
      | true ↦ record { stale = λ e. absurd cc; done = λ e. refl }
      | false ↦ of_end g process rows
    ]

of_control : (g : Flat) (next : Option Order) → is_some next ≡ true → IsControl (finished g (control_sent next)).answer
of_control g None some = absurd cc
of_control g (Some order) some = record { order = order; is = refl }

of_step : (l : Limits) (f : Flat) (moment : ℕ) (step : Step) → IsTrue (may l f moment step)
    → HasShape f step (step_of l f moment step).answer
of_step l f moment (Call caller asked append) ok = of_call l f moment caller asked append
of_step l f moment (EndStart caller plan) ok = record { code = unwrap_or (code_of f.plans plan) 0; is = refl }
of_step l f moment (Report process service status) ok =
    let told = of_report (settled l (effect_of l (at_moment f moment (Report process service status)) (Report process service status)).flat)
    (reporting f process service) status in
    record { stale = told.stale; heard = told.heard }
of_step l f moment (Ended process) ok =
    let told = of_end (settled l (effect_of l (at_moment f moment (Ended process)) (Ended process)).flat) process f.services in
    record { stale = told.stale; done = told.done }
of_step l f moment LaunchTaken ok =
    let first = first_of f.wanted (and_parts _ _ ok).0 in
    record {
      process = first.number;
      first = first.is;
      is = launch_is (settled l
          (effect_of l (at_moment f moment LaunchTaken) LaunchTaken).flat) (first_wanted f.wanted) first.number first.is;
    }
of_step l f moment (ControlTaken process) ok = of_control (settled l (effect_of l (at_moment f moment (ControlTaken process))
    (ControlTaken process)).flat) (next_order f process) (and_parts _ _ ok).0
of_step l f moment (Raised caller subtype) ok = record { code = raise_verdict (with_moment f moment) caller; is = refl }
of_step l f moment step ok = refl

pub gives : (l : Limits) → Gives Sound LawOfShapes l
gives l f e s ok = of_step l f e.0 e.1 ok
