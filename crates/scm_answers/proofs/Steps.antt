-- What each step is told answers its request.
use Rattle.std.proofs.Common.{ℕ, ◌≡◌, ◌==◌, Bool, true, false, cond, IsTrue, List, [], ◌∷◌, Option, None, Some, Result, Ok, Err, refl}
use Rattle.std.specs.Prelude.{All}
use Rattle.scm_model.specs.declared.flat.Flat.{Flat}
use Rattle.scm_model.specs.declared.flat.Limits.{Limits}
use Rattle.scm_model.specs.declared.flat.Order.{Order}
use Rattle.scm_model.specs.declared.flat.Service.{Service}
use Rattle.scm_model.specs.declared.flat.Status.{Status}
use Rattle.scm_model.specs.declared.calls.Reply.{Reply}
use Rattle.scm_model.specs.declared.calls.Reply.TheVariants as reply
use Rattle.scm_model.specs.declared.calls.Request.{Request}
use Rattle.scm_model.specs.declared.calls.Request.TheVariants as request
use Rattle.scm_model.specs.declared.steps.Kept.{Kept}
use Rattle.scm_model.specs.declared.steps.Step.{Step}
use Rattle.scm_model.specs.declared.steps.Step.TheVariants.{Call, EndStart, LaunchTaken, Report, Ended, ControlTaken, Raised}
use Rattle.scm_model.specs.Changes.{with_moment}
use Rattle.scm_model.specs.Outcomes.{CallResult}
use Rattle.scm_model.specs.Ranges.{in_range}
use Rattle.scm_model.specs.Refused.{answered}
use Rattle.start_plan.specs.Decided.{code_of}
use Rattle.start_plan.specs.Settle.{settled}
use Rattle.scm_calls.specs.declared.kinds.ReplyKind.{ReplyKind}
use Rattle.scm_calls.specs.declared.kinds.ReplyKind.TheVariants as kind
use Rattle.scm_calls.specs.Replies.{Fits, kind_of}
use Rattle.status_machine.specs.Moves.{take_report}
use Rattle.scm_rules.specs.Controls.{control_sent, control_taken, next_order}
use Rattle.scm_rules.specs.Launches.{currents, first_wanted, launch_taken, launch_told}
use Rattle.scm_rules.specs.Ends.{end_told, process_ended}
use Rattle.scm_rules.specs.Raise.{raise_verdict}
use Rattle.scm_rules.specs.Reports.{report_answer, report_told, reported, reporting}
use Rattle.scm_rules.specs.Start.{start_done, start_verdict}
use Rattle.scm_rules.specs.Valid.{HasShortName}
use Rattle.scm_rules.specs.Steps.{call_answer, answered_by, finished, may, step_of}
use Rattle.scm_rules.specs.Verdicts.{call_of}
use Rattle.scm_runs.proofs.Along.{Gives}
use Rattle.scm_runs.proofs.Sizes.{all_short}
use Rattle.scm_runs.proofs.Sound.{Sound}
use Rattle.scm_answers.specs.Answering.{HasNoReply, LawOfAnswering, RepliesRightly, RepliesTo}
use Rattle.scm_answers.proofs.Calls.{AllShort, of_call}
use Rattle.std.proofs.lemmas.Bool.{and_parts}

-- ## Starts

-- a code answers a start
abbrev IsCode : Reply → Type 0
IsCode told = ◌≡◌ {A = Option ReplyKind} (Some kind.Code) (Some (kind_of told)) × Fits 0 told

start_code : (code : ℕ) (f : Flat) (done : CallResult) → IsCode done.reply → IsCode (answered code (reply.Code code) f done).reply
start_code code f done h = elim (code == 0) as (λ b. IsCode (cond {A = CallResult} b done
    (record { reply = reply.Code code; flat = f })).reply) [ true ↦ h | false ↦ (refl, tt) ]

by_decision : (handle : ℕ) (words : Option (List (List ℕ))) (plan : ℕ) (code : Option ℕ)
    → RepliesTo (request.Start handle words) (answered_by plan code)
by_decision handle words plan None = tt
by_decision handle words plan (Some code) = (refl, tt)

of_start : (handle : ℕ) (words : Option (List (List ℕ))) (f : Flat) (begins : Bool) (plan : ℕ) (told : Reply) → IsCode told
    → RepliesTo (request.Start handle words) (finished f (call_answer begins plan told)).answer
of_start handle words f true plan told h = by_decision handle words plan (code_of f.plans plan)
of_start handle words f false plan told h = h

-- ## Steps

answers_call : (l : Limits) (f : Flat) (moment caller : ℕ) (asked : Request) (append : Kept) → AllShort f → All HasShortName f.registrations
    → IsTrue (in_range asked) → RepliesTo asked (step_of l f moment (Call caller asked append)).answer
answers_call l f moment caller (request.Start handle words) append short told range =
    let g = with_moment f moment in
    let code = start_verdict g caller handle words in
    let done = call_of l g caller (request.Start handle words) append in
    of_start handle words (settled l done.flat) (code == 0) g.next.plan done.reply
    (start_code code g (start_done g caller handle words) (refl, tt))
answers_call l f moment caller asked append short told range = of_call l (with_moment f moment) caller asked append short told range

-- a report and an end have no reply
report_answered : (g : Flat) (taken : Result Status ℕ) → HasNoReply (finished g (report_answer taken)).answer
report_answered g (Ok status) = tt
report_answered g (Err code) = tt

report_untold : (g : Flat) (found : Option Service) (report : Status) → HasNoReply (finished g (report_told found report)).answer
report_untold g None report = tt
report_untold g (Some row) report = report_answered g (take_report row.status report)

end_untold : (g : Flat) (falling : List Service) → HasNoReply (finished g (end_told falling)).answer
end_untold g [] = tt
end_untold g (row ∷ rows) = tt

-- nor has what is taken in hand
launch_untold : (g : Flat) (found : Option ℕ) → HasNoReply (finished g (launch_told found)).answer
launch_untold g None = tt
launch_untold g (Some process) = tt

control_untold : (g : Flat) (found : Option Order) → HasNoReply (finished g (control_sent found)).answer
control_untold g None = tt
control_untold g (Some code) = tt

answers_step : (l : Limits) (f : Flat) (moment : ℕ) (step : Step) → Sound f → IsTrue (may l f moment step)
    → RepliesRightly step (step_of l f moment step).answer
answers_step l f moment (Call caller asked append) s ok = answers_call l f moment caller asked append (all_short f s) s.registrations.told
    (and_parts _ _ (and_parts _ _ ok).0).1
answers_step l f moment (EndStart caller plan) s ok = λ handle words. (refl, tt)
answers_step l f moment LaunchTaken s ok = launch_untold (settled l (launch_taken (with_moment f moment)).flat) (first_wanted f.wanted)
answers_step l f moment (ControlTaken process) s ok = control_untold (settled l (control_taken (with_moment f moment) process).flat)
    (next_order f process)
answers_step l f moment (Report process service status) s ok = report_untold
    (settled l (reported (with_moment f moment) process service status).flat)
    (reporting f process service) status
answers_step l f moment (Ended process) s ok = end_untold (settled l (process_ended (with_moment f moment) process).flat)
    (currents process f.services)
answers_step l f moment (Raised caller subtype) s ok = (raise_verdict f caller, refl)
answers_step l f moment step s ok = tt

pub gives : (l : Limits) → Gives Sound LawOfAnswering l
gives l f e s ok = answers_step l f e.0 e.1 s ok
