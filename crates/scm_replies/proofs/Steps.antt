-- What each step is told.
use Rattle.std.proofs.Common.{ℕ, ◌≡◌, ◌≢◌, ◌∙◌, Bool, List, [], ◌∷◌, cond, ap, ne_eqb, true, Option, None, Some, Result, Ok, Err, IsTrue}
use Rattle.std.proofs.Common.{refl}
use Rattle.std.specs.Prelude.{is_some, unwrap_or}
use Rattle.scm_model.specs.declared.calls.Reply.TheVariants as reply
use Rattle.scm_model.specs.declared.calls.Request.{Request}
use Rattle.scm_model.specs.declared.flat.Flat.{Flat}
use Rattle.scm_model.specs.declared.flat.Limits.{Limits}
use Rattle.scm_model.specs.declared.flat.Order.{Order}
use Rattle.scm_model.specs.declared.flat.Service.{Service}
use Rattle.scm_model.specs.declared.flat.Status.{Status}
use Rattle.scm_model.specs.declared.steps.Answer.TheVariants as answer
use Rattle.scm_model.specs.declared.steps.Kept.{Kept}
use Rattle.scm_model.specs.declared.steps.Step.TheVariants.{Call, EndStart, Report, Ended, LaunchTaken, ControlTaken, Raised}
use Rattle.scm_model.specs.Rows.{is_caller}
use Rattle.scm_model.specs.Changes.{with_moment}
use Rattle.start_plan.specs.Decided.{code_of}
use Rattle.start_plan.specs.Settle.{settled}
use Rattle.status_machine.specs.Moves.{take_report}
use Rattle.scm_rules.specs.Reports.{report_answer, report_told, reported, reporting}
use Rattle.scm_rules.specs.Ends.{end_told, process_ended}
use Rattle.scm_model.specs.Entries.{Entry}
use Rattle.scm_rules.specs.Steps.{finished, may, step_of}
use Rattle.scm_rules.specs.Valid.{IsValid}
use Rattle.scm_runs.proofs.Along.{Gives}
use Rattle.scm_runs.proofs.Clear.{Clear, is_valid_clear}
use Rattle.scm_replies.specs.Replies.{ComesTo, Ends, LawOfReplies, code_told}
use Rattle.scm_replies.proofs.Passed.{passes}
use Rattle.scm_replies.proofs.Refused.{is_refused, stays_told}
use Rattle.scm_rules.specs.Raise.{all_triggered, raise_verdict}
use Rattle.scm_model.specs.Outcomes.{StepResult}
use Rattle.scm_model.specs.Purge.{purged}
use Rattle.std.proofs.lemmas.Bool.{and_parts}
use Rattle.scm_rules.specs.Launches.{currents, first_wanted, launch_taken, launch_told}
use Rattle.scm_rules.specs.Controls.{control_sent, control_taken, next_order}

of_call : (l : Limits) (f : Flat) (moment caller : ℕ) (asked : Request) (append : Kept) → IsValid l f → is_caller f caller ≡ true
    → ComesTo l f moment caller asked append (step_of l f moment (Call caller asked append)).answer
    (step_of l f moment (Call caller asked append)).flat
of_call l f moment caller asked append valid there = record {
  refused = is_refused l f moment caller asked append valid.settled valid.purged;
  passes = passes l f moment caller asked append valid there;
}

-- ## Steps

-- a start that ends is decided
decided : (f : Flat) (plan : ℕ) (code : Option ℕ) → code_of f.plans plan ≡ code → is_some code ≡ true
    → Ends f plan (answer.Reply (reply.Code (unwrap_or code 0)))
decided f plan None e some = absurd (cc)
decided f plan (Some code) e some = record { code = code; decided = e; ended = refl }

-- a report and an end have no reply
report_answered : (g : Flat) (taken : Result Status ℕ) → code_told (finished g (report_answer taken)).answer ≡ None
report_answered g (Ok status) = refl
report_answered g (Err code) = refl

report_untold : (g : Flat) (row : Option Service) (report : Status) → code_told (finished g (report_told row report)).answer ≡ None
report_untold g None report = refl
report_untold g (Some row) report = report_answered g (take_report row.status report)

end_untold : (g : Flat) (falling : List Service) → code_told (finished g (end_told falling)).answer ≡ None
end_untold g [] = refl
end_untold g (row ∷ rows) = refl

-- nor have a launch and a control that are taken in hand
launch_untold : (g : Flat) (found : Option ℕ) → code_told (finished g (launch_told found)).answer ≡ None
launch_untold g None = refl
launch_untold g (Some process) = refl

control_untold : (g : Flat) (found : Option Order) → code_told (finished g (control_sent found)).answer ≡ None
control_untold g None = refl
control_untold g (Some code) = refl

-- a raise that is refused begins nothing
raise_refused : (l : Limits) (f : Flat) (moment caller : ℕ) (subtype : List ℕ) → IsValid l f → raise_verdict f caller ≢ 0
    → (step_of l f moment (Raised caller subtype)).flat ≡ with_moment f moment
raise_refused l f moment caller subtype valid some =
    let g = with_moment f moment in
    ap (λ (b : Bool). purged (settled l (cond b (all_triggered l subtype f.services g) g))) (ne_eqb (raise_verdict f caller) 0 some)
    ∙ ap (λ (told : StepResult). told.flat) (stays_told l f moment (reply.Code 0) valid.settled valid.purged)

told_rightly : (l : Limits) (f : Flat) (e : Entry) → IsValid l f → IsTrue (may l f e.0 e.1)
    → LawOfReplies l f e (step_of l f e.0 e.1).answer (step_of l f e.0 e.1).flat
told_rightly l f (moment, Call caller asked append) valid ok = of_call l f moment caller asked append valid
    (and_parts _ _ (and_parts _ _ ok).0).0
told_rightly l f (moment, EndStart caller plan) valid ok = decided f plan (code_of f.plans plan) refl
    (and_parts _ _ (and_parts _ _ (and_parts _ _ ok).0).1).1
told_rightly l f (moment, Report process service status) valid ok = report_untold
    (settled l (reported (with_moment f moment) process service status).flat)
    (reporting f process service) status
told_rightly l f (moment, Ended process) valid ok = end_untold (settled l (process_ended (with_moment f moment) process).flat)
    (currents process f.services)
told_rightly l f (moment, LaunchTaken) valid ok = launch_untold (settled l (launch_taken (with_moment f moment)).flat)
    (first_wanted f.wanted)
told_rightly l f (moment, ControlTaken process) valid ok = control_untold (settled l (control_taken (with_moment f moment) process).flat)
    (next_order f process)
told_rightly l f (moment, Raised caller subtype) valid ok = record { reply = refl; refused = raise_refused l f moment caller subtype valid }
told_rightly l f (moment, step) valid ok = refl

-- each step from a state that a run reaches
pub gives : (l : Limits) → Gives (Clear l) (LawOfReplies l) l
gives l f e clear ok = told_rightly l f e (is_valid_clear l f clear) ok
