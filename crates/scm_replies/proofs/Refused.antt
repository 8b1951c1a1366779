-- A call that is refused.
use Rattle.std.proofs.Common.{ℕ, ◌≡◌, ◌≢◌, ◌∙◌, ◌==◌, false, Some, ap, ne_eqb}
use Rattle.scm_model.specs.declared.calls.Reply.{Reply}
use Rattle.scm_model.specs.declared.calls.Request.{Request}
use Rattle.scm_model.specs.declared.flat.Flat.{Flat}
use Rattle.scm_model.specs.declared.flat.Limits.{Limits}
use Rattle.scm_model.specs.declared.steps.Answer.TheVariants as answer
use Rattle.scm_model.specs.declared.steps.Kept.{Kept}
use Rattle.scm_model.specs.declared.steps.Step.TheVariants.{Call}
use Rattle.scm_model.specs.Changes.{with_moment}
use Rattle.scm_model.specs.Purge.{purged}
use Rattle.scm_model.specs.Outcomes.{StepResult}
use Rattle.start_plan.specs.Settle.{settled}
use Rattle.scm_rules.specs.Steps.{finished, step_of}
use Rattle.scm_rules.specs.Verdicts.{done_of, told_refused, verdict}
use Rattle.scm_replies.specs.Replies.{IsRefused, code_told}
use Rattle.scm_replies.proofs.Settling.{settled_moved}
use Rattle.scm_replies.proofs.Verdicts.{leaving, refused_code, refused_effect, verdict_moved}

-- what becomes of an effect
abbrev pub closed : Limits → StepResult → StepResult
closed l done =
    let end = finished (settled l done.flat) done.answer in
    leaving end.answer (purged end.flat)

-- ## Refusals

-- a settled state that nobody is to leave stays so when the moment moves
pub stays_told : (l : Limits) (f : Flat) (moment : ℕ) (told : Reply) → settled l f ≡ f → purged f ≡ f
    → closed l (leaving (answer.Reply told) (with_moment f moment)) ≡ leaving (answer.Reply told) (with_moment f moment)
stays_told l f moment told rest clear =
    ap (λ (g : Flat). leaving (answer.Reply told) (purged g)) (settled_moved l f moment rest)
    ∙ ap (λ (g : Flat). leaving (answer.Reply told) (with_moment g moment)) clear

refused_step : (l : Limits) (f : Flat) (moment caller : ℕ) (asked : Request) (append : Kept) → settled l f ≡ f → purged f ≡ f
    → verdict l f caller asked append ≢ 0
    → step_of l f moment (Call caller asked append) ≡ leaving (answer.Reply
    (told_refused (with_moment f moment) caller asked (verdict l f caller asked append))) (with_moment f moment)
refused_step l f moment caller asked append rest clear some =
    let g = with_moment f moment in
    let code = verdict l f caller asked append in
    let same = verdict_moved l f moment caller asked append in
    let not_zero : (verdict l g caller asked append == 0) ≡ false = ap (λ (n : ℕ). n == 0) same ∙ ne_eqb code 0 some in
    ap (closed l) (refused_effect asked (verdict l g caller asked append) g.next.plan
    (told_refused g caller asked (verdict l g caller asked append)) g (done_of l g caller asked) not_zero)
    ∙ stays_told l f moment (told_refused g caller asked (verdict l g caller asked append)) rest clear
    ∙ ap (λ (n : ℕ). leaving (answer.Reply (told_refused g caller asked n)) g) same

pub is_refused : (l : Limits) (f : Flat) (moment caller : ℕ) (asked : Request) (append : Kept) → settled l f ≡ f → purged f ≡ f
    → verdict l f caller asked append ≢ 0
    → IsRefused f moment caller asked (verdict l f caller asked append) (step_of l f moment (Call caller asked append)).answer
    (step_of l f moment (Call caller asked append)).flat
is_refused l f moment caller asked append rest clear some =
    let e = refused_step l f moment caller asked append rest clear some in
    record {
      coded = ap (λ (r : StepResult). code_told r.answer) e ∙ ap (λ (n : ℕ). Some n)
          (refused_code (with_moment f moment) caller asked (verdict l f caller asked append));
      reply = ap (λ (r : StepResult). r.answer) e;
      same = ap (λ (r : StepResult). r.flat) e;
    }
