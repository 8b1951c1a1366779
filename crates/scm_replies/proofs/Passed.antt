-- A call that isn't refused.
use Rattle.std.proofs.Common.{ℕ, ◌≡◌, ◌⊎◌, ◌∙◌, ◌==◌, true, false, not, List, [], Option, Some, ap, sym, refl, subst, eqb-true, inl, inr}
use Rattle.std.specs.Prelude.{unwrap_or}
use Rattle.scm_model.specs.declared.calls.Request.{Request}
use Rattle.scm_model.specs.declared.calls.Request.TheVariants as request
use Rattle.scm_model.specs.declared.flat.Flat.{Flat}
use Rattle.scm_model.specs.declared.flat.Limits.{Limits}
use Rattle.scm_model.specs.declared.flat.Service.{Service}
use Rattle.scm_model.specs.declared.steps.Kept.{Kept}
use Rattle.scm_model.specs.declared.steps.Step.{Step}
use Rattle.scm_model.specs.declared.steps.Step.TheVariants.{Call}
use Rattle.scm_model.specs.Changes.{with_moment}
use Rattle.std.proofs.lemmas.Bool.{not-false, or_parts}
use Rattle.scm_model.specs.Ready.{state_in, state_of}
use Rattle.scm_model.specs.Rows.{held_service, is_caller}
use Rattle.start_plan.specs.Decided.{is_target}
use Rattle.scm_model.specs.Outcomes.{StepResult}
use Rattle.scm_rules.specs.Needs.{start_order}
use Rattle.scm_rules.specs.Start.{is_aimed_at, new_plan, start_refusals, start_verdict, with_start}
use Rattle.scm_rules.proofs.Held.{held_is}
use Rattle.scm_rules.specs.Steps.{effect_of, step_of, tells_plan}
use Rattle.scm_rules.specs.Valid.{IsValid}
use Rattle.scm_rules.specs.Verdicts.{done_of, told_refused, verdict}
use Rattle.scm_replies.specs.Replies.{IsDecided, Passes, TargetEnters, Waits, code_told}
use Rattle.scm_replies.proofs.Begun.{Comes, comes}
use Rattle.scm_replies.proofs.Lists.{none_has}
use Rattle.scm_replies.proofs.Refused.{closed}
use Rattle.scm_replies.proofs.Settling.{still}
use Rattle.scm_replies.proofs.Verdicts.{begun_effect, done_code, passed_effect, verdict_moved, leaving}
use Rattle.scm_runs.proofs.Handles.{not_nobody}
use Rattle.scm_model.specs.declared.steps.Answer.TheVariants as answer
use Rattle.scm_model.specs.Found.{if_found}
use Rattle.scm_runs.proofs.Calls.{all_pass, start_held}

-- a call that is no start is told 0
told_zero : (l : Limits) (f : Flat) (moment caller : ℕ) (asked : Request) (append : Kept) → tells_plan asked 0 ≡ false
    → verdict l f caller asked append ≡ 0
    → code_told (step_of l f moment (Call caller asked append)).answer ≡ Some 0
told_zero l f moment caller asked append plain none =
    let g = with_moment f moment in
    let code = verdict l g caller asked append in
    ap (λ (r : StepResult). code_told (closed l r).answer) (passed_effect asked code g.next.plan (told_refused g caller asked code) g
    (done_of l g caller asked) (verdict_moved l f moment caller asked append ∙ none) plain)
    ∙ ap (λ (n : ℕ). Some n) (done_code l g caller asked)

-- what is known of the service that a start with verdict 0 is for
record IsAwaited (f : Flat) (row : Service) : Type 0 where
  alone : is_target f.plans row.number ≡ false
  rests : (state_of f row.number == 4) ≡ false

awaited : (f : Flat) (caller handle : ℕ) (words : Option (List (List ℕ))) (row : Service) → held_service f caller handle ≡ Some row
    → start_verdict f caller handle words ≡ 0 → IsAwaited f row
awaited f caller handle words row is e =
    let service = held_service f caller handle in
    let p = all_pass (start_refusals f caller handle words) (refl, (refl, (refl, (refl, (refl, (refl, (refl, (refl, tt)))))))) e in
    let both = or_parts (not (state_in service == 1)) (is_aimed_at f service) p.1.1.1.1.1.0 in
    let stopped : (row.status.state == 1) ≡ true = ap (λ found. state_in found == 1) (sym is) ∙ not-false _ both.0 in
    let state : state_of f row.number ≡ 1 = ap state_in (held_is f caller handle row is) ∙ eqb-true row.status.state 1 stopped in
    record { alone = ap (is_aimed_at f) (sym is) ∙ both.1; rests = ap (λ n. n == 4) state }

-- a start waits, or is told what was decided
started : (l : Limits) (f : Flat) (moment caller handle : ℕ) (words : Option (List (List ℕ))) (append : Kept) (row : Service)
    → IsValid l f → is_caller f caller ≡ true → held_service f caller handle ≡ Some row
    → verdict l f caller (request.Start handle words) append ≡ 0
    → Comes l f moment row (effect_of l (with_moment f moment) (Call caller (request.Start handle words) append))
started l f moment caller handle words append row valid there is none =
    let g = with_moment f moment in
    let code = verdict l g caller (request.Start handle words) append in
    let effect = begun_effect code g.next.plan (told_refused g caller (request.Start handle words) code) g
    (done_of l g caller (request.Start handle words))
    (verdict_moved l f moment caller (request.Start handle words) append ∙ none) in
    let begun = ap (λ found. leaving (answer.Begun g.next.plan) (if_found (with_start caller (unwrap_or words [])) found g)) is in
    let for_it = awaited f caller handle words row is none in
    subst (Comes l f moment row) (sym (effect ∙ begun))
    (comes l f moment (new_plan g caller row.number (start_order g row.number) (unwrap_or words [])) row
    (still l f valid.settled) valid.purged (none_has f.next.plan f.plans valid.plans.below)
    (record { aims = refl; undecided = refl; alone = for_it.alone; rests = for_it.rests }) refl
    (not_nobody caller f.callers valid.callers.positive there))

as_stated : (l : Limits) (f : Flat) (moment caller handle : ℕ) (step : Step) (row : Service) → held_service f caller handle ≡ Some row
    → Comes l f moment row (effect_of l (with_moment f moment) step)
    → Waits f (closed l (effect_of l (with_moment f moment) step)).answer (closed l (effect_of l (with_moment f moment) step)).flat
    ⊎ IsDecided l f moment caller handle step (closed l (effect_of l (with_moment f moment) step)).answer
    (closed l (effect_of l (with_moment f moment) step)).flat
as_stated l f moment caller handle step row is (inl waits) = inl waits
as_stated l f moment caller handle step row is (inr d) = inr (record {
  code = d.code;
  decided = d.decided;
  reply = d.reply;
  entered = λ zero. subst (λ found. TargetEnters f moment found (closed l (effect_of l (with_moment f moment) step)).flat) (sym is)
      (d.entered zero);
  same = d.same;
})

pub passes : (l : Limits) (f : Flat) (moment caller : ℕ) (asked : Request) (append : Kept) → IsValid l f
    → is_caller f caller ≡ true → verdict l f caller asked append ≡ 0
    → Passes l f moment caller (Call caller asked append) asked (step_of l f moment (Call caller asked append)).answer
    (step_of l f moment (Call caller asked append)).flat
passes l f moment caller (request.Start handle words) append valid there none =
    let held = start_held f caller handle words none in
    as_stated l f moment caller handle (Call caller (request.Start handle words) append) held.row held.is
    (started l f moment caller handle words append held.row valid there held.is none)
passes l f moment caller asked append valid there none = told_zero l f moment caller asked append refl none
