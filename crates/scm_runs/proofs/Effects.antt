-- What effects leave of numbers and plans, and what settling then makes of services.
use Rattle.std.proofs.Common.{ℕ, ◌≡◌, ◌⊎◌, ◌≤◌, true, IsTrue, List, [], ◌∷◌, refl, subst, arith, inl, inr}
use Rattle.scm_model.specs.declared.flat.Flat.{Flat}
use Rattle.scm_model.specs.declared.flat.Limits.{Limits}
use Rattle.scm_model.specs.declared.calls.Request.{Request}
use Rattle.scm_model.specs.declared.calls.Request.TheVariants as request
use Rattle.scm_model.specs.declared.steps.Kept.{Kept}
use Rattle.scm_model.specs.declared.steps.Step.{Step}
use Rattle.scm_model.specs.declared.flat.Process.{Process}
use Rattle.scm_model.specs.declared.flat.Service.{Service}
use Rattle.scm_model.specs.declared.steps.Step.TheVariants.{Call, Report, Ended, Tick, Raised}
use Rattle.scm_model.specs.Rows.{held_service, is_caller}
use Rattle.scm_model.specs.Changes.{with_moment}
use Rattle.start_plan.specs.Settle.{settled}
use Rattle.scm_rules.specs.Failures.{failed_by}
use Rattle.scm_rules.specs.Launches.{currents}
use Rattle.scm_rules.specs.Reports.{reporting}
use Rattle.scm_rules.specs.Raise.{raised}
use Rattle.scm_rules.specs.Steps.{at_moment, effect_of, may}
use Rattle.scm_rules.specs.Ticks.{ticked}
use Rattle.scm_rules.specs.Valid.{has_process}
use Rattle.scm_rules.specs.Verdicts.{call_of, done_of, told_refused, verdict}
use Rattle.scm_runs.proofs.Calls.{by_verdict, of_done, of_effect}
use Rattle.scm_runs.proofs.Plans.{ArePlans}
use Rattle.scm_runs.proofs.Settling.{AreSettled, IsSettled, all_grown}
use Rattle.scm_runs.proofs.Sound.{Sound, moved}
use Rattle.std.proofs.lemmas.Bool.{and_parts}
use Rattle.scm_runs.proofs.Founds.{opened_keeps, started_keeps, notify_apart}
use Rattle.scm_runs.proofs.Failing.{all_failing_apart, failing_apart}
use Rattle.scm_runs.proofs.Unasked.{raised_apart, raised_by, ticked_apart, ticked_by}

-- ## Numbers of processes

process_done : (l : Limits) (f : Flat) (caller : ℕ) (asked : Request) → (done_of l f caller asked).flat.next.process ≡ f.next.process
process_done l f caller (request.OpenService handle name access) =
    opened_keeps (λ (g : Flat). g.next.process ≡ f.next.process) f caller name access refl (λ row is. refl)
process_done l f caller (request.Start handle words) =
    started_keeps (λ (g : Flat). g.next.process ≡ f.next.process) f caller handle words refl (λ row is. refl)
process_done l f caller (request.SetStatus handle status) = failing_apart (λ (g : Flat). g.next.process ≡ f.next.process)
    (failed_by status (held_service f caller handle)) _ refl
process_done l f caller (request.Notify handle mask) = notify_apart (λ (g : Flat). g.next.process ≡ f.next.process) f caller handle mask
    (λ rows next. refl)
process_done l f caller asked = refl

process_call : (l : Limits) (f : Flat) (caller : ℕ) (asked : Request) (append : Kept)
    → (call_of l f caller asked append).flat.next.process ≡ f.next.process
process_call l f caller asked append =
    by_verdict (λ r. r.flat.next.process ≡ f.next.process) (verdict l f caller asked append)
    (told_refused f caller asked (verdict l f caller asked append)) f (done_of l f caller asked)
    (λ e. process_done l f caller asked) (λ e. refl)

-- an effect doesn't go back behind the next number of a process
pub process_up : (l : Limits) (f : Flat) (moment : ℕ) (step : Step) → f.next.process ≤
    (effect_of l (at_moment f moment step) step).flat.next.process
process_up l f moment (Call caller asked append) = (let e = process_call l (with_moment f moment) caller asked append in omega (arith, e))
process_up l f moment (Report process service status) =
    failing_apart (λ (g : Flat). f.next.process ≤ g.next.process) (failed_by status (reporting (with_moment f moment) process service)) _
    (omega arith)
process_up l f moment (Ended process) = all_failing_apart (λ (g : Flat). f.next.process ≤ g.next.process)
    (currents process f.services) _ (omega arith)
process_up l f moment Tick = ticked_by (λ (g : Flat). f.next.process ≤ g.next.process) l (record {
  spends = λ g row is up. up;
  starts = λ g row there can up. up;
  runs = λ g row there can up. omega (arith, up);
  reboots = λ g up. up;
}) (with_moment f moment) (omega arith)
process_up l f moment (Raised caller subtype) =
    raised_by (λ (g : Flat). f.next.process ≤ g.next.process) l subtype
    (record { starts = λ g row there can up. up; stops = λ g row action there is stops gets up. up }) (with_moment f moment) caller
    (omega arith)
process_up l f moment step = omega arith

-- ## Entries of plans

-- the entries of the plans are below the number that the next service had
abbrev AreOld : ℕ → Flat → Type 0
AreOld bound g = ArePlans g.next.plan bound g.callers g.plans

old_done : (l : Limits) (f : Flat) (caller : ℕ) (asked : Request) (append : Kept) → Sound f → IsTrue (is_caller f caller)
    → verdict l f caller asked append ≡ 0 → AreOld f.next.service (done_of l f caller asked).flat
old_done l f caller (request.Start handle words) append s there e =
    subst (λ n. ArePlans (done_of l f caller (request.Start handle words)).flat.next.plan n
    (done_of l f caller (request.Start handle words)).flat.callers (done_of l f caller (request.Start handle words)).flat.plans)
    (started_keeps (λ (g : Flat). g.next.service ≡ f.next.service) f caller handle words refl (λ row is. refl))
    (of_done l f caller (request.Start handle words) append s there e).plans
old_done l f caller (request.OpenService handle name access) append s there e =
    opened_keeps (AreOld f.next.service) f caller name access s.plans (λ row is. s.plans)
old_done l f caller (request.SetStatus handle status) append s there e =
    failing_apart (AreOld f.next.service) (failed_by status (held_service f caller handle)) _ s.plans
old_done l f caller (request.Notify handle mask) append s there e = notify_apart (AreOld f.next.service) f caller handle mask
    (λ rows next. s.plans)
old_done l f caller asked append s there e = s.plans

old_call : (l : Limits) (f : Flat) (caller : ℕ) (asked : Request) (append : Kept) → Sound f → IsTrue (is_caller f caller)
    → AreOld f.next.service (call_of l f caller asked append).flat
old_call l f caller asked append s there =
    by_verdict (λ r. AreOld f.next.service r.flat) (verdict l f caller asked append)
    (told_refused f caller asked (verdict l f caller asked append)) f (done_of l f caller asked)
    (old_done l f caller asked append s there) (λ e. s.plans)

pub old_plans : (l : Limits) (f : Flat) (moment : ℕ) (step : Step) → Sound f → IsTrue (may l f moment step)
    → AreOld f.next.service (effect_of l (at_moment f moment step) step).flat
old_plans l f moment (Call caller asked append) s ok = old_call l (with_moment f moment) caller asked append (moved f moment s)
    (and_parts _ _ (and_parts _ _ ok).0).0
old_plans l f moment (Report process service status) s ok =
    let t = moved f moment s in
    failing_apart (AreOld f.next.service) (failed_by status (reporting (with_moment f moment) process service)) _ t.plans
old_plans l f moment (Ended process) s ok =
    let t = moved f moment s in
    all_failing_apart (AreOld f.next.service) (currents process f.services) _ t.plans
old_plans l f moment Tick s ok =
    let g = ticked l (with_moment f moment) in
    subst (λ n. ArePlans g.next.plan n g.callers g.plans) (ticked_apart (λ (h : Flat). h.next.service ≡ f.next.service) l
    (with_moment f moment) refl) (of_effect l f moment Tick s ok).plans
old_plans l f moment (Raised caller subtype) s ok =
    let g = raised l (with_moment f moment) caller subtype in
    subst (λ n. ArePlans g.next.plan n g.callers g.plans) (raised_apart (λ (h : Flat). h.next.service ≡ f.next.service) l
    (with_moment f moment) caller subtype refl)
    (of_effect l f moment (Raised caller subtype) s ok).plans
old_plans l f moment step s ok = (of_effect l f moment step s ok).plans

-- ## Services

-- a lower number of processes
lower : (low next bound : ℕ) (listed : List Process) (befores afters : List Service) → low ≤ next
    → AreSettled next bound listed befores afters → AreSettled low bound listed befores afters
lower low next bound listed [] [] up each = tt
lower low next bound listed [] (after ∷ afters) up each = each
lower low next bound listed (before ∷ befores) [] up each = each
lower low next bound listed (before ∷ befores) (after ∷ afters) up each =
    (one_lower each.0, lower low next bound listed befores afters up each.1)
  where
    by : (next ≤ after.process) ⊎ (has_process listed after.process ≡ true)
        → (low ≤ after.process) ⊎ (has_process listed after.process ≡ true)
    by (inl top) = inl (omega (arith, top, up))
    by (inr there) = inr there

    one_lower : IsSettled next bound listed before after → IsSettled low bound listed before after
    one_lower (inl same) = inl same
    one_lower (inr is) = inr (record { entered = is.entered; process = by is.process; number = is.number; none = is.none })

-- settling enters services that stood before the step, with new processes, or with some that are listed
pub step_settled : (l : Limits) (f : Flat) (moment : ℕ) (step : Step) → Sound f → IsTrue (may l f moment step)
    → AreSettled f.next.process f.next.service (effect_of l (at_moment f moment step) step).flat.processes
    (effect_of l (at_moment f moment step) step).flat.services
    (settled l (effect_of l (at_moment f moment step) step).flat).services
step_settled l f moment step s ok =
    let g = (effect_of l (at_moment f moment step) step).flat in
    lower f.next.process g.next.process f.next.service g.processes g.services (settled l g).services (process_up l f moment step)
    (all_grown l (λ rows. Unit {0}) g f.next.service (λ event rows proper p. tt) (of_effect l f moment step s ok) tt
    (old_plans l f moment step s ok)).flat.rows
