-- The law of handles.
use Rattle.std.proofs.Common.{ℕ, ◌≡◌, ◌≢◌, ◌≤◌, ◌==◌, ◌||◌, Bool, true, false, not, cond, IsTrue, List, [], ◌∷◌, Some, filter, find, ap}
use Rattle.std.proofs.Common.{sym, refl, subst, arith, eq-eqb, eqb-true, ne_eqb, inl, inr, get_or}
use Rattle.std.specs.Prelude.{All, Contains, is_some}
use Rattle.std.proofs.lemmas.List.Elements.{All-from_recursion, All-push, All-filter, All-weaker, All-contains_itself, filter_passes}
use Rattle.std.proofs.lemmas.List.Elements.{All-head, All-tail, All-map}
use Rattle.std.proofs.lemmas.Option.{IfSome_then}
use Rattle.scm_model.specs.declared.flat.Caller.{Caller}
use Rattle.scm_model.specs.declared.flat.Flat.{Flat}
use Rattle.scm_model.specs.declared.flat.HandleRow.{HandleRow}
use Rattle.scm_model.specs.declared.flat.Limits.{Limits}
use Rattle.scm_model.specs.declared.flat.Plan.{Plan}
use Rattle.scm_model.specs.declared.flat.Registration.{Registration}
use Rattle.scm_model.specs.declared.calls.Request.{Request}
use Rattle.scm_model.specs.declared.calls.Request.TheVariants as request
use Rattle.scm_model.specs.declared.steps.Kept.{Kept}
use Rattle.scm_model.specs.declared.steps.Step.{Step}
use Rattle.scm_model.specs.declared.steps.Step.TheVariants.{Call, Report, Ended, Tick, Raised, Gone}
use Rattle.scm_model.specs.Rows.{held_service}
use Rattle.scm_model.specs.Changes.{with_moment}
use Rattle.scm_rules.specs.Steps.{at_moment, effect_of, finished_step, may, step_of}
use Rattle.scm_rules.specs.Valid.{AreNumbered}
use Rattle.scm_rules.specs.Verdicts.{call_of, done_of, verdict}
use Rattle.scm_runs.specs.Handles.{HoldsNothing, LawOfHandles, LeavesNothing, StoodOrIsNew}
use Rattle.scm_runs.proofs.Along.{Gives}
use Rattle.scm_runs.proofs.Calls.{by_verdict, keeps}
use Rattle.scm_runs.proofs.Frames.{Frame, framed}
use Rattle.scm_runs.proofs.Handled.{has_caller}
use Rattle.scm_runs.proofs.Lists.{any_both}
use Rattle.scm_runs.proofs.Plans.{IsKnown, IsPlan}
use Rattle.scm_runs.proofs.Sound.{Sound}
use Rattle.std.proofs.lemmas.Bool.{and_parts}
use Rattle.scm_runs.proofs.Founds.{opened_keeps, started_keeps, notify_apart}
use Rattle.scm_rules.specs.Failures.{failed_by}
use Rattle.scm_rules.specs.Launches.{currents, without_process}
use Rattle.scm_rules.specs.Reports.{reporting}
use Rattle.scm_runs.proofs.Failing.{all_failing_apart, failing_apart}
use Rattle.scm_runs.proofs.Unasked.{raised_apart, ticked_apart}
use Rattle.scm_runs.proofs.Told.{Tells, notified_or}
use Rattle.scm_runs.proofs.Telling.{step_tells}
use Rattle.scm_model.specs.Notices.{notified}

-- ## Each number is given once

record Once (old new : Flat) : Type 0 where
  rows : All (StoodOrIsNew old) new.handles
  rising : old.next.handle ≤ new.next.handle

all_stood : (f : Flat) → All (StoodOrIsNew f) f.handles
all_stood f = All-weaker (Contains f.handles) (StoodOrIsNew f) (λ row h. inl h) f.handles (All-contains_itself f.handles)

same : (f : Flat) → Once f f
same f = record { rows = all_stood f; rising = omega arith }

of_done : (l : Limits) (f : Flat) (caller : ℕ) (asked : Request) → Once f (done_of l f caller asked).flat
of_done l f caller (request.Close handle) = record { rows = All-filter _ (StoodOrIsNew f) f.handles (all_stood f); rising = omega arith }
of_done l f caller (request.Control handle control) = record { rows = all_stood f; rising = omega arith }
of_done l f caller (request.Delete handle) = record { rows = all_stood f; rising = omega arith }
of_done l f caller (request.Lock handle) = record {
  rows = All-push (StoodOrIsNew f) f.handles _ (all_stood f) (inr (omega arith));
  rising = omega arith;
}
of_done l f caller (request.SetStatus handle status) =
    failing_apart (Once f) (failed_by status (held_service f caller handle)) _ (record { rows = all_stood f; rising = omega arith })
of_done l f caller (request.Unlock handle) = record { rows = All-filter _ (StoodOrIsNew f) f.handles (all_stood f); rising = omega arith }
of_done l f caller (request.Change change) = record { rows = all_stood f; rising = omega arith }
of_done l f caller (request.Change2 handle asked) = record { rows = all_stood f; rising = omega arith }
of_done l f caller (request.SetSecurity handle parts bytes) = record { rows = all_stood f; rising = omega arith }
of_done l f caller (request.Create new) = record {
  rows = All-push (StoodOrIsNew f) f.handles _ (all_stood f) (inr (omega arith));
  rising = omega arith;
}
of_done l f caller (request.OpenManager database access) = record {
  rows =
      All-push (StoodOrIsNew f) f.handles _ (all_stood f) (inr (omega arith));
  rising = omega arith;
}
of_done l f caller (request.OpenService handle name access) =
    opened_keeps (Once f) f caller name access (same f) (λ row is. record {
      rows =
          All-push (StoodOrIsNew f) f.handles _ (all_stood f) (inr (omega arith));
      rising = omega arith;
    })
of_done l f caller (request.Start handle words) =
    started_keeps (Once f) f caller handle words (same f) (λ row is. record { rows = all_stood f; rising = omega arith })
of_done l f caller (request.Notify handle mask) =
    notify_apart (Once f) f caller handle mask (λ rows next. record {
      rows =
          All-push (StoodOrIsNew f) f.handles _ (all_stood f) (inr (omega arith));
      rising = omega arith;
    })
of_done l f caller (request.GetNotify handle) = record { rows = all_stood f; rising = omega arith }
of_done l f caller (request.CloseNotify handle) = record {
  rows = All-filter _ (StoodOrIsNew f) f.handles (all_stood f);
  rising = omega arith;
}
of_done l f caller asked = same f

of_call : (l : Limits) (f : Flat) (moment caller : ℕ) (asked : Request) (append : Kept)
    → Once (with_moment f moment) (call_of l (with_moment f moment) caller asked append).flat
of_call l f moment caller asked append =
    by_verdict (λ r. Once (with_moment f moment) r.flat) (verdict l (with_moment f moment) caller asked append) _ (with_moment f moment)
    (done_of l (with_moment f moment) caller asked)
    (λ e. of_done l (with_moment f moment) caller asked) (λ e. same (with_moment f moment))

of_effect : (l : Limits) (f : Flat) (moment : ℕ) (step : Step) → Once f (effect_of l (at_moment f moment step) step).flat
of_effect l f moment (Call caller asked append) =
    let once = of_call l f moment caller asked append in
    record { rows = once.rows; rising = once.rising }
of_effect l f moment (Gone caller) = record { rows = All-filter _ (StoodOrIsNew f) f.handles (all_stood f); rising = omega arith }
of_effect l f moment (Report process service status) =
    failing_apart (Once f) (failed_by status (reporting (with_moment f moment) process service)) _
    (record { rows = all_stood f; rising = omega arith })
of_effect l f moment (Ended process) =
    all_failing_apart (λ (g : Flat). Once f (without_process g process)) (currents process f.services) _
    (record { rows = all_stood f; rising = omega arith })
of_effect l f moment Tick = ticked_apart (Once f) l (with_moment f moment) (record { rows = all_stood f; rising = omega arith })
of_effect l f moment (Raised caller subtype) = raised_apart (Once f) l (with_moment f moment) caller subtype
    (record { rows = all_stood f; rising = omega arith })
of_effect l f moment step = record { rows = all_stood f; rising = omega arith }

-- what settling leaves, and answering
once_still : (f g h : Flat) → Frame g h → Once f g → Once f h
once_still f g h frame once = record {
  rows = subst (λ rows. All (StoodOrIsNew f) rows) (sym (ap (λ (x : Flat). x.handles) frame)) once.rows;
  rising = (let e : h.next.handle ≡ g.next.handle = ap (λ (x : Flat). x.next.handle) frame in let up = once.rising in omega (arith, e, up));
}

of_step : (l : Limits) (f : Flat) (moment : ℕ) (step : Step) → Once f (step_of l f moment step).flat
of_step l f moment step =
    let done = effect_of l (at_moment f moment step) step in
    let once = once_still f done.flat (finished_step l f moment step).flat (framed l f moment step) (of_effect l f moment step) in
    record { rows = once.rows; rising = once.rising }

-- ## Who is gone has nothing

others : (caller : ℕ) (rows : List HandleRow) → All (λ (row : HandleRow). not (row.caller == caller) ≡ true) rows
    → All (λ (row : HandleRow). row.caller ≢ caller) rows
others caller rows passes =
    All-weaker (λ (row : HandleRow). not (row.caller == caller) ≡ true) (λ (row : HandleRow). row.caller ≢ caller)
    (λ row h same. let t = eq-eqb row.caller caller same in absurd (let u : not true ≡ true = subst (λ b. not b ≡ true) t h in cc)) rows
    passes

-- events leave whose a registration is
all_others : (caller : ℕ) → Tells (All (λ (row : Registration). row.caller ≢ caller))
all_others caller event rows proper other =
    All-map (λ (row : Registration). row.caller ≢ caller) (notified event) rows
    (λ k d lt. notified_or (λ (row : Registration). row.caller ≢ caller) event (get_or rows k d) (λ e. other k d lt) (other k d lt))

other_rows : (caller : ℕ) (rows : List Registration) → All (λ (row : Registration). row.caller ≢ caller)
    (filter (λ (row : Registration). not (row.caller == caller)) rows)
other_rows caller rows =
    All-weaker (λ (row : Registration). not (row.caller == caller) ≡ true) (λ (row : Registration). row.caller ≢ caller)
    (λ row h same. let t = eq-eqb row.caller caller same in absurd (let u : not true ≡ true = subst (λ b. not b ≡ true) t h in cc))
    (filter (λ (row : Registration). not (row.caller == caller)) rows) (filter_passes
    (λ (row : Registration). not (row.caller == caller)) rows)

-- a caller isn't among the others
pub not_there : (callers : List Caller) (caller : ℕ) → has_caller (filter (λ (row : Caller). not (row.number == caller)) callers) caller ≡
    false
not_there [] caller = refl
not_there (row ∷ callers) caller =
    elim (row.number == caller) as (λ b. (row.number == caller) ≡ b
    → has_caller (cond (not b) (row ∷ filter (λ (row : Caller). not (row.number == caller)) callers)
    (filter (λ (row : Caller). not (row.number == caller)) callers)) caller ≡ false) [
      | true ↦ λ e. not_there callers caller
      | false ↦ λ e. rw e (not_there callers caller)
    ] refl

-- who has joined has a number
pub not_nobody : (caller : ℕ) (rows : List Caller) → All (λ (row : Caller). 1 ≤ row.number) rows
    → is_some (find (λ (row : Caller). row.number == caller) rows) ≡ true → (caller == 0) ≡ false
not_nobody caller [] positive there = absurd (cc)
not_nobody caller (row ∷ rows) positive there =
    elim (row.number == caller) as (λ b. (row.number == caller) ≡ b → is_some
    (cond b (Some row) (find (λ (row : Caller). row.number == caller) rows)) ≡ true → (caller == 0) ≡ false) [
      | true ↦ λ e h. ne_eqb caller 0 (λ zero. absurd (let same = eqb-true row.number caller e in
          let up = All-head (λ (row : Caller). 1 ≤ row.number) row rows positive in omega (arith, same, up, zero)))
      | false ↦ λ e h. not_nobody caller rows (All-tail (λ (row : Caller). 1 ≤ row.number) row rows positive) h
    ] refl there

neither_known : (a b : Bool) → a ≡ false → b ≡ false → (a || b) ≡ true → ⊥
neither_known a b x y h = absurd cc

-- its plans are gone with it
no_plan : (next service caller : ℕ) (before after : List Caller) (plans : List Plan)
    → AreNumbered (λ (row : Caller). row.number) next before → has_caller before caller ≡ true
    → after ≡ filter (λ (row : Caller). not (row.number == caller)) before → All (IsKnown after) plans
    → All (λ (row : Plan). row.caller ≢ caller) plans
no_plan next service caller before after plans numbered there e known =
    All-weaker (IsKnown after) (λ (row : Plan). row.caller ≢ caller)
    (λ row h same. neither_known (caller == 0) (has_caller after caller) (not_nobody caller before numbered.positive there)
    (rw e (not_there before caller))
    (subst (λ n. (n == 0 || has_caller after n) ≡ true) same h)) plans known

holds_nothing : (l : Limits) (f : Flat) (moment caller : ℕ) → Sound f → IsTrue (may l f moment (Gone caller))
    → Sound (step_of l f moment (Gone caller)).flat → HoldsNothing caller (step_of l f moment (Gone caller)).flat
holds_nothing l f moment caller before ok s =
    let there = (and_parts _ _ ok).0 in
    let after = (step_of l f moment (Gone caller)).flat in
    let frame = framed l f moment (Gone caller) in
    let handles : after.handles ≡ filter (λ (row : HandleRow). not (row.caller == caller)) f.handles = ap (λ (x : Flat). x.handles) frame in
    let passes : All (λ (row : HandleRow). not (row.caller == caller) ≡ true) after.handles =
    subst (λ (rows : List HandleRow). All (λ (row : HandleRow). not (row.caller == caller) ≡ true) rows) (sym handles)
    (filter_passes (λ (row : HandleRow). not (row.caller == caller)) f.handles) in
    record {
      handles = others caller after.handles passes;
      registrations = step_tells l (All (λ (row : Registration). row.caller ≢ caller)) f moment (Gone caller) (all_others caller) before ok
          (other_rows caller f.registrations);
      plans = no_plan f.next.caller f.next.service caller f.callers after.callers after.plans before.handles.callers there
          (ap (λ (x : Flat). x.callers) frame)
          (All-weaker (IsPlan after.next.plan after.next.service after.callers) (IsKnown after.callers) (λ plan is. is.known) after.plans
          (All-from_recursion (IsPlan after.next.plan after.next.service after.callers) after.plans s.plans.each));
      lock = IfSome_then after.lock s.handles.lock.holder
          (λ held. any_both (λ (row : HandleRow). row.number == held.handle)
          (λ (row : HandleRow). not (row.caller == caller)) after.handles passes);
    }

leaves_nothing : (l : Limits) (f : Flat) (moment : ℕ) (step : Step) → Sound f → IsTrue (may l f moment step)
    → Sound (step_of l f moment step).flat → LeavesNothing step (step_of l f moment step).flat
leaves_nothing l f moment (Gone caller) before ok s = holds_nothing l f moment caller before ok s
leaves_nothing l f moment step before ok s = tt

pub gives : (l : Limits) → Gives Sound (LawOfHandles l) l
gives l f e s ok =
    let after = keeps l f e s ok in
    let once = of_step l f e.0 e.1 in
    record {
      numbered = after.handles.handles;
      once = once.rows;
      rising = once.rising;
      rights = after.handles.rights;
      gone = leaves_nothing l f e.0 e.1 s ok after;
    }
