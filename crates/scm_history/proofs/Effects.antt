-- What steps leave of callers, processes, plans and next numbers.
use Rattle.std.proofs.Common.{ℕ, ◌≡◌, ◌∙◌, Bool, true, false, cond, List, Option, None, Some, map, ap, refl}
use Rattle.scm_model.specs.declared.flat.Flat.{Flat}
use Rattle.scm_model.specs.declared.flat.Limits.{Limits}
use Rattle.scm_model.specs.declared.flat.Process.{Process}
use Rattle.scm_model.specs.declared.calls.Request.{Request}
use Rattle.scm_model.specs.declared.calls.Request.TheVariants as request
use Rattle.scm_model.specs.declared.steps.Kept.{Kept}
use Rattle.scm_rules.specs.Controls.{controlled_if, dequeued_if, dequeued_in, order_to}
use Rattle.scm_model.specs.Found.{if_found}
use Rattle.scm_model.specs.declared.flat.Status.{Status}
use Rattle.scm_rules.specs.Verdicts.{call_of, done_of, told_refused, verdict}
use Rattle.scm_runs.proofs.Calls.{by_verdict}
use Rattle.scm_runs.proofs.Lists.{map_same}
use Rattle.scm_runs.proofs.Processes.{IsOfControls}
use Rattle.scm_runs.proofs.Sound.{controls_fewer, controls_more, controls_released}
use Rattle.scm_history.specs.Processes.{apart_from_controls}
use Rattle.scm_model.proofs.Found.{found_keeps}
use Rattle.scm_model.specs.Rows.{held_service}
use Rattle.scm_runs.proofs.Founds.{opened_keeps, started_keeps, notify_apart}
use Rattle.scm_model.specs.declared.flat.Service.{Service}
use Rattle.scm_runs.proofs.Failing.{all_failing_apart, failing_apart}
use Rattle.scm_rules.specs.Failures.{failed_by}
use Rattle.scm_rules.specs.Reports.{is_stopped_by, released_by, released_if, reporting}
use Rattle.scm_rules.specs.Launches.{currents, with_fallen, without_process}
use Rattle.scm_rules.specs.Raise.{raised}
use Rattle.scm_rules.specs.Steps.{at_moment, effect_of}
use Rattle.scm_runs.proofs.Unasked.{raised_apart, raised_by, ticked_apart}
use Rattle.scm_model.specs.Changes.{with_moment}
use Rattle.scm_model.specs.declared.steps.Step.{Step}
use Rattle.scm_model.specs.declared.steps.Step.TheVariants.{Joined, Call, Report, Ended, Tick, Raised, Gone}
use Rattle.scm_model.specs.declared.codes.TheConstants.{ERROR_PROCESS_ABORTED, SERVICE_CONTROL_STOP}

-- a change of the controls alone leaves all else
pub controls_apart : (change : Process → Process) → IsOfControls change → (rows : List Process)
    → map apart_from_controls (map change rows) ≡ map apart_from_controls rows
controls_apart change only rows = map_same change apart_from_controls (λ row. ap apart_from_controls (only row)) rows

-- what is sent next is taken of the controls alone
pub sent_apart : (asked : Option Service) (process : ℕ) (rows : List Process)
    → map apart_from_controls (dequeued_in asked process rows) ≡ map apart_from_controls rows
sent_apart None process rows = controls_apart (dequeued_if process) (controls_fewer process) rows
sent_apart (Some row) process rows = refl

-- and so are the orders of a service that a report stops
pub released_apart : (report : Status) (service : Option Service) (rows : List Process)
    → map apart_from_controls (if_found (released_by report) service rows) ≡ map apart_from_controls rows
released_apart report service rows =
    found_keeps (λ (left : List Process). map apart_from_controls left ≡ map apart_from_controls rows)
    (released_by report) service rows refl
    (λ row is. elim (is_stopped_by report row) as (λ b. map apart_from_controls
    (cond b (map (released_if row.process row.number) rows) rows)
    ≡ map apart_from_controls rows) [
      | true ↦ controls_apart (released_if row.process row.number) (controls_released row.process row.number) rows
      | false ↦ refl
    ])

-- callers and processes are as they were, apart from controls, with the next numbers of both
pub record Spares (f g : Flat) : Type 0 where
  pub callers : g.callers ≡ f.callers
  pub processes : map apart_from_controls g.processes ≡ map apart_from_controls f.processes
  pub next_caller : g.next.caller ≡ f.next.caller
  pub next_process : g.next.process ≡ f.next.process

spared : (f : Flat) → Spares f f
spared f = record { callers = refl; processes = refl; next_caller = refl; next_process = refl }

of_done : (l : Limits) (f : Flat) (caller : ℕ) (asked : Request) → Spares f (done_of l f caller asked).flat
of_done l f caller (request.OpenService handle name access) =
    opened_keeps (Spares f) f caller name access (spared f) (λ row is. record {
      callers = refl;
      processes = refl;
      next_caller = refl;
      next_process = refl;
    })
of_done l f caller (request.Start handle words) =
    started_keeps (Spares f) f caller handle words (spared f) (λ row is.
    record { callers = refl; processes = refl; next_caller = refl; next_process = refl })
of_done l f caller (request.Control handle control) = record {
  callers = refl;
  processes = found_keeps (λ (rows : List Process). map apart_from_controls rows ≡ map apart_from_controls f.processes)
      (λ (row : Service). map (controlled_if l.controls row.process (order_to row.number control)))
      (held_service f caller handle) f.processes refl (λ row is. controls_apart
      (controlled_if l.controls row.process (order_to row.number control))
      (controls_more l.controls row.process (order_to row.number control)) f.processes);
  next_caller = refl;
  next_process = refl;
}
of_done l f caller (request.SetStatus handle status) =
    failing_apart (Spares f) (failed_by status (held_service f caller handle)) _
    (record {
      callers = refl;
      processes = released_apart status (held_service f caller handle) f.processes;
      next_caller = refl;
      next_process = refl;
    })
of_done l f caller (request.Notify handle mask) =
    notify_apart (Spares f) f caller handle mask (λ rows next. record {
      callers = refl;
      processes = refl;
      next_caller = refl;
      next_process = refl;
    })
of_done l f caller asked = record { callers = refl; processes = refl; next_caller = refl; next_process = refl }

-- so it is with each call
pub of_call : (l : Limits) (f : Flat) (caller : ℕ) (asked : Request) (append : Kept) → Spares f (call_of l f caller asked append).flat
of_call l f caller asked append =
    by_verdict (λ r. Spares f r.flat) (verdict l f caller asked append) (told_refused f caller asked (verdict l f caller asked append)) f
    (done_of l f caller asked)
    (λ e. of_done l f caller asked) (λ e. spared f)

-- and with a raise: starts begin, and controls wait
pub of_raise : (l : Limits) (f : Flat) (caller : ℕ) (subtype : List ℕ) → Spares f (raised l f caller subtype)
of_raise l f caller subtype = raised_by (Spares f) l subtype (record {
  starts = λ g row there can p. record {
    callers = p.callers;
    processes = p.processes;
    next_caller = p.next_caller;
    next_process = p.next_process;
  };
  stops = λ g row action there is stops gets p. record {
    callers = p.callers;
    processes = controls_apart (controlled_if l.controls row.process (order_to row.number SERVICE_CONTROL_STOP))
        (controls_more l.controls row.process (order_to row.number SERVICE_CONTROL_STOP)) g.processes ∙ p.processes;
    next_caller = p.next_caller;
    next_process = p.next_process;
  };
}) f caller (spared f)

-- ## Callers

-- whether a step lets a caller join or go
abbrev pub moves_callers : Step → Bool
moves_callers (Joined principal) = true
moves_callers (Gone caller) = true
moves_callers step = false

-- the callers are those that were, and so is the next number of one
pub record HasCallers (f g : Flat) : Type 0 where
  pub rows : g.callers ≡ f.callers
  pub next : g.next.caller ≡ f.next.caller

pub callers_left : (l : Limits) (f : Flat) (moment : ℕ) (step : Step) → moves_callers step ≡ false
    → HasCallers f (effect_of l (at_moment f moment step) step).flat
callers_left l f moment (Joined principal) e = absurd cc
callers_left l f moment (Gone caller) e = absurd cc
callers_left l f moment (Call caller asked append) e =
    let spares = of_call l (with_moment f moment) caller asked append in
    record { rows = spares.callers; next = spares.next_caller }
callers_left l f moment (Report process service status) e = failing_apart (HasCallers f) (failed_by status (reporting f process service)) _
    (record { rows = refl; next = refl })
callers_left l f moment (Ended process) e =
    all_failing_apart (λ (g : Flat). HasCallers f (without_process g process)) (currents process f.services)
    (with_fallen (with_moment f moment) process ERROR_PROCESS_ABORTED) (record { rows = refl; next = refl })
callers_left l f moment Tick e = ticked_apart (HasCallers f) l (with_moment f moment) (record { rows = refl; next = refl })
callers_left l f moment (Raised caller subtype) e = raised_apart (HasCallers f) l (with_moment f moment) caller subtype
    (record { rows = refl; next = refl })
callers_left l f moment step e = record { rows = refl; next = refl }
