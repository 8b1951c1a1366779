-- The law of events.
use Rattle.std.proofs.Common.{ℕ, ◌≡◌, ◌≤◌, ◌==◌, true, false, IsTrue, refl, ne_eqb, arith}
use Rattle.std.proofs.lemmas.List.Elements.{All-weaker}
use Rattle.scm_model.specs.Changes.{with_moment}
use Rattle.scm_model.specs.Entries.{Entry}
use Rattle.scm_model.specs.declared.calls.Request.{Request}
use Rattle.scm_model.specs.declared.calls.Request.TheVariants as request
use Rattle.scm_model.specs.declared.flat.Flat.{Flat}
use Rattle.scm_model.specs.declared.flat.Limits.{Limits}
use Rattle.scm_model.specs.declared.flat.Service.{Service}
use Rattle.scm_model.specs.declared.steps.Kept.{Kept}
use Rattle.scm_model.specs.declared.steps.Step.{Step}
use Rattle.scm_model.specs.declared.steps.Step.TheVariants.{Call, Gone}
use Rattle.start_plan.proofs.Enterings.{all_units}
use Rattle.start_plan.proofs.Keeps.{Keeps, keeps_all}
use Rattle.start_plan.specs.Settle.{settled}
use Rattle.scm_rules.specs.Steps.{at_moment, effect_of, finished_step, may, stages_of}
use Rattle.scm_rules.specs.Verdicts.{call_of, done_of, told_refused, verdict}
use Rattle.scm_runs.proofs.Along.{Gives}
use Rattle.scm_runs.proofs.Calls.{before_sound, by_verdict, of_effect as sound_effect}
use Rattle.scm_runs.proofs.Founds.{notify_apart}
use Rattle.scm_runs.proofs.Frames.{finished_keeps}
use Rattle.scm_runs.proofs.Sound.{Sound}
use Rattle.scm_moves.proofs.Whole.{Whole}
use Rattle.scm_notices.specs.Events.{LawOfEvents, Notifies, NotifiesEach, changes_registrations, is_about_registrations}
use Rattle.scm_notices.proofs.Between.{changed_same, notified_of_nothing}
use Rattle.scm_notices.proofs.Coming.{notified_of_leaving}
use Rattle.scm_notices.proofs.Effects.{of_effect}
use Rattle.scm_notices.proofs.Entering.{Settles, entering_settles}
use Rattle.scm_notices.proofs.Firsts.{maps_nothing}
use Rattle.std.proofs.Common.{sym}

-- ## Settling

settling : (l : Limits) (h : Flat) → Keeps l (Settles h) (λ plan. Unit {0})
settling l h = record {
  enters = λ g plan n words entry s. entering_settles h g n words entry.row entry.found entry.stopped s;
  tries = λ g plan n entry q. tt;
  drops = λ plan n rest code q. tt;
  meets = λ plan services q. tt;
}

unsettled : (h : Flat) → Sound h → Settles h h
unsettled h s = record {
  notifies = notified_of_nothing h h refl refl;
  same = changed_same h h (λ row. row) (λ row. refl) (sym (maps_nothing (λ (row : Service). row) (λ row. refl) h.services));
  stopped = λ n row is stopped. is;
  named = All-weaker (λ (row : Service). 1 ≤ row.number) (λ (row : Service). (row.number == 0) ≡ false)
      (λ row first. ne_eqb row.number 0 (λ none. absurd (omega (arith, none, first)))) h.services s.services.numbered.positive;
  current = s.services.current;
  listed = s.processes.numbered.below;
  positive = s.processes.numbered.positive;
  first = s.services.first_process;
}

pub of_settling : (l : Limits) (h : Flat) → Sound h → Notifies h (settled l h)
of_settling l h s = (keeps_all l (Settles h) (λ plan. Unit {0}) (settling l h) h h.plans (unsettled h s) (all_units h.plans)).flat.notifies

-- ## What changes registrations changes no service

same_done : (l : Limits) (f : Flat) (caller : ℕ) (asked : Request) → is_about_registrations asked ≡ true
    → (done_of l f caller asked).flat.services ≡ f.services
same_done l f caller (request.Notify handle mask) about = notify_apart (λ (g : Flat). g.services ≡ f.services) f caller handle mask
    (λ rows next. refl)
same_done l f caller (request.GetNotify handle) about = refl
same_done l f caller (request.CloseNotify handle) about = refl
same_done l f caller asked about = absurd cc

same_call : (l : Limits) (f : Flat) (caller : ℕ) (asked : Request) (append : Kept) → is_about_registrations asked ≡ true
    → (call_of l f caller asked append).flat.services ≡ f.services
same_call l f caller asked append about =
    let code = verdict l f caller asked append in
    by_verdict (λ d. d.flat.services ≡ f.services) code (told_refused f caller asked code) f (done_of l f caller asked)
    (λ e. same_done l f caller asked about) (λ e. refl)

same_services : (l : Limits) (f : Flat) (moment : ℕ) (step : Step) → changes_registrations step ≡ true
    → (effect_of l (at_moment f moment step) step).flat.services ≡ f.services
same_services l f moment (Call caller asked append) about = same_call l (with_moment f moment) caller asked append about
same_services l f moment (Gone caller) about = refl
same_services l f moment step about = absurd cc

-- ## The law

pub each_stage : (l : Limits) (f : Flat) (e : Entry) → Sound f → IsTrue (may l f e.0 e.1)
    → NotifiesEach f e.1 (stages_of l f e.0 e.1)
each_stage l f e s ok =
    let done = effect_of l (at_moment f e.0 e.1) e.1 in
    record {
      effect = of_effect l f e.0 e.1 s ok;
      services = same_services l f e.0 e.1;
      settled = finished_keeps (Notifies done.flat) (λ g plans q. q) (settled l done.flat) done.answer
          (of_settling l done.flat (sound_effect l f e.0 e.1 s ok));
      purged = notified_of_leaving (finished_step l f e.0 e.1).flat (before_sound l f e.0 e.1 s ok).services.numbered.rising;
    }

pub gives : (l : Limits) → Gives (Whole l) (LawOfEvents l) l
gives l f e whole ok = each_stage l f e whole.clear.sound ok
