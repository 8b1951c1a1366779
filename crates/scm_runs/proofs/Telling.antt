-- Whatever each event keeps of registrations, a step keeps behind its effect.
use Rattle.std.proofs.Common.{ℕ, IsTrue, List}
use Rattle.std.proofs.lemmas.List.Elements.{All-filter}
use Rattle.scm_model.specs.Purge.{leaves, leaving}
use Rattle.scm_model.specs.declared.flat.Flat.{Flat}
use Rattle.scm_model.specs.declared.flat.Limits.{Limits}
use Rattle.scm_model.specs.declared.flat.Registration.{Registration}
use Rattle.scm_model.specs.declared.steps.Step.{Step}
use Rattle.start_plan.specs.Settle.{settled}
use Rattle.scm_rules.specs.Steps.{at_moment, effect_of, finished_step, may, step_of}
use Rattle.scm_runs.proofs.Calls.{before_sound, of_effect}
use Rattle.scm_runs.proofs.Frames.{finished_keeps}
use Rattle.scm_runs.proofs.Settling.{settled_tells}
use Rattle.scm_runs.proofs.Sound.{Sound, are_named}
use Rattle.scm_runs.proofs.Told.{IsNamed, Tells, leaving_tells}

pub step_tells : (l : Limits) (P : List Registration → Type 0) (f : Flat) (moment : ℕ) (step : Step) → Tells P → Sound f
    → IsTrue (may l f moment step)
    → P (effect_of l (at_moment f moment step) step).flat.registrations → P (step_of l f moment step).flat.registrations
step_tells l P f moment step tells s ok p =
    let done = effect_of l (at_moment f moment step) step in
    let before = (finished_step l f moment step).flat in
    leaving_tells P tells (leaving before) before.registrations (All-filter (leaves before.handles) IsNamed before.services
    (are_named before (before_sound l f moment step s ok)))
    (finished_keeps (λ (g : Flat). P g.registrations) (λ g plans q. q) (settled l done.flat) done.answer
    (settled_tells l P done.flat tells (of_effect l f moment step s ok) p))
