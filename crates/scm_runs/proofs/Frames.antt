-- What settling, and answering a start that is decided, leave of a state.
use Rattle.std.proofs.Common.{ℕ, ◌≡◌, List, Option, None, Some, ap, filter, refl}
use Rattle.scm_model.specs.declared.flat.Due.{Due}
use Rattle.scm_model.specs.declared.flat.Flat.{Flat}
use Rattle.scm_model.specs.declared.flat.Limits.{Limits}
use Rattle.scm_model.specs.declared.flat.Plan.{Plan}
use Rattle.scm_model.specs.declared.steps.Answer.{Answer}
use Rattle.scm_model.specs.declared.steps.Answer.TheVariants as answer
use Rattle.start_plan.specs.Decided.{code_of, without_plan}
use Rattle.start_plan.specs.Settle.{is_due_still, settled}
use Rattle.start_plan.proofs.Enterings.{all_units}
use Rattle.start_plan.proofs.Keeps.{Keeps, keeps_all}
use Rattle.scm_rules.specs.Steps.{finished, left_by, at_moment, effect_of, finished_step}
use Rattle.scm_runs.proofs.Settling.{Beside, still_beside}
use Rattle.scm_model.specs.declared.steps.Step.{Step}

-- only services, processes, wanted launches, plans, registrations and due rows have changed
abbrev pub Frame : Flat → Flat → Type 0
Frame f g = g ≡ record f {
  services = g.services;
  processes = g.processes;
  wanted = g.wanted;
  plans = g.plans;
  registrations = g.registrations;
  dues = g.dues;
  next = record f.next { process = g.next.process };
}

stays_beside : (l : Limits) (f : Flat) → Keeps l (Beside f) (λ plan. Unit {0})
stays_beside l f = record {
  enters = λ g plan n words entry beside. still_beside f g n words beside;
  tries = λ g plan n entry q. tt;
  drops = λ plan n rest code q. tt;
  meets = λ plan services q. tt;
}

pub settled_frame : (l : Limits) (f : Flat) → Frame f (settled l f)
settled_frame l f =
    ap (λ (h : Flat). record h { plans = (settled l f).plans; dues = (settled l f).dues })
    (keeps_all l (Beside f) (λ plan. Unit {0}) (stays_beside l f) f f.plans refl (all_units f.plans)).flat

-- the rows that become due are those that stood, without the deadlines of plans that are decided now
pub settled_dues : (l : Limits) (f : Flat) → (settled l f).dues ≡ filter (λ (due : Due). is_due_still (settled l f).plans due.kind) f.dues
settled_dues l f =
    ap (λ (h : Flat). filter (λ (due : Due). is_due_still (settled l f).plans due.kind) h.dues)
    (keeps_all l (Beside f) (λ plan. Unit {0}) (stays_beside l f) f f.plans refl (all_units f.plans)).flat

left_frame : (f g : Flat) (plan : ℕ) (code : Option ℕ) → Frame f g → Frame f (left_by g plan code)
left_frame f g plan None frame = frame
left_frame f g plan (Some code) frame = ap (λ (h : Flat). record h { plans = without_plan g.plans plan }) frame

pub finished_frame : (f g : Flat) (told : Answer) → Frame f g → Frame f (finished g told).flat
finished_frame f g (answer.Begun plan) frame = left_frame f g plan (code_of g.plans plan) frame
finished_frame f g told frame = frame

-- what stands before services leave differs from the effect in its frame
pub framed : (l : Limits) (f : Flat) (moment : ℕ) (step : Step) → Frame (effect_of l (at_moment f moment step) step).flat
    (finished_step l f moment step).flat
framed l f moment step =
    let done = effect_of l (at_moment f moment step) step in
    finished_frame done.flat (settled l done.flat) done.answer (settled_frame l done.flat)

-- a fact that speaks of no plan stands when a start is answered
left_keeps : (P : Flat → Type 0) → ((g : Flat) (plans : List Plan) → P g → P (record g { plans = plans }))
    → (g : Flat) (plan : ℕ) (code : Option ℕ) → P g → P (left_by g plan code)
left_keeps P any g plan None p = p
left_keeps P any g plan (Some code) p = any g (without_plan g.plans plan) p

pub finished_keeps : (P : Flat → Type 0) → ((g : Flat) (plans : List Plan) → P g → P (record g { plans = plans }))
    → (g : Flat) (told : Answer) → P g → P (finished g told).flat
finished_keeps P any g (answer.Begun plan) p = left_keeps P any g plan (code_of g.plans plan) p
finished_keeps P any g told p = p
