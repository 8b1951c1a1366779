-- The launch that is taken in hand.
use Rattle.std.proofs.Common.{ℕ, ◌≡◌, ◌∙◌, ◌==◌, true, [], ◌∷◌, Option, None, Some, ap, refl, subst, sym, find, map}
use Rattle.std.specs.Prelude.{is_some}
use Rattle.scm_model.specs.declared.flat.Flat.{Flat}
use Rattle.scm_model.specs.declared.flat.Limits.{Limits}
use Rattle.scm_model.specs.declared.flat.Process.{Process}
use Rattle.scm_model.specs.declared.steps.Step.TheVariants.{LaunchTaken}
use Rattle.scm_model.specs.Changes.{with_moment}
use Rattle.scm_model.specs.Rows.{service_of}
use Rattle.start_plan.specs.Entered.{is_shared_by, wanted_process}
use Rattle.start_plan.proofs.Enterings.{all_units}
use Rattle.start_plan.proofs.Hosts.{entered_keeps}
use Rattle.start_plan.proofs.Keeps.{Keeps, keeps_all}
use Rattle.scm_rules.specs.Launches.{first_wanted, is_taken, launch_taken, process_of, taken_if}
use Rattle.scm_rules.specs.Steps.{step_of}
use Rattle.scm_runs.proofs.Lists.{find_more}
use Rattle.scm_runs.proofs.Processes.{first_there, taken_found}
use Rattle.scm_runs.proofs.Sound.{Sound}
use Rattle.scm_model.specs.Found.{if_found}
use Rattle.scm_runs.proofs.Frames.{finished_keeps}
use Rattle.start_plan.specs.Settle.{settled}

pub taken_listed : (found : Option Process) → is_taken found ≡ true → is_some found ≡ true
taken_listed None taken = absurd cc
taken_listed (Some row) taken = refl

abbrev IsTaken : ℕ → Flat → Type 0
IsTaken number f = is_taken (process_of f number) ≡ true

-- processes that come later leave it as it is
stays_taken : (l : Limits) (number : ℕ) → Keeps l (IsTaken number) (λ plan. Unit {0})
stays_taken l number = record {
  enters = λ f plan service words entry taken. entered_keeps (IsTaken number) f service words
      (λ none. ap is_taken (find_more (λ (row : Process). row.number == number) f.processes
      (wanted_process f.next.process service (is_shared_by (service_of f service)) ∷ [])
      (taken_listed (process_of f number) taken)) ∙ taken) (λ process is. taken);
  tries = λ f plan service entry q. tt;
  drops = λ plan service rest code q. tt;
  meets = λ plan services q. tt;
}

-- after LaunchTaken the process that was wanted first is in hand
pub taken_is_listed : (l : Limits) (f : Flat) (moment number : ℕ) → Sound f → first_wanted f.wanted ≡ Some number
    → is_taken (process_of (step_of l f moment LaunchTaken).flat number) ≡ true
taken_is_listed l f moment number s first =
    let done = launch_taken (with_moment f moment) in
    let taken : IsTaken number done.flat = subst (λ found. is_taken (find (λ (row : Process). row.number == number)
    (if_found (λ process. map (taken_if process)) found f.processes)) ≡ true) (sym first)
    (taken_found number f.processes (first_there f.wanted f.processes number s.processes.wanted first)) in
    finished_keeps (IsTaken number) (λ g plans is. is) (settled l done.flat) done.answer
    (keeps_all l (IsTaken number) (λ plan. Unit {0}) (stays_taken l number) done.flat done.flat.plans taken
    (all_units done.flat.plans)).flat
