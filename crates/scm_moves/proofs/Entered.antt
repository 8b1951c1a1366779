-- Which services settling enters: STOPPED ones, with processes that are new or shared.
use Rattle.std.proofs.Common.{ℕ, ◌≡◌, ◌⊎◌, ◌∙◌, List, [], ◌∷◌, map, ap, sym, refl, arith, inl, inr}
use Rattle.std.specs.List.{AllZip}
use Rattle.scm_model.specs.declared.flat.Flat.{Flat}
use Rattle.scm_model.specs.declared.flat.Limits.{Limits}
use Rattle.scm_model.specs.declared.flat.Service.{Service}
use Rattle.start_plan.specs.Entered.{process_for, starting_in, started_if}
use Rattle.start_plan.specs.Hosting.{HasOwnOrHost}
use Rattle.start_plan.specs.Hosts.{host}
use Rattle.start_plan.specs.Settle.{settled}
use Rattle.start_plan.proofs.Hosting.{enters_its_host}
use Rattle.start_plan.proofs.Keeps.{Keeps, keeps_flat}
use Rattle.start_plan.proofs.Rows.{started_or}
use Rattle.scm_runs.proofs.Hosted.{have_none}
use Rattle.scm_runs.proofs.Sound.{Sound}
use Rattle.scm_runs.proofs.Starts.{is_once}

pub record IsEntered (before after : Service) : Type 0 where
  pub stopped : before.status.state ≡ 1
  pub entered : after ≡ starting_in after.process before

abbrev pub IsSettled : Service → Service → Type 0
IsSettled before after = (after ≡ before) ⊎ IsEntered before after

one_settled : (n process : ℕ) (before after : Service) → IsSettled before after → IsSettled before (started_if n process after)
one_settled n process before after (inl same) =
    started_or (IsSettled before) n process after
    (λ stopped. inr (record {
      stopped = ap (λ (r : Service). r.status.state) (sym same)
          ∙ stopped;
      entered = ap (starting_in process) same;
    })) (inl same)
one_settled n process before after (inr is) =
    started_or (IsSettled before) n process after
    (λ stopped. absurd (let pending : after.status.state ≡ 2 = ap (λ (r : Service). r.status.state) is.entered in omega arith)) (inr is)

all_settled : (n process : ℕ) (befores afters : List Service) → AllZip IsSettled befores afters
    → AllZip IsSettled befores (map (started_if n process) afters)
all_settled n process [] [] was = tt
all_settled n process [] (after ∷ afters) was = was
all_settled n process (before ∷ befores) [] was = was
all_settled n process (before ∷ befores) (after ∷ afters) was =
    (one_settled n process before after was.0, all_settled n process befores afters was.1)

as_before : (rows : List Service) → AllZip IsSettled rows rows
as_before [] = tt
as_before (row ∷ rows) = (inl refl, as_before rows)

grows : (l : Limits) (g : Flat) → Keeps l (λ (h : Flat). AllZip IsSettled g.services h.services) (λ plan. Unit {0})
grows l g = record {
  enters = λ h plan n words entry was. all_settled n (process_for h (host h n)) g.services h.services was;
  tries = λ h plan n entry q. tt;
  drops = λ plan n rest code q. tt;
  meets = λ plan services q. tt;
}

-- each service stays as it is, or is entered
pub rows_settled : (l : Limits) (g : Flat) → AllZip IsSettled g.services (settled l g).services
rows_settled l g = keeps_flat l (λ (h : Flat). AllZip IsSettled g.services h.services) (grows l g) g g.plans (as_before g.services)

-- by a process with a new number, or by its host
pub rows_hosted : (l : Limits) (g : Flat) → Sound g → AllZip (HasOwnOrHost g.next.process (settled l g)) g.services (settled l g).services
rows_hosted l g s = enters_its_host l g (is_once g.services s.services.numbered.rising) (have_none g s)
