-- The services of a manager that begins: one for each configuration, with numbers from 1 on, and none ever ran.
use Rattle.std.proofs.Common.{ℕ, zero, suc, ◌≡◌, ◌∙◌, ◌+◌, ◌<◌, ◌≤◌, not, List, [], ◌∷◌, filter, length, get_or, ap, sym, refl, subst}
use Rattle.std.proofs.Common.{arith}
use Rattle.std.specs.Prelude.{All, AllPairs}
use Rattle.scm_model.specs.declared.flat.Config.{Config}
use Rattle.scm_model.specs.declared.flat.HandleRow.{HandleRow}
use Rattle.scm_model.specs.declared.flat.Limits.{Limits}
use Rattle.scm_model.specs.declared.flat.Service.{Service}
use Rattle.scm_model.specs.Changes.{new_service}
use Rattle.scm_model.specs.Purge.{leaves}
use Rattle.scm_rules.specs.Create.{new_status}
use Rattle.scm_rules.specs.Opening.{CanOpen, services_from}
use Rattle.scm_rules.specs.Valid.{HasListed, IsAskedRight}
use Rattle.scm_rules.proofs.Secured.{opened_secured}
use Rattle.scm_runs.proofs.Rows.{AreOtherDisplays, AreOtherNames, AreServices, HasKind, IsChecked, IsStoppedWithout}

-- a service that never ran
abbrev pub fresh : ℕ → Config → Service
fresh number config = new_service number config (new_status config.kind)

pub as_many : (number : ℕ) (configs : List Config) → length (services_from number configs) ≡ length configs
as_many number [] = refl
as_many number (config ∷ configs) = let rest = as_many (number + 1) configs in omega (arith, rest)

row_at : (number : ℕ) (configs : List Config) (k : ℕ) (d : Service) → k < length configs
    → get_or (services_from number configs) k d ≡ fresh (number + k) (get_or configs k d.config)
row_at number [] k d lt = absurd (omega (arith, lt))
row_at number (config ∷ configs) zero d lt = ap (λ (n : ℕ). fresh n config) (omega arith)
row_at number (config ∷ configs) (suc k) d lt =
    row_at (number + 1) configs k d (omega (arith, lt)) ∙ ap (λ (n : ℕ). fresh n (get_or configs k d.config)) (omega arith)

-- what holds of each configuration's service holds of each service
pub each_opened : (P : Service → Type 0) (number : ℕ) (configs : List Config)
    → ((k : ℕ) (d : Config) → k < length configs → P (fresh (number + k) (get_or configs k d))) → All P (services_from number configs)
each_opened P number configs each k d lt =
    let many = as_many number configs in
    let within : k < length configs = omega (arith, lt, many) in
    subst P (sym (row_at number configs k d within)) (each k d.config within)

pub pairs_opened : (R : Service → Service → Type 0) (number : ℕ) (configs : List Config)
    → ((i j : ℕ) (d : Config) → i < j → j < length configs → R (fresh (number + i) (get_or configs i d))
    (fresh (number + j) (get_or configs j d))) → AllPairs R (services_from number configs)
pairs_opened R number configs each i j d lt within =
    let many = as_many number configs in
    let last : j < length configs = omega (arith, within, many) in
    let first : i < length configs = omega (arith, lt, last) in
    subst (λ (row : Service). R row (get_or (services_from number configs) j d)) (sym (row_at number configs i d first))
    (subst (λ (row : Service). R (fresh (number + i) (get_or configs i d.config)) row) (sym (row_at number configs j d last))
    (each i j d.config lt last))

pub opened_services : (l : Limits) (configs : List Config) → CanOpen l configs
    → AreServices (length configs + 1) 1 (services_from 1 configs)
opened_services l configs can = record {
  numbered = record {
    positive = each_opened (λ (row : Service). 1 ≤ row.number) 1 configs (λ k d lt. omega arith);
    below = each_opened (λ (row : Service). row.number < length configs + 1) 1 configs (λ k d lt. omega (arith, lt));
    rising = pairs_opened (λ (a b : Service). a.number < b.number) 1 configs (λ i j d lt within. omega (arith, lt));
  };
  first = omega arith;
  first_process = omega arith;
  names = pairs_opened AreOtherNames 1 configs can.names;
  displays = pairs_opened AreOtherDisplays 1 configs can.displays;
  configs = each_opened IsChecked 1 configs can.checked;
  kinds = each_opened HasKind 1 configs (λ k d lt. refl);
  stopped = each_opened IsStoppedWithout 1 configs (λ k d lt. refl);
  secured = opened_secured 1 configs;
  current = each_opened (λ (row : Service). row.process < 1) 1 configs (λ k d lt. omega arith);
  acyclic = can.acyclic;
}

pub opened_listed : (configs : List Config) → All (HasListed []) (services_from 1 configs)
opened_listed configs = each_opened (HasListed []) 1 configs (λ k d lt. refl)

pub opened_asked : (configs : List Config) → All (IsAskedRight []) (services_from 1 configs)
opened_asked configs = each_opened (IsAskedRight []) 1 configs (λ k d lt asked. absurd cc)

-- none is marked, so none is to leave
pub opened_stay : (handles : List HandleRow) (number : ℕ) (configs : List Config)
    → filter (λ (row : Service). not (leaves handles row)) (services_from number configs) ≡ services_from number configs
opened_stay handles number [] = refl
opened_stay handles number (config ∷ configs) = ap (λ (rows : List Service). fresh number config ∷ rows)
    (opened_stay handles (number + 1) configs)
