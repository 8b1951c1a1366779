-- The states that a manager begins in.
use Rattle.std.specs.Prelude.{ℕ, ◌≡◌, ◌≤◌, ◌+◌, false, List, [], ◌∷◌, None, All, AllPairs, length, if◌then◌else◌}
use Rattle.scm_text.specs.Fold.{same_text}
use Rattle.scm_model.specs.declared.flat.Config.{Config}
use Rattle.scm_model.specs.declared.flat.Due.{Due}
use Rattle.scm_model.specs.declared.flat.DueKind.TheVariants as dues
use Rattle.scm_model.specs.declared.flat.Flat.{Flat}
use Rattle.scm_model.specs.declared.flat.Limits.{Limits}
use Rattle.scm_model.specs.declared.flat.Service.{Service}
use Rattle.scm_model.specs.Changes.{new_service}
use Rattle.scm_model.specs.Needs.{needs_of}
use Rattle.scm_model.specs.Walks.{IsAcyclic}
use Rattle.service_record.specs.Checks.{check_new}
use Rattle.start_triggers.specs.Order.{auto_rows}
use Rattle.scm_rules.specs.Create.{new_status}
use Rattle.scm_rules.specs.Failures.{moment_after}
use Rattle.scm_rules.specs.Needs.{need_rows}

-- no service, no caller, and every number still to be given
abbrev pub empty_at : ℕ → Flat
empty_at moment = record {
  services = [];
  handles = [];
  processes = [];
  wanted = [];
  plans = [];
  registrations = [];
  dues = [];
  callers = [];
  lock = None;
  moment = moment;
  next = record { service = 1; handle = 1; process = 1; plan = 1; registration = 1; due = 1; caller = 1 };
  reboots = 0;
}

-- the moment at which a service starts by itself, which begins with an opening
abbrev pub automatic_at : ℕ → Service → ℕ
automatic_at moment row = if row.config.delayed then moment_after moment 120000 else moment

-- a start that becomes due for each of some services, in order, with numbers from this one on
abbrev pub starts_from : ℕ → ℕ → List Service → List Due
starts_from number moment [] = []
starts_from number moment (row ∷ rows) =
    record { moment = automatic_at moment row; number = number; kind = dues.Start row.number } ∷ starts_from (number + 1) moment rows

-- a service that never ran for each configuration, in order, with numbers from this one on
abbrev pub services_from : ℕ → List Config → List Service
services_from number [] = []
services_from number (config ∷ configs) = new_service number config (new_status config.kind) ∷ services_from (number + 1) configs

-- the starts of the services that start by themselves: those of the listed groups first
abbrev pub automatic_starts : List (List ℕ) → List Config → ℕ → List Due
automatic_starts groups configs moment = starts_from 1 moment (auto_rows (services_from 1 configs) groups)

-- the services are numbered from 1
abbrev pub opening : Limits → List (List ℕ) → List Config → ℕ → Flat
opening l groups configs moment = record (empty_at moment) {
  services = services_from 1 configs;
  dues = automatic_starts groups configs moment;
  next = record (empty_at moment).next { service = length configs + 1; due = length (automatic_starts groups configs moment) + 1 };
}

-- configurations that a manager can begin with: as many as there may be, no two with a name or a display name in common, each accepted,
-- with needs that have no cycle
pub record CanOpen (l : Limits) (configs : List Config) : Type 0 where
  pub few : length configs ≤ l.services
  pub names : AllPairs (λ (a b : Config). same_text a.name b.name ≡ false) configs
  pub displays : AllPairs (λ (a b : Config). same_text a.display b.display ≡ false) configs
  pub checked : All (λ (config : Config). check_new config None ≡ 0) configs
  pub acyclic : IsAcyclic (needs_of (need_rows (services_from 1 configs)))

-- a state that a manager begins in
pub record IsOpening (l : Limits) (f : Flat) : Type 0 where
  pub groups : List (List ℕ)
  pub configs : List Config
  pub moment : ℕ
  pub can : CanOpen l configs
  pub is : f ≡ opening l groups configs moment
