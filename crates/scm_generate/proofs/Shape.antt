-- How the state stands while the list is made.
use Rattle.std.proofs.Common.{ℕ, ◌≡◌, ◌+◌, false, List, [], ◌∷◌, None, refl}
use Rattle.scm_model.specs.declared.flat.Caller.{Caller}
use Rattle.scm_model.specs.declared.flat.Due.{Due}
use Rattle.scm_model.specs.declared.flat.Flat.{Flat}
use Rattle.scm_model.specs.declared.flat.HandleKind.TheVariants as kinds
use Rattle.scm_model.specs.declared.flat.HandleRow.{HandleRow}
use Rattle.scm_model.specs.declared.flat.NeedRow.{NeedRow}
use Rattle.scm_model.specs.declared.flat.Next.{Next}
use Rattle.scm_model.specs.declared.flat.Plan.{Plan}
use Rattle.scm_model.specs.declared.flat.Principal.TheVariants.{Admin}
use Rattle.scm_model.specs.declared.flat.Process.{Process}
use Rattle.scm_model.specs.declared.flat.Service.{Service}
use Rattle.scm_model.specs.declared.flat.Status.{Status}
use Rattle.scm_model.specs.declared.flat.Wanted.{Wanted}
use Rattle.scm_rules.specs.Needs.{need_row, need_row_of, need_rows}
use Rattle.scm_generate.proofs.Built.{built, map_built}
use Rattle.scm_generate.proofs.Names.{config_at}

-- how a service stands, and its process
pub record Live : Type 0 where
  pub status : Status
  pub process : ℕ

abbrev pub row_at : ℕ → Live → Service
row_at i live = record {
  number = i;
  config = config_at i;
  status = live.status;
  marked = false;
  process = live.process;
  failures = 0;
  last_failure = 0;
  asked = false;
  security = [];
}

abbrev pub rows : (ℕ → Live) → ℕ → List Service
rows look n = built [] (λ k. row_at k (look k)) n

-- the manager's handle, and each service's
abbrev pub first_handle : HandleRow
first_handle = record { number = 1; caller = 1; kind = kinds.Manager; granted = 0xF003F }

abbrev pub handle_at : ℕ → HandleRow
handle_at k = record { number = k + 1; caller = 1; kind = kinds.Service k; granted = 0xF01FF }

abbrev pub handles_to : ℕ → List HandleRow
handles_to n = built (first_handle ∷ []) handle_at n

abbrev pub numbers_at : (n process plan due : ℕ) → Next
numbers_at n process plan due = record {
  service = n + 1;
  handle = n + 1
      + 1;
  process = process;
  plan = plan;
  registration = 1;
  due = due;
  caller = 2;
}

abbrev pub only_caller : Caller
only_caller = record { number = 1; principal = Admin }

abbrev pub standing : (n : ℕ) (look : ℕ → Live) (processes : List Process) (wanted : List Wanted) (plans : List Plan) (dues : List Due)
    (process plan due : ℕ) → Flat
standing n look processes wanted plans dues process plan due = record {
  services = rows look n;
  handles = handles_to n;
  processes = processes;
  wanted = wanted;
  plans = plans;
  registrations = [];
  dues = dues;
  callers = only_caller ∷ [];
  lock = None;
  moment = 0;
  next = numbers_at n process plan due;
  reboots = 0;
}

-- nothing is under way
abbrev pub resting : (n : ℕ) (look : ℕ → Live) (process plan due : ℕ) → Flat
resting n look process plan due = standing n look [] [] [] [] process plan due

-- ## The graph of needs

abbrev pub need_row_at : ℕ → NeedRow
need_row_at k = need_row_of k (config_at k)

abbrev pub graph : ℕ → List NeedRow
graph n = built [] need_row_at n

pub graph_is : (look : ℕ → Live) (n : ℕ) → need_rows (rows look n) ≡ graph n
graph_is look n = map_built need_row [] (λ k. row_at k (look k)) [] need_row_at n refl (λ k some lt. refl)
