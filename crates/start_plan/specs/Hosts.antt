-- Processes that a service may live in beside others.
use Rattle.std.specs.Prelude.{ℕ, Bool, false, ◌&&◌, ◌==◌, List, Option, None, Some, find, option_map, if◌then◌else◌}
use Rattle.std.specs.Cmp.Lexicographic.{pointwise}
use Rattle.scm_model.specs.declared.flat.Flat.{Flat}
use Rattle.scm_model.specs.declared.flat.Service.{Service}
use Rattle.scm_model.specs.Processes.{is_launched, is_shared, process_of}
use Rattle.scm_model.specs.Rows.{service_of}
use Rattle.scm_model.specs.declared.codes.TheConstants.{SERVICE_WIN32_SHARE_PROCESS}

-- whether a service shares its process with others of its path
abbrev pub is_sharing : Service → Bool
is_sharing row = row.config.kind == SERVICE_WIN32_SHARE_PROCESS

-- whether a service lives in a process that other services of this path may enter
abbrev pub offers : Flat → List ℕ → Service → Bool
offers f path row = is_sharing row && pointwise ◌==◌ row.config.path path && is_shared (process_of f row.process)

-- the process that a service enters in place of a new one: the shared one of the first service with its path
abbrev pub host_at : Flat → Option Service → Option ℕ
host_at f None = None
host_at f (Some row) =
    if is_sharing row then option_map (λ (other : Service). other.process) (find (offers f row.config.path) f.services) else None

abbrev pub host : Flat → ℕ → Option ℕ
host f service = host_at f (service_of f service)

-- whether there is a host, and it was launched
abbrev pub is_launched_at : Flat → Option ℕ → Bool
is_launched_at f None = false
is_launched_at f (Some process) = is_launched (process_of f process)

-- whether a service's process is launched once it is entered
abbrev pub enters_launched : Flat → ℕ → Bool
enters_launched f service = is_launched_at f (host f service)
