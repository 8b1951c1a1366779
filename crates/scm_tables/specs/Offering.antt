-- Services that live in shared processes.
use Rattle.std.specs.Prelude.{ℕ, Bool, false, ◌&&◌, ◌==◌, List, Option, None, Some, find, if◌then◌else◌, nat_lt}
use Rattle.std.specs.Cmp.Lexicographic.{pointwise}
use Rattle.std.specs.List.{list_any}
use Rattle.scm_model.specs.declared.flat.Process.{Process}
use Rattle.scm_model.specs.declared.flat.Service.{Service}
use Rattle.scm_model.specs.Processes.{is_by, is_shared}
use Rattle.start_plan.specs.Hosts.{is_sharing}

-- whether a service shares its process with those of a path
abbrev pub shares_path : List ℕ → Service → Bool
shares_path path row = is_sharing row && pointwise ◌==◌ row.config.path path

-- the same of the service that was found
abbrev pub shares_in : List ℕ → Option Service → Bool
shares_in path None = false
shares_in path (Some row) = shares_path path row

-- whether a service lives in this process, which is shared
abbrev pub lives_in : Process → Service → Bool
lives_in process row = process.shared && is_by process.number row

-- whether a service lives in a shared one of some processes
abbrev pub lives_among : List Process → Service → Bool
lives_among processes row = list_any (λ (process : Process). lives_in process row) processes

-- whether a service lives in one of some processes that others of this path may enter
abbrev pub offers_among : List Process → List ℕ → Service → Bool
offers_among processes path row =
    shares_path path row && is_shared (find (λ (process : Process). process.number == row.process) processes)

-- the one of two services that has the lesser number
abbrev pub earlier : Option Service → Option Service → Option Service
earlier None other = other
earlier (Some row) None = Some row
earlier (Some row) (Some other) = if nat_lt other.number row.number then Some other else Some row
