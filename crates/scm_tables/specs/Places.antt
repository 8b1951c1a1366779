-- The places in the list of what becomes due: each service has one, beside the rows that are of no service.
use Rattle.std.specs.Prelude.{ℕ, not, ◌+◌, ◌≤◌, List, filter, length}
use Rattle.std.specs.List.{list_any}
use Rattle.scm_model.specs.declared.flat.Due.{Due}
use Rattle.scm_model.specs.declared.flat.Service.{Service}
use Rattle.scm_model.specs.declared.flat.Plan.{Plan}
use Rattle.due_list.specs.Dues.{Dues}
use Rattle.scm_rules.specs.Due.{is_due_of}
use Rattle.start_plan.specs.Settle.{is_due_still}

-- the rows that are of no service that is there: deadlines, and those of services that have gone
abbrev pub strays : List Service → List Due → List Due
strays services rows = filter (λ (due : Due). not (list_any (λ (row : Service). is_due_of row.number due.kind) services)) rows

-- how many places are taken or kept for services
abbrev pub places : List Service → List Due → ℕ
places services rows = length services + length (strays services rows)

-- a service has one row at most, and finds a place where it has none
pub record HasPlaces (services : List Service) (rows : List Due) (capacity : ℕ) : Type 0 where
  pub one : (number : ℕ) → length (filter (λ (due : Due). is_due_of number due.kind) rows) ≤ 1
  pub fit : places services rows ≤ capacity

-- without the deadlines of plans that are decided or gone
abbrev pub still_due : List Plan → Dues → Dues
still_due plans d = record d { rows = filter (λ (due : Due). is_due_still plans due.kind) d.rows }
