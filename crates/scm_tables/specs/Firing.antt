-- What rows that are due take, and the room for it.
use Rattle.std.specs.Prelude.{ℕ, Bool, true, false, ◌≤◌, ◌+◌, ◌^◌, List, [], Option, None, Some, filter, length, if◌then◌else◌}
use Rattle.scm_model.specs.declared.flat.Due.{Due}
use Rattle.scm_model.specs.declared.flat.DueKind.{DueKind}
use Rattle.scm_model.specs.declared.flat.DueKind.TheVariants as dues
use Rattle.scm_model.specs.declared.flat.Flat.{Flat}
use Rattle.scm_model.specs.declared.flat.Limits.{Limits}
use Rattle.scm_model.specs.declared.flat.Service.{Service}
use Rattle.scm_rules.specs.Needs.{start_order}
use Rattle.scm_rules.specs.Start.{new_plan, with_plan}
use Rattle.scm_rules.specs.Ticks.{can_run, can_start, without_due}
use Rattle.start_plan.specs.Entered.{HasNumbers}
use Rattle.scm_tables.specs.Tabled.{Tabled}

-- ## What they take

abbrev pub begins_plan : DueKind → Bool
begins_plan (dues.Deadline plan) = false
begins_plan (dues.Start service) = true
begins_plan (dues.Command service) = false
begins_plan (dues.Reboot service) = false

abbrev pub runs_command : DueKind → Bool
runs_command (dues.Deadline plan) = false
runs_command (dues.Start service) = false
runs_command (dues.Command service) = true
runs_command (dues.Reboot service) = false

abbrev pub one_if : Bool → ℕ
one_if b = if b then 1 else 0

-- how many rows are starts
abbrev pub starts_in : List Due → ℕ
starts_in rows = length (filter (λ (due : Due). begins_plan due.kind) rows)

-- how many rows are commands
abbrev pub commands_in : List Due → ℕ
commands_in rows = length (filter (λ (due : Due). runs_command due.kind) rows)

-- ## Room

-- there is room for so many plans without a caller, each of which may go by all services
pub record HasStarts (count : ℕ) (t : Tabled) : Type 0 where
  pub starts : count ≤ t.spare.starts
  pub plans : count ≤ t.spare.plans
  pub dues : count ≤ t.spare.dues
  pub entries : length t.flat.services ≤ t.spare.entries

-- there is room for all that is due or will be
pub record HasFires (t : Tabled) : Type 0 where
  pub starts : HasStarts (starts_in t.flat.dues) t
  pub commands : commands_in t.flat.dues ≤ t.spare.commands

-- there are numbers for so many plans and their deadlines
pub record HasPlanNumbers (count : ℕ) (f : Flat) : Type 0 where
  pub plans : f.next.plan + count ≤ 2 ^ 63
  pub dues : f.next.due + count ≤ 2 ^ 63

-- ## Starts

-- the number of a service that can be started
abbrev pub startable : Flat → Service → Option ℕ
startable f row = if can_start f row then Some row.number else None

-- whether a service is there whose command can be launched
abbrev pub runs : Limits → Flat → Option Service → Bool
runs l f None = false
runs l f (Some row) = can_run l f row

-- a plan without a caller begins
abbrev pub with_begun : ℕ → Flat → Flat
with_begun target f = with_plan f (new_plan f 0 target (start_order f target) [])

-- ## Rows that take place

-- a row that is due has left
abbrev pub without_fired : Due → Flat → Flat
without_fired row f = without_due row.number f

-- all rows can take place: there is room and there are numbers
pub record CanFire (t : Tabled) : Type 0 where
  pub room : HasFires t
  pub numbers : HasPlanNumbers (starts_in t.flat.dues) t.flat
  pub processes : HasNumbers t.limits t.flat

-- so can one that has left beside those that are listed
pub record CanFireOne (kind : DueKind) (t : Tabled) : Type 0 where
  pub starts : HasStarts (starts_in t.flat.dues + one_if (begins_plan kind)) t
  pub commands : commands_in t.flat.dues + one_if (runs_command kind) ≤ t.spare.commands
  pub numbers : HasPlanNumbers (starts_in t.flat.dues + one_if (begins_plan kind)) t.flat
  pub processes : HasNumbers t.limits t.flat
