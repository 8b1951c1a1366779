-- What is due takes place.
use Rattle.std.specs.Prelude.{ℕ, Bool, false, true, not, ◌&&◌, ◌==◌, ◌+◌, ◌-◌, ◌^◌, ◌++◌, min, nat_lt, zero, suc, List, [], ◌∷◌, filter}
use Rattle.std.specs.Prelude.{length}
use Rattle.std.specs.Prelude.{if◌then◌else◌}
use Rattle.scm_model.specs.declared.flat.Due.{Due}
use Rattle.scm_model.specs.declared.flat.DueKind.{DueKind}
use Rattle.scm_model.specs.declared.flat.DueKind.TheVariants as dues
use Rattle.scm_model.specs.declared.flat.Flat.{Flat}
use Rattle.scm_model.specs.declared.flat.Limits.{Limits}
use Rattle.scm_model.specs.declared.flat.Service.{Service}
use Rattle.scm_model.specs.declared.flat.Wanted.{Wanted}
use Rattle.scm_model.specs.declared.codes.TheConstants.{ERROR_SERVICE_REQUEST_TIMEOUT, SERVICE_DISABLED, SERVICE_STOPPED}
use Rattle.scm_model.specs.Found.{if_found}
use Rattle.scm_model.specs.Rows.{service_of}
use Rattle.start_plan.specs.Decided.{decided_in, is_numbered, is_target}
use Rattle.start_plan.specs.Entered.{wanted_process}
use Rattle.scm_rules.specs.Due.{next_due}
use Rattle.scm_rules.specs.Start.{with_start}

-- ## Starts that no caller asks for

-- whether a service can be started now: it is unmarked, STOPPED and not disabled, and no undecided plan has it as its target
abbrev pub can_start : Flat → Service → Bool
can_start f row =
    not row.marked && row.status.state == SERVICE_STOPPED && not (row.config.start == SERVICE_DISABLED)
    && not (is_target f.plans row.number)

-- a plan without a caller begins, where the service can be started
abbrev pub with_restart : Service → Flat → Flat
with_restart row f = if can_start f row then with_start 0 [] row f else f

-- ## Commands

-- the launch of a command, which is its one word
abbrev pub wanted_command : ℕ → List ℕ → Wanted
wanted_command process command = record { process = process; command = true; words = command ∷ [] }

-- a process of no service, which is to be launched
abbrev pub with_wanted_command : List ℕ → Flat → Flat
with_wanted_command command f = record f {
  processes = f.processes ++ wanted_process f.next.process 0 false ∷ [];
  wanted = f.wanted ++ wanted_command f.next.process command ∷ [];
  next = record f.next { process = f.next.process + 1 };
}

-- whether a service has a command, and a process more may be listed
abbrev pub can_run : Limits → Flat → Service → Bool
can_run l f row = not (length row.config.command == 0) && nat_lt (length f.processes) l.processes

abbrev pub with_command : Limits → Service → Flat → Flat
with_command l row f = if can_run l f row then with_wanted_command row.config.command f else f

-- ## Rows that are due

-- a plan is given up whose deadline comes
abbrev pub with_expired : ℕ → Flat → Flat
with_expired plan f = record f { plans = decided_in (is_numbered plan) ERROR_SERVICE_REQUEST_TIMEOUT f.plans }

-- a reboot is only counted, as far as numbers go
abbrev pub with_reboot : Flat → Flat
with_reboot f = record f { reboots = min (f.reboots + 1) (2 ^ 64 - 1) }

-- what a row does once it is due; a start or a command of a service that has gone is dropped
abbrev pub fire : Limits → DueKind → Flat → Flat
fire l (dues.Deadline plan) f = with_expired plan f
fire l (dues.Start service) f = if_found with_restart (service_of f service) f
fire l (dues.Command service) f = if_found (with_command l) (service_of f service) f
fire l (dues.Reboot service) f = with_reboot f

abbrev pub without_due : ℕ → Flat → Flat
without_due number f = record f { dues = filter (λ (due : Due). not (due.number == number)) f.dues }

-- the row leaves, and does what it does
abbrev pub fired : Limits → Due → Flat → Flat
fired l row f = fire l row.kind (without_due row.number f)

-- the row that is due first takes place, if one is due
abbrev pub first_run : Limits → Flat → Flat
first_run l f = if_found (fired l) (next_due f) f

-- so many times
abbrev pub all_fired : Limits → ℕ → Flat → Flat
all_fired l zero f = f
all_fired l (suc more) f = all_fired l more (first_run l f)

-- the rows that are due take place in the order in which they became due, until none is: each row brings one more at most, a deadline, and
-- a deadline none
abbrev pub ticked : Limits → Flat → Flat
ticked l f = all_fired l (length f.dues + length f.dues) f
