-- Failures and reports, a part at a time.
use Rattle.std.specs.Prelude.{ℕ, Bool, false, ◌==◌, Option, None, Some, map, if◌then◌else◌}
use Rattle.failure_actions.specs.Failing.{on_failure}
use Rattle.scm_model.specs.declared.flat.Flat.{Flat}
use Rattle.scm_model.specs.declared.flat.Service.{Service}
use Rattle.scm_model.specs.declared.flat.Status.{Status}
use Rattle.scm_model.specs.Found.{if_found}
use Rattle.scm_rules.specs.Failures.{counted_if, with_action}
use Rattle.scm_model.specs.Notices.{notified_of_move}
use Rattle.status_machine.specs.Moves.{takes}
use Rattle.scm_rules.specs.Launches.{fallen}
use Rattle.scm_rules.specs.Reports.{notified_of_report, released_by, reported_in}
use Rattle.scm_tables.specs.declared.failing.Failed.{Failed}

-- what a failure of a service at a moment results in
abbrev pub failed_at : ℕ → Service → Failed
failed_at moment row = record { number = row.number; action = (on_failure row.config row.failures row.last_failure moment).action }

-- a service that failed is counted so, and what is to be done becomes due
abbrev pub with_failed : Failed → Flat → Flat
with_failed failed f = if_found (with_action failed.number) failed.action
    (record f { services = map (counted_if failed.number f.moment) f.services })

-- ## Falls

-- the service with this number falls
abbrev pub fallen_at : ℕ → ℕ → Service → Service
fallen_at number code row = if row.number == number then fallen code row else row

-- a service falls, and registrations are notified of it
abbrev pub with_one_fallen : Flat → ℕ → Service → Flat
with_one_fallen f code row = record f {
  services = map (fallen_at row.number code) f.services;
  registrations = notified_of_move 0 row (fallen code row) f.registrations;
}

-- ## Reports

-- whether a service is there and takes a report
abbrev pub is_taken_by : Status → Option Service → Bool
is_taken_by report None = false
is_taken_by report (Some row) = takes row.status report

-- the service, if there is one, takes a report of its current process, whether or not that is a failure
abbrev pub taken_by_service : Flat → Option Service → Status → Flat
taken_by_service f service report = record f {
  services = reported_in report service f.services;
  processes = if_found (released_by report) service f.processes;
  registrations = notified_of_report f.processes report service f.registrations;
}
