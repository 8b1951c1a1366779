-- What changes make of a service.
use Rattle.std.specs.Prelude.{ℕ, ◌==◌, false, true, if◌then◌else◌}
use Rattle.failure_actions.specs.Failing.{on_failure}
use Rattle.scm_model.specs.declared.codes.TheConstants.{SERVICE_STOPPED}
use Rattle.scm_model.specs.declared.flat.Service.{Service}
use Rattle.start_plan.specs.Entered.{starting_in}

abbrev pub marked : Service → Service
marked row = record row { marked = true }

-- its status has another type
abbrev pub typed : ℕ → Service → Service
typed kind row = record row { status = record row.status { kind = kind } }

-- it is START_PENDING where it was STOPPED
abbrev pub started : ℕ → Service → Service
started process row = if row.status.state == SERVICE_STOPPED then starting_in process row else row

-- it is in the state of another, by the same process, which is asked the same
abbrev pub running_as : Service → Service → Service
running_as other row = record row { status = other.status; process = other.process; asked = other.asked }

-- it isn't asked to start any more
abbrev pub unasked : Service → Service
unasked row = record row { asked = false }

-- a failure at a moment is counted
abbrev pub failure_counted : ℕ → Service → Service
failure_counted moment row = record row {
  failures = (on_failure row.config row.failures row.last_failure moment).failures;
  last_failure = moment;
}
