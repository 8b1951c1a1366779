-- Whether what a service needs is there, read from the flat state.
use Rattle.std.specs.Prelude.{ℕ, Bool, false, not, ◌&&◌, ◌==◌, List, [], Option, None, Some}
use Rattle.std.specs.List.{list_any, list_all}
use Rattle.scm_model.specs.declared.flat.Flat.{Flat}
use Rattle.scm_model.specs.declared.flat.Service.{Service}
use Rattle.scm_model.specs.declared.flat.Need.{Need}
use Rattle.scm_model.specs.declared.flat.Need.TheVariants as needs
use Rattle.scm_model.specs.Rows.{members, named, service_of}
use Rattle.scm_model.specs.declared.codes.TheConstants.{SERVICE_RUNNING}

abbrev pub state_in : Option Service → ℕ
state_in None = 0
state_in (Some row) = row.status.state

-- the state of a service, or 0 where it has gone
abbrev pub state_of : Flat → ℕ → ℕ
state_of f number = state_in (service_of f number)

abbrev pub service_needs : Option Service → List Need
service_needs None = []
service_needs (Some row) = row.config.needs

-- what a service is configured to need
abbrev pub configured_needs : Flat → ℕ → List Need
configured_needs f number = service_needs (service_of f number)

abbrev pub is_running : Service → Bool
is_running row = row.status.state == SERVICE_RUNNING

-- a service that is needed by name is there, unmarked and RUNNING
abbrev pub is_up : Option Service → Bool
is_up None = false
is_up (Some row) = not row.marked && is_running row

-- a group that is needed has a RUNNING member
abbrev pub is_fulfilled : Flat → Need → Bool
is_fulfilled f (needs.Service name) = is_up (named f name)
is_fulfilled f (needs.Group group) = list_any is_running (members f group)

abbrev pub is_ready : Flat → Service → Bool
is_ready f row = list_all (is_fulfilled f) row.config.needs
