-- Limits that have room for the list.
use Rattle.std.specs.Prelude.{◌≤◌, ◌^◌}
use Rattle.scm_model.specs.declared.flat.Limits.{Limits}

-- room for 512 services with a handle of each and one of the manager, for the ten processes of a start at most, and for the steps of
-- such a list and their text
pub record IsAmple (limits : Limits) : Type 0 where
  pub services : 512 ≤ limits.services
  pub handles : 513 ≤ limits.handles
  pub callers : 1 ≤ limits.callers
  pub processes : 10 ≤ limits.processes
  pub steps : 2 ^ 20 ≤ limits.steps
  pub text : 2 ^ 18 ≤ limits.text
