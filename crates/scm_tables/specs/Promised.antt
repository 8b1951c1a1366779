-- The rooms that stay while room is made for something else.
use Rattle.std.specs.Prelude.{◌≤◌, length}
use Rattle.scm_tables.specs.Tabled.{Tabled}

-- no room that may have been promised gets smaller; those of plans without a caller only where they are too small for the services
pub record KeepsRooms (old new : Tabled) : Type 0 where
  pub services : old.spare.services ≤ new.spare.services
  pub handles : old.spare.handles ≤ new.spare.handles
  pub callers : old.spare.callers ≤ new.spare.callers
  pub registrations : 1 ≤ old.spare.registrations → 1 ≤ new.spare.registrations  -- a room is of one
  pub plans : old.spare.plans ≤ new.spare.plans
  pub dues : old.spare.dues ≤ new.spare.dues
  pub tried : old.spare.tried ≤ new.spare.tried
  pub starts : length old.flat.services ≤ old.spare.entries → old.spare.starts ≤ new.spare.starts
  pub entries : old.spare.entries ≤ new.spare.entries
  pub commands : old.spare.commands ≤ new.spare.commands
