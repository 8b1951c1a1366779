-- The owner of the lock is a short text.
use Rattle.std.proofs.Common.{◌<◌, ◌^◌, None, Option, Some, length, arith}
use Rattle.scm_model.specs.declared.flat.Flat.{Flat}
use Rattle.scm_model.specs.declared.flat.LockRow.{LockRow}
use Rattle.scm_model.specs.declared.flat.Principal.{Principal}
use Rattle.scm_model.specs.declared.flat.Principal.TheVariants.{Admin, User}
use Rattle.scm_rules.specs.Locks.{lock_owner, principal_name, owner_of}

short_name : (principal : Principal) → length (principal_name principal) < 2 ^ 16
short_name Admin = omega arith
short_name User = omega arith

short_of : (f : Flat) (lock : Option LockRow) → length (owner_of f lock) < 2 ^ 16
short_of f None = omega arith
short_of f (Some held) = short_name _

pub short_owner : (f : Flat) → length (lock_owner f) < 2 ^ 16
short_owner f = short_of f f.lock
