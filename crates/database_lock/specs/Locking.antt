-- The lock of the database: at most one handle holds it.
use Rattle.std.specs.Prelude.{ℕ, Bool, false, ◌==◌, Option, None, Some, Result, Ok, Err, if◌then◌else◌}
use Rattle.scm_model.specs.declared.codes.TheConstants.{ERROR_INVALID_SERVICE_LOCK, ERROR_SERVICE_DATABASE_LOCKED}
use Rattle.scm_model.specs.declared.flat.LockRow.{LockRow}

abbrev pub is_held_by : ℕ → Option LockRow → Bool
is_held_by handle None = false
is_held_by handle (Some row) = row.handle == handle

-- only a free lock is taken
abbrev pub lock_answer : Option LockRow → Result (Unit {0}) ℕ
lock_answer None = Ok tt
lock_answer (Some row) = Err ERROR_SERVICE_DATABASE_LOCKED

abbrev pub locked : Option LockRow → ℕ → ℕ → Option LockRow
locked None handle moment = Some (record { handle = handle; since = moment })
locked (Some row) handle moment = Some row

-- only who holds it gives it back
abbrev pub unlock_answer : Option LockRow → ℕ → Result (Unit {0}) ℕ
unlock_answer held handle = if is_held_by handle held then Ok tt else Err ERROR_INVALID_SERVICE_LOCK

abbrev pub unlocked : Option LockRow → ℕ → Option LockRow
unlocked held handle = if is_held_by handle held then None else held
