-- RLockServiceDatabase, RUnlockServiceDatabase, RQueryServiceLockStatusW: the lock of the database.
use Rattle.std.specs.Prelude.{◌^◌, ◌-◌, ℕ, Bool, false, not, ◌+◌, ◌*◌, ◌/◌, ◌==◌, nat_le, nat_lt, codes, length, min, List, [], ◌∷◌, Option}
use Rattle.std.specs.Prelude.{None, Some, is_none, is_some, option_and_then, if◌then◌else◌}
use Rattle.scm_model.specs.declared.flat.Flat.{Flat}
use Rattle.scm_model.specs.declared.flat.HandleRow.{HandleRow}
use Rattle.scm_model.specs.declared.flat.HandleKind.TheVariants as kinds
use Rattle.scm_model.specs.declared.flat.Limits.{Limits}
use Rattle.scm_model.specs.declared.flat.LockRow.{LockRow}
use Rattle.scm_model.specs.declared.flat.Principal.{Principal}
use Rattle.scm_model.specs.declared.flat.Principal.TheVariants.{Admin, User}
use Rattle.scm_model.specs.declared.calls.Reply.{Reply}
use Rattle.scm_model.specs.declared.calls.Reply.TheVariants as reply
use Rattle.scm_model.specs.Rows.{caller_of, handle_of, held_by, is_lock, manager_mask, owner_at, principal_in}
use Rattle.scm_model.specs.Changes.{with_handle, without_handle}
use Rattle.scm_model.specs.Refused.{answered, first_refusal, outcome, Refusals}
use Rattle.scm_model.specs.Outcomes.{CallResult}
use Rattle.scm_model.specs.declared.codes.TheConstants.{ERROR_ACCESS_DENIED, ERROR_INSUFFICIENT_BUFFER, ERROR_INVALID_HANDLE}
use Rattle.scm_model.specs.declared.codes.TheConstants.{ERROR_INVALID_SERVICE_LOCK, ERROR_NOT_ENOUGH_QUOTA, ERROR_SERVICE_DATABASE_LOCKED}
use Rattle.scm_model.specs.declared.codes.TheConstants.{SC_MANAGER_LOCK, SC_MANAGER_QUERY_LOCK_STATUS}
use Rattle.database_lock.specs.Locking.{locked, unlocked}
use Rattle.scm_rules.specs.Rights.{manager_lacks}
use Rattle.scm_model.specs.declared.calls.Request.TheVariants as request

-- ## Lock

abbrev pub lock_refusals : Limits → Flat → ℕ → ℕ → Refusals
lock_refusals l f caller handle =
    (is_none (manager_mask f caller handle), ERROR_INVALID_HANDLE)
    ∷ (manager_lacks (manager_mask f caller handle) SC_MANAGER_LOCK, ERROR_ACCESS_DENIED)
    ∷ (is_some f.lock, ERROR_SERVICE_DATABASE_LOCKED)
    ∷ (nat_le l.handles (held_by f caller), ERROR_NOT_ENOUGH_QUOTA)
    ∷ []

abbrev pub lock_verdict : Limits → Flat → ℕ → ℕ → ℕ
lock_verdict l f caller handle = first_refusal (lock_refusals l f caller handle)

-- the lock is held by this handle from the present moment on
abbrev pub with_lock : Flat → ℕ → Flat
with_lock f handle = record f { lock = locked f.lock handle f.moment }

-- a new handle holds it
abbrev pub lock_done : Flat → ℕ → CallResult
lock_done f caller = record { reply = reply.Handle f.next.handle 0; flat = with_handle (with_lock f f.next.handle) caller kinds.Lock 0 }

abbrev pub lock_outcome : Limits → Flat → ℕ → ℕ → CallResult
lock_outcome l f caller handle = outcome (lock_verdict l f caller handle) (request.Lock handle) f (lock_done f caller)

-- ## Unlock

-- whether a handle that is there is the lock's
abbrev pub locks : Option HandleRow → Bool
locks None = false
locks (Some row) = is_lock row.kind

abbrev pub unlock_refusals : Flat → ℕ → ℕ → Refusals
unlock_refusals f caller handle = (not (locks (handle_of f caller handle)), ERROR_INVALID_SERVICE_LOCK) ∷ []

abbrev pub unlock_verdict : Flat → ℕ → ℕ → ℕ
unlock_verdict f caller handle = first_refusal (unlock_refusals f caller handle)

-- the lock is free if this handle held it
abbrev pub without_lock : Flat → ℕ → Flat
without_lock f handle = record f { lock = unlocked f.lock handle }

-- the handle leaves with it
abbrev pub unlock_done : Flat → ℕ → CallResult
unlock_done f handle = record { reply = reply.Handle 0 0; flat = without_handle (without_lock f handle) handle }

abbrev pub unlock_outcome : Flat → ℕ → ℕ → CallResult
unlock_outcome f caller handle = outcome (unlock_verdict f caller handle) (request.Unlock handle) f (unlock_done f handle)

-- ## QueryLock

abbrev pub principal_name : Principal → List ℕ
principal_name Admin = codes "admin"
principal_name User = codes "user"

-- who holds the lock: the name of the principal, or the empty text
abbrev pub owner_of : Flat → Option LockRow → List ℕ
owner_of f None = []
owner_of f (Some held) = principal_name (principal_in (option_and_then (caller_of f) (owner_at f.handles held)))

abbrev pub lock_owner : Flat → List ℕ
lock_owner f = owner_of f f.lock

abbrev pub is_held : Option LockRow → ℕ
is_held None = 0
is_held (Some held) = 1

-- for how many whole seconds it is held, as far as numbers go
abbrev pub seconds_held : ℕ → Option LockRow → ℕ
seconds_held moment None = 0
seconds_held moment (Some held) = min (2 ^ 32 - 1) ((moment - held.since) / 1000)

-- 12 bytes and the owner, with two bytes a unit and two for its zero
abbrev pub lock_size : List ℕ → ℕ
lock_size owner = 12 + 2 * (length owner + 1)

abbrev pub query_lock_refusals : Flat → ℕ → ℕ → ℕ → Refusals
query_lock_refusals f caller handle size =
    (is_none (manager_mask f caller handle), ERROR_INVALID_HANDLE)
    ∷ (manager_lacks (manager_mask f caller handle) SC_MANAGER_QUERY_LOCK_STATUS, ERROR_ACCESS_DENIED)
    ∷ (nat_lt size (lock_size (lock_owner f)), ERROR_INSUFFICIENT_BUFFER)
    ∷ []

abbrev pub query_lock_verdict : Flat → ℕ → ℕ → ℕ → ℕ
query_lock_verdict f caller handle size = first_refusal (query_lock_refusals f caller handle size)

-- if the size is too small, the reply has the size needed
abbrev pub query_lock_told : Flat → ℕ → Reply
query_lock_told f code = reply.LockState 0 None 0 (if code == ERROR_INSUFFICIENT_BUFFER then lock_size (lock_owner f) else 0) code

abbrev pub query_lock_done : Flat → CallResult
query_lock_done f = record {
  reply = reply.LockState (is_held f.lock) (Some (lock_owner f)) (seconds_held f.moment f.lock) (lock_size (lock_owner f)) 0;
  flat = f;
}

-- what the call is answered
abbrev pub query_lock_reply : Flat → ℕ → ℕ → ℕ → Reply
query_lock_reply f caller handle size =
    let code = query_lock_verdict f caller handle size in
    (answered code (query_lock_told f code) f (query_lock_done f)).reply
