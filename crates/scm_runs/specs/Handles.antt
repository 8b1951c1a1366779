-- What is always true of handles.
use Rattle.std.specs.Prelude.{ℕ, ◌≡◌, ◌≢◌, ◌≤◌, ◌⊎◌, true, false, not, ◌==◌, ◌&&◌, IsTrue, IfSome, All, Contains}
use Rattle.std.specs.List.{list_any}
use Rattle.scm_model.specs.declared.flat.Flat.{Flat}
use Rattle.scm_model.specs.declared.flat.Limits.{Limits}
use Rattle.scm_model.specs.declared.flat.HandleRow.{HandleRow}
use Rattle.scm_model.specs.declared.flat.HandleKind.{HandleKind}
use Rattle.scm_model.specs.declared.flat.HandleKind.TheVariants as kinds
use Rattle.scm_model.specs.declared.flat.LockRow.{LockRow}
use Rattle.scm_model.specs.declared.flat.Plan.{Plan}
use Rattle.scm_model.specs.declared.flat.Principal.{Principal}
use Rattle.scm_model.specs.declared.flat.Registration.{Registration}
use Rattle.scm_model.specs.declared.steps.Answer.{Answer}
use Rattle.scm_model.specs.declared.steps.Step.{Step}
use Rattle.scm_model.specs.declared.steps.Step.TheVariants.{Gone}
use Rattle.scm_model.specs.Rows.{principal_of}
use Rattle.access_mask.specs.Granted.{rights_of}
use Rattle.scm_model.specs.Entries.{Entry}
use Rattle.scm_rules.specs.Valid.{AreNumbered}
use Rattle.scm_text.specs.Numbers.{has_bits}

-- a mask has only rights that the principal can have on what the handle is of; other handles have none
abbrev pub AreRights : Principal → HandleKind → ℕ → Type 0
AreRights principal kinds.Manager granted = has_bits (rights_of principal true) granted ≡ true
AreRights principal (kinds.Service number) granted = has_bits (rights_of principal false) granted ≡ true
AreRights principal kinds.Lock granted = granted ≡ 0
AreRights principal (kinds.Notify number) granted = granted ≡ 0

abbrev pub HasRights : Flat → HandleRow → Type 0
HasRights f row = AreRights (principal_of f row.caller) row.kind row.granted

-- a handle stood before, or has a number that none was given
abbrev pub StoodOrIsNew : Flat → HandleRow → Type 0
StoodOrIsNew before row = Contains before.handles row ⊎ (before.next.handle ≤ row.number)

-- the lock is held by a handle that is there, of another caller
abbrev pub IsHeldByAnother : ℕ → Flat → LockRow → Type 0
IsHeldByAnother caller f held = IsTrue (list_any (λ (row : HandleRow). row.number == held.handle && not (row.caller == caller)) f.handles)

-- nothing is the caller's, and where the lock is held, it is another's
pub record HoldsNothing (caller : ℕ) (f : Flat) : Type 0 where
  pub handles : All (λ (row : HandleRow). row.caller ≢ caller) f.handles
  pub registrations : All (λ (row : Registration). row.caller ≢ caller) f.registrations
  pub plans : All (λ (row : Plan). row.caller ≢ caller) f.plans
  pub lock : IfSome f.lock (IsHeldByAnother caller f)

-- once a caller is gone it has nothing
abbrev pub LeavesNothing : Step → Flat → Type 0
LeavesNothing (Gone caller) after = HoldsNothing caller after
LeavesNothing step after = Unit {0}

-- each number is given once, and none is given again; each mask lies in the rights of its caller's principal; who is gone has nothing
pub record LawOfHandles (l : Limits) (before : Flat) (e : Entry) (told : Answer) (after : Flat) : Type 0 where
  pub numbered : AreNumbered (λ (row : HandleRow). row.number) after.next.handle after.handles
  pub once : All (StoodOrIsNew before) after.handles
  pub rising : before.next.handle ≤ after.next.handle
  pub rights : All (HasRights after) after.handles
  pub gone : LeavesNothing e.1 after
