-- What is true of callers, handles and the lock, and what each change of them keeps.
use Rattle.std.proofs.Common.{ℕ, ◌≡◌, ◌∙◌, ◌+◌, ◌≤◌, ◌==◌, Bool, true, not, IsTrue, List, [], ◌∷◌, ◌++◌, Option, None, filter, find, get_or}
use Rattle.std.proofs.Common.{ap, sym, refl, subst, arith, eqb-true}
use Rattle.std.specs.Prelude.{All, is_some}
use Rattle.std.proofs.lemmas.List.Elements.{All-filter, All-push, filter_passes, All-nil}
use Rattle.scm_model.specs.declared.flat.Caller.{Caller}
use Rattle.scm_model.specs.declared.flat.HandleRow.{HandleRow}
use Rattle.scm_model.specs.declared.flat.LockRow.{LockRow}
use Rattle.scm_model.specs.declared.flat.Principal.{Principal}
use Rattle.scm_model.specs.Rows.{principal_in}
use Rattle.scm_model.specs.Changes.{free_of}
use Rattle.database_lock.specs.Locking.{unlocked}
use Rattle.scm_rules.specs.Valid.{AreNumbered}
use Rattle.scm_runs.specs.Handles.{AreRights}
use Rattle.scm_runs.proofs.Lists.{find_more, find_filter}
use Rattle.scm_runs.proofs.Locked.{Locked, Matches, all_left, one_left}
use Rattle.scm_runs.proofs.Numbers.{numbered_filter, numbered_none, numbered_push}

-- the caller with a number
abbrev pub found : List Caller → ℕ → Option Caller
found callers number = find (λ (row : Caller). row.number == number) callers

abbrev pub has_caller : List Caller → ℕ → Bool
has_caller callers number = is_some (found callers number)

abbrev pub IsHeld : List Caller → HandleRow → Type 0
IsHeld callers row = IsTrue (has_caller callers row.caller)

abbrev pub HasRightsIn : List Caller → HandleRow → Type 0
HasRightsIn callers row = AreRights (principal_in (found callers row.caller)) row.kind row.granted

pub record AreHandled (next_caller : ℕ) (joined : List Caller) (next_handle : ℕ) (rows : List HandleRow)
    (by : Option LockRow) : Type 0 where
  pub callers : AreNumbered (λ (row : Caller). row.number) next_caller joined
  pub handles : AreNumbered (λ (row : HandleRow). row.number) next_handle rows
  pub first_caller : 1 ≤ next_caller
  pub first_handle : 1 ≤ next_handle
  pub held : All (IsHeld joined) rows
  pub rights : All (HasRightsIn joined) rows
  pub lock : Locked by rows

pub no_handles : AreHandled 1 [] 1 [] None
no_handles = record {
  callers = numbered_none (λ (row : Caller). row.number) 1;
  handles = numbered_none (λ (row : HandleRow). row.number) 1;
  first_caller = omega arith;
  first_handle = omega arith;
  held = All-nil (IsHeld []);
  rights = All-nil (HasRightsIn []);
  lock = record { locks = All-nil (Matches None); holder = tt };
}

-- ## Callers

-- a caller more is not found in place of another
pub still_found : (callers : List Caller) (new : Caller) (number : ℕ) → has_caller callers number ≡ true
    → found (callers ++ new ∷ []) number ≡ found callers number
still_found callers new number there = find_more (λ (row : Caller). row.number == number) callers (new ∷ []) there

-- another caller is found once one is gone
pub found_still : (callers : List Caller) (caller number : ℕ) → not (number == caller) ≡ true
    → found (filter (λ (row : Caller). not (row.number == caller)) callers) number ≡ found callers number
found_still callers caller number other =
    find_filter (λ (row : Caller). row.number == number) (λ (row : Caller). not (row.number == caller))
    (λ row same. subst (λ n. not (n == caller) ≡ true) (sym (eqb-true row.number number same)) other) callers

pub caller_joined : (next_caller : ℕ) (callers : List Caller) (next_handle : ℕ) (handles : List HandleRow) (by : Option LockRow)
    (principal : Principal) → AreHandled next_caller callers next_handle handles by
    → AreHandled (next_caller + 1) (callers ++ record { number = next_caller; principal = principal } ∷ []) next_handle handles by
caller_joined next_caller callers next_handle handles by principal s =
    let new : Caller = record { number = next_caller; principal = principal } in
    record {
      callers = numbered_push (λ (row : Caller). row.number) next_caller callers new s.callers s.first_caller refl;
      handles = s.handles;
      first_caller = (let first = s.first_caller in omega arith);
      first_handle = s.first_handle;
      held = (λ k d lt. let there = s.held k d lt in ap is_some (still_found callers new _ there) ∙ there);
      rights = (λ k d lt. subst (λ who. AreRights who (get_or handles k d).kind (get_or handles k d).granted)
          (sym (ap principal_in (still_found callers new _ (s.held k d lt)))) (s.rights k d lt));
      lock = s.lock;
    }

pub caller_left : (next_caller : ℕ) (callers : List Caller) (next_handle : ℕ) (handles : List HandleRow) (by : Option LockRow) (caller : ℕ)
    → AreHandled next_caller callers next_handle handles by
    → AreHandled next_caller (filter (λ (row : Caller). not (row.number == caller)) callers) next_handle
    (filter (λ (row : HandleRow). not (row.caller == caller)) handles) (free_of handles caller by)
caller_left next_caller callers next_handle handles by caller s =
    let p = λ (row : HandleRow). not (row.caller == caller) in
    record {
      callers = numbered_filter (λ (row : Caller). row.number) next_caller (λ (row : Caller). not (row.number == caller)) callers s.callers;
      handles = numbered_filter (λ (row : HandleRow). row.number) next_handle p handles s.handles;
      first_caller = s.first_caller;
      first_handle = s.first_handle;
      held = (λ k d lt. ap is_some (found_still callers caller _ (filter_passes p handles k d lt))
          ∙ All-filter p (IsHeld callers) handles s.held k d lt);
      rights = (λ k d lt. subst (λ who. AreRights who (get_or (filter p handles) k d).kind (get_or (filter p handles) k d).granted)
          (sym (ap principal_in (found_still callers caller _ (filter_passes p handles k d lt))))
          (All-filter p (HasRightsIn callers) handles s.rights k d lt));
      lock = all_left caller by handles s.handles.rising s.lock;
    }

-- ## Handles

-- a handle more, and who then holds the lock
pub handle_given : (next_caller : ℕ) (callers : List Caller) (next_handle : ℕ) (handles : List HandleRow) (by held : Option LockRow)
    (row : HandleRow) → AreHandled next_caller callers next_handle handles by
    → row.number ≡ next_handle → IsHeld callers row → HasRightsIn callers row → Locked held (handles ++ row ∷ [])
    → AreHandled next_caller callers (next_handle + 1) (handles ++ row ∷ []) held
handle_given next_caller callers next_handle handles by held row s number there rights lock = record {
  callers = s.callers;
  handles = numbered_push (λ (r : HandleRow). r.number) next_handle handles row s.handles s.first_handle number;
  first_caller = s.first_caller;
  first_handle = (let first = s.first_handle in omega arith);
  held = All-push (IsHeld callers) handles row s.held there;
  rights = All-push (HasRightsIn callers) handles row s.rights rights;
  lock = lock;
}

-- a handle leaves, and the lock is free if it held it
pub handle_left : (next_caller : ℕ) (callers : List Caller) (next_handle : ℕ) (handles : List HandleRow) (by : Option LockRow) (number : ℕ)
    → AreHandled next_caller callers next_handle handles by
    → AreHandled next_caller callers next_handle (filter (λ (row : HandleRow). not (row.number == number)) handles) (unlocked by number)
handle_left next_caller callers next_handle handles by number s =
    let p = λ (row : HandleRow). not (row.number == number) in
    record {
      callers = s.callers;
      handles = numbered_filter (λ (row : HandleRow). row.number) next_handle p handles s.handles;
      first_caller = s.first_caller;
      first_handle = s.first_handle;
      held = All-filter p (IsHeld callers) handles s.held;
      rights = All-filter p (HasRightsIn callers) handles s.rights;
      lock = one_left number by handles s.lock;
    }
