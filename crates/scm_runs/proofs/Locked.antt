-- Who holds the lock, and what each change of the handles makes of it.
use Rattle.std.proofs.Common.{ℕ, ◌≡◌, ◌∙◌, ◌<◌, ◌==◌, ◌||◌, ◌&&◌, Bool, true, false, not, IsTrue, cond, List, [], ◌∷◌, ◌++◌, Option, None}
use Rattle.std.proofs.Common.{Some, filter, find, get_or, ap, sym, refl, subst, arith, eq-eqb, eqb-true, ne_eqb, is_none, option_and_then}
use Rattle.std.specs.Prelude.{All, AllPairs, IfSome, is_some}
use Rattle.std.specs.List.{list_any}
use Rattle.std.proofs.lemmas.List.Elements.{All-filter, All-push, filter_passes}
use Rattle.std.proofs.lemmas.List.Folds.{list_any-append, list_any-from_Any, list_any_none}
use Rattle.std.proofs.lemmas.List.Quantifiers.{Any-push}
use Rattle.scm_model.specs.declared.flat.HandleKind.{HandleKind}
use Rattle.scm_model.specs.declared.flat.HandleKind.TheVariants as kinds
use Rattle.scm_model.specs.declared.flat.HandleRow.{HandleRow}
use Rattle.scm_model.specs.declared.flat.LockRow.{LockRow}
use Rattle.scm_model.specs.Rows.{is_closable, is_lock}
use Rattle.scm_model.specs.Changes.{free_of}
use Rattle.database_lock.specs.Locking.{is_held_by, locked, unlocked}
use Rattle.scm_rules.specs.Close.{closes}
use Rattle.scm_runs.proofs.Lists.{any_filter, found_has, found_owns, found_passes, none_found}
use Rattle.std.proofs.lemmas.Bool.{and_parts}
use Rattle.scm_rules.specs.Notify.{notify_at, notify_by}

-- a handle is the lock's exactly where it holds the lock
abbrev pub Matches : Option LockRow → HandleRow → Type 0
Matches held row = is_lock row.kind ≡ is_held_by row.number held

-- each handle is the lock's exactly where it holds the lock, and a lock that is held is held by a handle that is there
pub record Locked (held : Option LockRow) (rows : List HandleRow) : Type 0 where
  pub locks : All (Matches held) rows
  pub holder : IfSome held (λ lock. IsTrue (list_any (λ (row : HandleRow). row.number == lock.handle) rows))

-- ## Handles that leave

not_lock : (is holds stays : Bool) → is ≡ holds → (holds ≡ true → stays ≡ false) → stays ≡ true → is ≡ false
not_lock is true stays e goes passes = absurd (let t = goes refl in cc)
not_lock is false stays e goes passes = e

-- the handle leaves that held the lock, and the lock is free
freed : (stays : HandleRow → Bool) (lock : LockRow) (rows : List HandleRow)
    → All (λ (row : HandleRow). (lock.handle == row.number) ≡ true → stays row ≡ false) rows
    → Locked (Some lock) rows → Locked None (filter stays rows)
freed stays lock rows goes old = record {
  locks = λ k d lt. not_lock _ _ _ (All-filter stays (Matches (Some lock)) rows old.locks k d lt)
      (All-filter stays (λ (row : HandleRow). (lock.handle == row.number) ≡ true → stays row ≡ false) rows goes k d lt)
      (filter_passes stays rows k d lt);
  holder = tt;
}

-- the handle stays that holds the lock
still_held : (stays : HandleRow → Bool) (lock : LockRow) (rows : List HandleRow)
    → All (λ (row : HandleRow). (row.number == lock.handle) ≡ true → stays row ≡ true) rows
    → Locked (Some lock) rows → Locked (Some lock) (filter stays rows)
still_held stays lock rows keeps old = record {
  locks = All-filter stays (Matches (Some lock)) rows old.locks;
  holder = any_filter (λ (row : HandleRow). row.number == lock.handle) stays rows keeps old.holder;
}

-- one handle leaves, and the lock is free if it held it
pub one_left : (number : ℕ) (held : Option LockRow) (rows : List HandleRow) → Locked held rows
    → Locked (unlocked held number) (filter (λ (row : HandleRow). not (row.number == number)) rows)
one_left number None rows old = record { locks = All-filter _ (Matches None) rows old.locks; holder = tt }
one_left number (Some lock) rows old =
    let stays = λ (row : HandleRow). not (row.number == number) in
    elim (lock.handle == number) as (λ b. (lock.handle == number) ≡ b → Locked (cond b None (Some lock)) (filter stays rows)) [
      | true ↦ λ e. freed stays lock rows
          (λ k d lt same. ap not (eq-eqb (get_or rows k d).number number (sym (eqb-true lock.handle (get_or rows k d).number same)
          ∙ eqb-true lock.handle number e))) old
      | false ↦ λ e. still_held stays lock rows
          (λ k d lt same. subst (λ n. not (n == number) ≡ true) (sym (eqb-true (get_or rows k d).number lock.handle same)) (ap not e)) old
    ] refl

another : (own same : Bool) → (own && same) ≡ false → same ≡ true → not own ≡ true
another true same e is = absurd (cc)
another false same e is = refl

-- the handles of a caller leave, and the lock is free if one of them held it
pub all_left : (caller : ℕ) (held : Option LockRow) (rows : List HandleRow) → AllPairs (λ (a b : HandleRow). a.number < b.number) rows
    → Locked held rows
    → Locked (free_of rows caller held) (filter (λ (row : HandleRow). not (row.caller == caller)) rows)
all_left caller None rows rising old = record { locks = All-filter _ (Matches None) rows old.locks; holder = tt }
all_left caller (Some lock) rows rising old =
    let own = λ (row : HandleRow). row.caller == caller in
    let stays = λ (row : HandleRow). not (row.caller == caller) in
    let holds = λ (row : HandleRow). row.caller == caller && row.number == lock.handle in
    elim (is_some (find holds rows)) as (λ b. is_some (find holds rows) ≡ b → Locked (cond b None (Some lock)) (filter stays rows)) [
      | true ↦ λ e. freed stays lock rows
          (λ k d lt same. ap not (found_owns own (λ (row : HandleRow). row.number) lock.handle rows rising e k d lt
          (eq-eqb (get_or rows k d).number lock.handle (sym (eqb-true lock.handle (get_or rows k d).number same))))) old
      | false ↦ λ e. still_held stays lock rows (λ k d lt same. another _ _ (none_found holds rows e k d lt) same) old
    ] refl

-- ## A handle that isn't the lock's

-- whether a handle that is there is another
abbrev pub is_another : Option HandleRow → Bool
is_another None = false
is_another (Some row) = not (is_lock row.kind)

closable_kind : (kind : HandleKind) → is_closable kind ≡ true → not (is_lock kind) ≡ true
closable_kind kinds.Lock e = absurd (cc)
closable_kind kind e = refl

pub closes_another : (found : Option HandleRow) → closes found ≡ true → is_another found ≡ true
closes_another None e = absurd cc
closes_another (Some row) e = closable_kind row.kind e

notify_kind : (kind : HandleKind) → is_none (notify_at kind) ≡ false → not (is_lock kind) ≡ true
notify_kind kinds.Lock e = absurd (cc)
notify_kind kind e = refl

pub notify_another : (found : Option HandleRow) → is_none (option_and_then notify_by found) ≡ false → is_another found ≡ true
notify_another None e = absurd cc
notify_another (Some row) e = notify_kind row.kind e

not_the_lock : (is : Bool) → not is ≡ true → is ≡ false
not_the_lock true e = absurd cc
not_the_lock false e = refl

holds_nothing : (held : Option LockRow) (rows : List HandleRow) (caller number : ℕ) (found : Option HandleRow)
    → find (λ (row : HandleRow). row.caller == caller && row.number == number) rows ≡ found
    → is_another found ≡ true → Locked held rows → is_held_by number held ≡ false
holds_nothing held rows caller number None e closable old = absurd (cc)
holds_nothing held rows caller number (Some row) e closable old =
    let test = λ (r : HandleRow). r.caller == caller && r.number == number in
    let same = eqb-true row.number number (and_parts (row.caller == caller) (row.number == number) (found_passes test row rows e)).1 in
    subst (λ n. is_held_by n held ≡ false) same (sym (found_has (Matches held) test row rows old.locks e)
    ∙ not_the_lock (is_lock row.kind) closable)

-- the lock stays as it is where such a handle leaves
pub not_unlocked : (held : Option LockRow) (rows : List HandleRow) (caller number : ℕ) (found : Option HandleRow)
    → find (λ (row : HandleRow). row.caller == caller && row.number == number) rows ≡ found
    → is_another found ≡ true → Locked held rows → unlocked held number ≡ held
not_unlocked held rows caller number found e closable old = ap (λ b. cond b None held)
    (holds_nothing held rows caller number found e closable old)

-- ## A handle more

-- a number above all those of the handles holds no lock
unheld : (number : ℕ) (lock : LockRow) (rows : List HandleRow) → All (λ (row : HandleRow). row.number < number) rows
    → list_any (λ (row : HandleRow). row.number == lock.handle) rows ≡ true
    → (lock.handle == number) ≡ false
unheld number lock rows below there =
    ne_eqb lock.handle number (λ same. absurd (
    let none = list_any_none (λ (row : HandleRow). row.number == lock.handle) rows
    (λ k d lt. ne_eqb (get_or rows k d).number lock.handle (λ here. let less = below k d lt in omega arith)) in
    cc))

-- a handle more that is not the lock's
pub one_more : (held : Option LockRow) (rows : List HandleRow) (row : HandleRow) → is_lock row.kind ≡ false
    → All (λ (r : HandleRow). r.number < row.number) rows → Locked held rows
    → Locked held (rows ++ row ∷ [])
one_more None rows row other below old = record { locks = All-push (Matches None) rows row old.locks other; holder = tt }
one_more (Some lock) rows row other below old = record {
  locks = All-push (Matches (Some lock)) rows row old.locks (other ∙ sym (unheld row.number lock rows below old.holder));
  holder = list_any-append (λ (r : HandleRow). r.number == lock.handle) rows (row ∷ [])
      ∙ ap (λ b. b || list_any (λ (r : HandleRow). r.number == lock.handle) (row ∷ [])) old.holder;
}

-- a handle more that takes the lock, which is free
pub one_holds : (held : Option LockRow) (rows : List HandleRow) (row : HandleRow) (moment : ℕ) → is_some held ≡ false
    → is_lock row.kind ≡ true → All (λ (r : HandleRow). r.number < row.number) rows
    → Locked held rows → Locked (locked held row.number moment) (rows ++ row ∷ [])
one_holds None rows row moment free is below old = record {
  locks = All-push (λ (r : HandleRow). is_lock r.kind ≡ (row.number == r.number)) rows row
      (λ k d lt. old.locks k d lt ∙ sym (ne_eqb row.number (get_or rows k d).number (λ same. let less = below k d lt in omega arith)))
      (is ∙ sym (eq-eqb row.number row.number refl));
  holder = list_any-from_Any (λ (r : HandleRow). r.number == row.number) (rows ++ row ∷ [])
      (Any-push (λ (r : HandleRow). (r.number == row.number) ≡ true) rows row (eq-eqb row.number row.number refl));
}
one_holds (Some lock) rows row moment free is below old = absurd (cc)
