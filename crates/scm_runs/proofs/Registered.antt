-- What is true of the registrations of every state, and what each change of them keeps.
use Rattle.std.proofs.Common.{ℕ, ◌≡◌, ◌∙◌, ◌+◌, ◌<◌, ◌≤◌, ◌==◌, not, Bool, true, false, cond, IsTrue, List, [], ◌∷◌, ◌++◌, filter, map}
use Rattle.std.proofs.Common.{get_or, ap, sym, refl, subst, arith, ne_eqb, suc, eq-eqb, is_some, ◌&&◌}
use Rattle.std.proofs.lemmas.Bool.Decides.{nat_tests}
use Rattle.scm_model.specs.Refused.{zero_process_status}
use Rattle.std.specs.Prelude.{All, AllPairs, nat_le, nat_lt}
use Rattle.std.proofs.lemmas.List.Elements.{All-append, All-cons, All-filter, All-head, All-map, All-nil, All-tail, filter_passes}
use Rattle.std.proofs.lemmas.List.Kept.{AllPairs-cons, AllPairs-filter}
use Rattle.scm_model.specs.Notices.{Event, notified, put_in, taken_once}
use Rattle.scm_model.specs.declared.flat.Caller.{Caller}
use Rattle.scm_model.specs.declared.flat.Registration.{Registration}
use Rattle.scm_rules.specs.Valid.{AreApart, HasShortName}
use Rattle.scm_runs.proofs.Handled.{found_still, has_caller, still_found}
use Rattle.scm_runs.proofs.Lists.{pairs_map}
use Rattle.scm_runs.proofs.Told.{IsProper, Tells, notified_or}

-- ## Numbers that no two rows share

pub tail_pairs : {X : Type 0} (R : X → X → Type 0) (x : X) (xs : List X) → AllPairs R (x ∷ xs) → AllPairs R xs
tail_pairs R x xs all i j d lt within = all (suc i) (suc j) d (omega arith) (omega arith)

pub head_pairs : {X : Type 0} (R : X → X → Type 0) (x : X) (xs : List X) → AllPairs R (x ∷ xs) → All (R x) xs
head_pairs R x xs all k d lt = all 0 (suc k) d (omega arith) (omega arith)

-- what holds of each pair of two lists and of each across them holds of both together
pub pairs_append : {X : Type 0} (R : X → X → Type 0) (xs ys : List X) → AllPairs R xs → AllPairs R ys → All (λ x. All (R x) ys) xs
    → AllPairs R (xs ++ ys)
pairs_append R [] ys first second across = second
pairs_append R (x ∷ xs) ys first second across =
    AllPairs-cons R x (xs ++ ys) (All-append (R x) xs ys (head_pairs R x xs first) (All-head (λ x. All (R x) ys) x xs across))
    (pairs_append R xs ys (tail_pairs R x xs first) second (All-tail (λ x. All (R x) ys) x xs across))

-- across two parts of one list that nobody is in twice
across : {X : Type 0} (R : X → X → Type 0) (p q : X → Bool) → ((a b : X) → R a b → R b a) → ((x : X) → p x ≡ true → q x ≡ true → ⊥)
    → (xs : List X) → AllPairs R xs
    → All (λ x. All (R x) (filter q xs)) (filter p xs)
across R p q swap apart [] all = All-nil (λ x. All (R x) [])
across R p q swap apart (x ∷ xs) all =
    let rest = across R p q swap apart xs (tail_pairs R x xs all) in
    let later = head_pairs R x xs all in
    elim (p x) as (λ b. p x ≡ b → All (λ y. All (R y) (cond (q x) (x ∷ filter q xs) (filter q xs)))
    (cond b (x ∷ filter p xs) (filter p xs))) [
      | true ↦ λ e. elim (q x) as (λ b. q x ≡ b → All (λ y. All (R y) (cond b (x ∷ filter q xs) (filter q xs))) (x ∷ filter p xs)) [
        | true ↦ λ g. absurd (apart x e g)
        | false ↦ λ g. All-cons (λ y. All (R y) (filter q xs)) x (filter p xs) (All-filter q (R x) xs later) rest
      ] refl
      | false ↦ λ e. elim (q x) as (λ b. All (λ y. All (R y) (cond b (x ∷ filter q xs) (filter q xs))) (filter p xs)) [
        | true ↦ λ k d lt. All-cons (R (get_or (filter p xs) k d)) x (filter q xs)
            (swap x (get_or (filter p xs) k d) (All-filter p (R x) xs later k d lt)) (rest k d lt)
        | false ↦ rest
      ]
    ] refl

abbrev IsOther : Registration → Registration → Type 0
IsOther a b = (a.number == b.number) ≡ false

other_way : (a b : ℕ) → (a == b) ≡ false → (b == a) ≡ false
other_way a b e = ne_eqb b a (λ same. absurd (let yes : (a == b) ≡ true = rw same (eq-eqb a a refl) in cc))

-- ## What is true of them

abbrev pub IsOfCaller : List Caller → Registration → Type 0
IsOfCaller callers row = IsTrue (has_caller callers row.caller)

pub record AreRegistered (next : ℕ) (callers : List Caller) (rows : List Registration) : Type 0 where
  pub numbered : AreApart (λ (row : Registration). row.number) next rows
  pub first : 1 ≤ next
  pub held : All (IsOfCaller callers) rows
  pub told : All HasShortName rows

pub no_registrations : (callers : List Caller) → AreRegistered 1 callers []
no_registrations callers = record {
  numbered = record {
    positive = All-nil (λ (row : Registration). 1 ≤ row.number);
    below = All-nil (λ (row : Registration). row.number < 1);
    apart = λ i j d lt within. absurd (omega arith);
  };
  first = omega arith;
  held = All-nil (IsOfCaller callers);
  told = All-nil HasShortName;
}

-- ## Each changed by itself

-- a change that leaves number and caller, and the name short
pub record IsSlight (change : Registration → Registration) : Type 0 where
  pub number : (row : Registration) → (change row).number ≡ row.number
  pub caller : (row : Registration) → (change row).caller ≡ row.caller
  pub short : (row : Registration) → HasShortName row → HasShortName (change row)

pub slightly : (next : ℕ) (callers : List Caller) (change : Registration → Registration) (rows : List Registration) → IsSlight change
    → AreRegistered next callers rows → AreRegistered next callers (map change rows)
slightly next callers change rows slight s = record {
  numbered = record {
    positive = All-map (λ (row : Registration). 1 ≤ row.number) change rows
        (λ k d lt. subst (λ n. 1 ≤ n) (sym (slight.number (get_or rows k d))) (s.numbered.positive k d lt));
    below = All-map (λ (row : Registration). row.number < next) change rows
        (λ k d lt. subst (λ n. n < next) (sym (slight.number (get_or rows k d))) (s.numbered.below k d lt));
    apart = pairs_map (λ row. Unit {0}) IsOther IsOther change (λ a b p q other. rw (slight.number a, slight.number b) other) rows
        (λ k d lt. tt) s.numbered.apart;
  };
  first = s.first;
  held = All-map (IsOfCaller callers) change rows (λ k d lt. subst (λ n. IsTrue (has_caller callers n))
      (sym (slight.caller (get_or rows k d))) (s.held k d lt));
  told = All-map HasShortName change rows (λ k d lt. slight.short (get_or rows k d) (s.told k d lt));
}

pub noted_slightly : (event : Event) → IsProper event → IsSlight (notified event)
noted_slightly event proper = record {
  number = λ row. notified_or (λ new. new.number ≡ row.number) event row (λ e. refl) refl;
  caller = λ row. notified_or (λ new. new.caller ≡ row.caller) event row (λ e. refl) refl;
  short = λ row short. notified_or HasShortName event row (λ e. proper.short) short;
}

pub events_keep : (next : ℕ) (callers : List Caller) → Tells (AreRegistered next callers)
events_keep next callers event rows proper s = slightly next callers (notified event) rows (noted_slightly event proper) s

abbrev emptied : Registration → Registration
emptied row = record row { fired = 0; status = zero_process_status; name = []; spent = true }

pub taken_or : (P : Registration → Type 0) (number : ℕ) (row : Registration)
    → ((row.number == number && not (row.fired == 0)) ≡ true → P (emptied row)) → P row → P (taken_once number row)
taken_or P number row takes stays =
    elim (row.number == number && not (row.fired == 0)) as (λ b. (row.number == number && not (row.fired == 0)) ≡ b
    → P (cond b (emptied row) row)) [ true ↦ takes | false ↦ λ e. stays ] refl

takes_slightly : (number : ℕ) → IsSlight (taken_once number)
takes_slightly number = record {
  number = λ row. taken_or (λ new. new.number ≡ row.number) number row (λ e. refl) refl;
  caller = λ row. taken_or (λ new. new.caller ≡ row.caller) number row (λ e. refl) refl;
  short = λ row short. taken_or HasShortName number row (λ e. omega arith) short;
}

pub result_taken : (next number : ℕ) (callers : List Caller) (rows : List Registration) → AreRegistered next callers rows
    → AreRegistered next callers (map (taken_once number) rows)
result_taken next number callers rows s = slightly next callers (taken_once number) rows (takes_slightly number) s

-- ## Fewer, and one more

pub fewer_registered : (next : ℕ) (callers : List Caller) (p : Registration → Bool) (rows : List Registration)
    → AreRegistered next callers rows → AreRegistered next callers (filter p rows)
fewer_registered next callers p rows s = record {
  numbered = record {
    positive = All-filter p (λ (row : Registration). 1 ≤ row.number) rows s.numbered.positive;
    below = All-filter p (λ (row : Registration). row.number < next) rows s.numbered.below;
    apart = AllPairs-filter IsOther p rows s.numbered.apart;
  };
  first = s.first;
  held = All-filter p (IsOfCaller callers) rows s.held;
  told = All-filter p HasShortName rows s.told;
}

-- what holds of each and of the new one holds of each with it
pub all_put : (P : Registration → Type 0) (new : Registration) (rows : List Registration) → All P rows → P new → All P (put_in new rows)
all_put P new rows all p =
    let before = λ (row : Registration). nat_le row.service new.service in
    let behind = λ (row : Registration). nat_lt new.service row.service in
    All-append P (filter before rows) (new ∷ filter behind rows) (All-filter before P rows all)
    (All-cons P new (filter behind rows) p (All-filter behind P rows all))

never_both : (a b : ℕ) → nat_le a b ≡ true → nat_lt b a ≡ true → ⊥
never_both a b x y = grind (arith, nat_tests)

pairs_put : (next : ℕ) (new : Registration) (rows : List Registration) → new.number ≡ next
    → All (λ (row : Registration). row.number < next) rows → AllPairs IsOther rows → AllPairs IsOther (put_in new rows)
pairs_put next new rows number below apart =
    let before = λ (row : Registration). nat_le row.service new.service in
    let behind = λ (row : Registration). nat_lt new.service row.service in
    let others : All (λ (row : Registration). IsOther new row) rows =
    λ k d lt. ne_eqb new.number (get_or rows k d).number (λ same. absurd (let low = below k d lt in omega (arith, same, low, number))) in
    pairs_append IsOther (filter before rows) (new ∷ filter behind rows) (AllPairs-filter IsOther before rows apart)
    (AllPairs-cons IsOther new (filter behind rows) (All-filter behind (IsOther new) rows others)
    (AllPairs-filter IsOther behind rows apart))
    (λ k d lt. All-cons (IsOther (get_or (filter before rows) k d)) new (filter behind rows)
    (other_way new.number (get_or (filter before rows) k d).number (All-filter before (IsOther new) rows others k d lt))
    (across IsOther before behind (λ a b e. other_way a.number b.number e) (λ x. never_both x.service new.service) rows apart k d lt))

pub one_registered : (next : ℕ) (callers : List Caller) (new : Registration) (rows : List Registration) → new.number ≡ next
    → IsOfCaller callers new → HasShortName new → AreRegistered next callers rows
    → AreRegistered (next + 1) callers (put_in new rows)
one_registered next callers new rows number there short s = record {
  numbered = record {
    positive = all_put (λ (row : Registration). 1 ≤ row.number) new rows s.numbered.positive
        (let first = s.first in omega (arith, first, number));
    below = all_put (λ (row : Registration). row.number < next + 1) new rows
        (λ k d lt. let low = s.numbered.below k d lt in omega (arith, low)) (omega (arith, number));
    apart = pairs_put next new rows number s.numbered.below s.numbered.apart;
  };
  first = (let first = s.first in omega arith);
  held = all_put (IsOfCaller callers) new rows s.held there;
  told = all_put HasShortName new rows s.told short;
}

-- ## Callers

pub who_joined : (next : ℕ) (callers : List Caller) (new : Caller) (rows : List Registration) → AreRegistered next callers rows
    → AreRegistered next (callers ++ new ∷ []) rows
who_joined next callers new rows s = record {
  numbered = s.numbered;
  first = s.first;
  held = λ k d lt. (let there = s.held k d lt in ap is_some (still_found callers new _ there) ∙ there);
  told = s.told;
}

pub who_left : (next : ℕ) (callers : List Caller) (caller : ℕ) (rows : List Registration) → AreRegistered next callers rows
    → AreRegistered next (filter (λ (row : Caller). not (row.number == caller)) callers)
    (filter (λ (row : Registration). not (row.caller == caller)) rows)
who_left next callers caller rows s =
    let p = λ (row : Registration). not (row.caller == caller) in
    let fewer = fewer_registered next callers p rows s in
    record {
      numbered = fewer.numbered;
      first = fewer.first;
      held = λ k d lt. ap is_some (found_still callers caller _ (filter_passes p rows k d lt)) ∙ fewer.held k d lt;
      told = fewer.told;
    }
