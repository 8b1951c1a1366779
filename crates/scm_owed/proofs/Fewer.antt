-- A start goes by no more services than there are.
use Rattle.std.proofs.Common.{ℕ, ◌≡◌, ◌≤◌, ◌||◌, zero, suc, Bool, true, false, cond, List, [], ◌∷◌, ◌++◌, Option, None, Some, length, eqb}
use Rattle.std.proofs.Common.{refl, subst, arith}
use Rattle.std.specs.Prelude.{option_and_then, unwrap_or}
use Rattle.std.specs.List.{IsDistinct}
use Rattle.scm_model.specs.declared.flat.NeedRow.{NeedRow}
use Rattle.scm_model.specs.Needs.{needs_of, numbers_of}
use Rattle.dependency_index.specs.Order.{IsWithin}
use Rattle.scm_model.specs.Order.{explore, runs_in, visited, order_in, try_all}
use Rattle.dependency_index.proofs.Lists.{needed_listed, or_right}
use Rattle.dependency_index.proofs.Rooms.{few, more_within}
use Rattle.scm_text.specs.Numbers.{has}

-- going on keeps that each number is a service's and stands once
abbrev KeepsWithin : List NeedRow → (List ℕ → ℕ → Option (List ℕ)) → Type 0
KeepsWithin rows go = (d : List ℕ) (n : ℕ) (e : List ℕ) → has (numbers_of rows) n ≡ true → IsWithin rows d → go d n ≡ Some e
    → IsWithin rows e

abbrev AllListed : List NeedRow → List ℕ → Type 0
AllListed rows ns = (y : ℕ) → has ns y ≡ true → has (numbers_of rows) y ≡ true

first_has : (n : ℕ) (ns : List ℕ) → has (n ∷ ns) n ≡ true
first_has n ns = rw (same n) refl
  where
    same : (m : ℕ) → eqb m m ≡ true
    same m = grind arith

all_within : (rows : List NeedRow) (go : List ℕ → ℕ → Option (List ℕ)) → KeepsWithin rows go → (d ns e : List ℕ) → AllListed rows ns
    → IsWithin rows d → try_all go d ns ≡ Some e → IsWithin rows e
all_within rows go keeps d [] e listed within is = subst (IsWithin rows) (some_is d e is) within
  where
    some_is : (a b : List ℕ) → Some a ≡ Some b → a ≡ b
    some_is a b h = cc
all_within rows go keeps d (n ∷ ns) e listed within is =
    elim (go d n) as (λ o. go d n ≡ o → option_and_then (λ more. try_all go more ns) o ≡ Some e → IsWithin rows e) [
      | None ↦ λ g h. absurd cc
      | Some more ↦ λ g h. all_within rows go keeps more ns e (λ y there. listed y (or_right (eqb y n) (has ns y) there))
          (keeps d n more (listed n (first_has n ns)) within g) h
    ] refl is

noted_within : (rows : List NeedRow) (before : List ℕ) (n : ℕ) → has (numbers_of rows) n ≡ true → IsWithin rows before
    → IsWithin rows (visited before n)
noted_within rows before n listed within =
    elim (has before n) as (λ b. has before n ≡ b → IsWithin rows (cond b before (before ++ n ∷ []))) [
      | true ↦ λ e. within
      | false ↦ λ e. more_within rows before n within listed e
    ] refl

explore_within : (rows : List NeedRow) (skipped : ℕ → Bool) (depth : ℕ) → KeepsWithin rows (explore (needs_of rows) skipped depth)
explore_within rows skipped zero d n e listed within is =
    elim (skipped n || has d n) as (λ b. cond b (Some d) None ≡ Some e → IsWithin rows e) [
      | true ↦ λ h. subst (IsWithin rows) (some_is d e h) within
      | false ↦ λ h. absurd cc
    ] is
  where
    some_is : (a b : List ℕ) → Some a ≡ Some b → a ≡ b
    some_is a b h = cc
explore_within rows skipped (suc depth) d n e listed within is =
    let go = explore (needs_of rows) skipped depth in
    elim (skipped n || has d n) as (λ b. cond b (Some d) (option_and_then (λ before. Some (visited before n))
    (try_all go d (needs_of rows n))) ≡ Some e → IsWithin rows e) [
      | true ↦ λ h. subst (IsWithin rows) (some_is d e h) within
      | false ↦ elim (try_all go d (needs_of rows n)) as (λ o. try_all go d (needs_of rows n) ≡ o
          → option_and_then (λ before. Some (visited before n)) o ≡ Some e → IsWithin rows e) [
            | None ↦ λ g h. absurd cc
            | Some before ↦ λ g h. subst (IsWithin rows) (some_is (visited before n) e h)
                (noted_within rows before n listed
                (all_within rows go (explore_within rows skipped depth) d (needs_of rows n) before
                (λ y there. needed_listed rows n y there) within g))
          ] refl
    ] is
  where
    some_is : (a b : List ℕ) → Some a ≡ Some b → a ≡ b
    some_is a b h = cc

-- nothing is within
none_within : (rows : List NeedRow) → IsWithin rows []
unfolding IsDistinct
none_within rows = record { listed = λ n h. absurd cc; once = tt }

pub few_in_order : (rows : List NeedRow) (state_of : ℕ → ℕ) (target : ℕ) → has (numbers_of rows) target ≡ true
    → length (order_in rows state_of target) ≤ length rows
few_in_order rows state_of target listed =
    let go = explore (needs_of rows) (runs_in state_of) (length rows) in
    elim (go [] target) as (λ o. go [] target ≡ o → length (unwrap_or o []) ≤ length rows) [
      | None ↦ λ g. omega arith
      | Some done ↦ λ g. few rows done (explore_within rows (runs_in state_of) (length rows) [] target done listed (none_within rows) g)
    ] refl
