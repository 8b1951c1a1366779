-- No more services depend on one than there are.
use Rattle.std.proofs.Common.{ℕ, ◌≡◌, ◌≤◌, ◌||◌, zero, suc, Bool, true, false, cond, List, [], ◌∷◌, ◌++◌, Option, None, Some, length, eqb}
use Rattle.std.proofs.Common.{eq-eqb, refl, subst, arith}
use Rattle.std.specs.Prelude.{option_and_then, unwrap_or}
use Rattle.std.specs.List.{IsDistinct}
use Rattle.std.proofs.lemmas.List.{length-map, length-reverse}
use Rattle.scm_model.specs.declared.flat.Flat.{Flat}
use Rattle.scm_model.specs.declared.flat.NeedRow.{NeedRow}
use Rattle.scm_model.specs.Needs.{numbers_of}
use Rattle.scm_model.specs.Order.{explore, is_cyclic, visited, try_all}
use Rattle.dependency_index.specs.Dependents.{dependents_in, is_none_of, named_by, names_other, reach, reach_all}
use Rattle.dependency_index.specs.Naming.{row_of}
use Rattle.dependency_index.specs.Order.{IsWithin}
use Rattle.dependency_index.proofs.Lists.{has_kept, or_right}
use Rattle.dependency_index.proofs.Rooms.{few, more_within}
use Rattle.scm_rules.specs.EnumDependents.{stop_order}
use Rattle.scm_rules.specs.Needs.{need_row, need_rows}
use Rattle.scm_text.specs.Numbers.{has}

-- going on keeps that each number is a service's and stands once
abbrev KeepsWithin : List NeedRow → (List ℕ → ℕ → Option (List ℕ)) → Type 0
KeepsWithin rows go =
    (d : List ℕ) (n : ℕ) (e : List ℕ) → has (numbers_of rows) n ≡ true → IsWithin rows d → go d n ≡ Some e → IsWithin rows e

abbrev AreListed : List NeedRow → List ℕ → Type 0
AreListed rows ns = (y : ℕ) → has ns y ≡ true → has (numbers_of rows) y ≡ true

some_is : (a b : List ℕ) → Some a ≡ Some b → a ≡ b
some_is a b h = cc

first_has : (n : ℕ) (ns : List ℕ) → has (n ∷ ns) n ≡ true
first_has n ns = rw (eq-eqb n n refl) refl

all_within : (rows : List NeedRow) (go : List ℕ → ℕ → Option (List ℕ)) → KeepsWithin rows go → (d ns e : List ℕ) → AreListed rows ns
    → IsWithin rows d
    → try_all go d ns ≡ Some e → IsWithin rows e
all_within rows go keeps d [] e listed within is = subst (IsWithin rows) (some_is d e is) within
all_within rows go keeps d (n ∷ ns) e listed within is =
    elim (go d n) as (λ o. go d n ≡ o → option_and_then (λ more. try_all go more ns) o ≡ Some e → IsWithin rows e) [
      | None ↦ λ g h. absurd cc
      | Some more ↦ λ g h.
          all_within rows go keeps more ns e (λ y there. listed y (or_right (eqb y n) (has ns y) there))
          (keeps d n more (listed n (first_has n ns)) within g) h
    ] refl is

noted_within : (rows : List NeedRow) (before : List ℕ) (n : ℕ) → has (numbers_of rows) n ≡ true → IsWithin rows before
    → IsWithin rows (visited before n)
noted_within rows before n listed within =
    elim (has before n) as (λ b. has before n ≡ b → IsWithin rows (cond b before (before ++ n ∷ []))) [
      | true ↦ λ e. within
      | false ↦ λ e. more_within rows before n within listed e
    ] refl

explore_within : (rows : List NeedRow) (needs : ℕ → List ℕ) (skipped : ℕ → Bool) → ((n : ℕ) → AreListed rows (needs n)) → (depth : ℕ)
    → KeepsWithin rows (explore needs skipped depth)
explore_within rows needs skipped named zero d n e listed within is =
    elim (skipped n || has d n) as (λ b. cond b (Some d) None ≡ Some e → IsWithin rows e) [
      | true ↦ λ h. subst (IsWithin rows) (some_is d e h) within
      | false ↦ λ h. absurd cc
    ] is
explore_within rows needs skipped named (suc depth) d n e listed within is =
    let go = explore needs skipped depth in
    let note = λ (before : List ℕ). Some (visited before n) in
    elim (skipped n || has d n) as (λ b. cond b (Some d) (option_and_then note (try_all go d (needs n))) ≡ Some e → IsWithin rows e) [
      | true ↦ λ h. subst (IsWithin rows) (some_is d e h) within
      | false ↦ elim (try_all go d (needs n)) as (λ o. try_all go d (needs n) ≡ o → option_and_then note o ≡ Some e → IsWithin rows e) [
        | None ↦ λ g h. absurd cc
        | Some before ↦ λ g h. subst (IsWithin rows) (some_is (visited before n) e h)
            (noted_within rows before n listed
            (all_within rows go (explore_within rows needs skipped named depth) d (needs n) before (named n) within g))
      ] refl
    ] is

named_listed : (rows : List NeedRow) (n : ℕ) → AreListed rows (named_by rows n)
named_listed rows n y here = has_kept (names_other (row_of rows n)) rows y here

reach_within : (rows : List NeedRow) (skipped : ℕ → Bool) (d : List ℕ) (n : ℕ) → has (numbers_of rows) n ≡ true → IsWithin rows d
    → IsWithin rows (reach rows skipped d n)
reach_within rows skipped d n listed within =
    let go = explore (named_by rows) skipped (length rows) in
    elim (go d n) as (λ o. go d n ≡ o → IsWithin rows (unwrap_or o d)) [
      | None ↦ λ g. within
      | Some e ↦ λ g. explore_within rows (named_by rows) skipped (named_listed rows) (length rows) d n e listed within g
    ] refl

reach_all_within : (rows : List NeedRow) (skipped : ℕ → Bool) (d ns : List ℕ) → AreListed rows ns → IsWithin rows d
    → IsWithin rows (reach_all rows skipped d ns)
reach_all_within rows skipped d [] listed within = within
reach_all_within rows skipped d (n ∷ ns) listed within =
    reach_all_within rows skipped (reach rows skipped d n) ns (λ y there. listed y (or_right (eqb y n) (has ns y) there))
    (reach_within rows skipped d n (listed n (first_has n ns)) within)

none_within : (rows : List NeedRow) → IsWithin rows []
unfolding IsDistinct
none_within rows = record { listed = λ n h. absurd cc; once = tt }

few_dependents : (rows : List NeedRow) (target : ℕ) → length (dependents_in rows target) ≤ length rows
few_dependents rows target =
    let done = reach_all rows (is_none_of rows target) [] (numbers_of rows) in
    let within = reach_all_within rows (is_none_of rows target) [] (numbers_of rows) (λ y h. h) (none_within rows) in
    omega (arith, length-reverse done, few rows done within)

-- the order in which they are stopped has no more than there are services
pub few_stopped : (f : Flat) (target : ℕ) → length (stop_order f target) ≤ length f.services
few_stopped f target =
    let rows = need_rows f.services in
    elim (is_cyclic rows) as (λ b. length (cond {A = List ℕ} b [] (dependents_in rows target)) ≤ length f.services) [
      | true ↦ omega arith
      | false ↦ omega (arith, few_dependents rows target, length-map f.services need_row)
    ]
