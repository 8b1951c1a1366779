-- Where needs had no cycle, a row that is put in makes one only through its own service.
use Rattle.std.proofs.Common.{ℕ, ◌≡◌, ◌≢◌, ◌∙◌, ◌==◌, Bool, true, false, not, cond, ◌||◌, List, [], ◌∷◌, ◌++◌, None, Some, refl, sym, ap}
use Rattle.std.proofs.Common.{eqb, filter, find, length, map}
use Rattle.std.proofs.lemmas.Bool.{eqb-true, eqb-false, eq-eqb, ne_eqb}
use Rattle.std.proofs.lemmas.List.Folds.{list_any-append}
use Rattle.scm_model.specs.declared.flat.Need.{Need}
use Rattle.scm_model.specs.declared.flat.NeedRow.{NeedRow}
use Rattle.scm_model.specs.Needs.{added, instead, is_met, met_by, met_by_all, row_needs, needs_of, numbers_of, with_row}
use Rattle.scm_model.specs.Order.{explore, is_cyclic, try_all}
use Rattle.scm_model.specs.Walks.{IsAcyclic, Needs}
use Rattle.dependency_index.proofs.Acyclic.{IsGrounded, grounded, cyclic, grounds, no_loop}
use Rattle.dependency_index.proofs.Cycles.{acyclic_ends, cyclic_is, never}
use Rattle.dependency_index.proofs.Grounded.{went, went_all}
use Rattle.dependency_index.proofs.Lists.{needed_listed, or_right}
use Rattle.dependency_index.proofs.Once.{numbers_append, numbers_map}
use Rattle.dependency_index.proofs.Puts.{needs_other}
use Rattle.scm_text.specs.Numbers.{has}

-- ## Other services need each other as before

has_cons : (row : NeedRow) (p : NeedRow → Bool) (rows : List NeedRow) (y : ℕ) → has (numbers_of (filter p rows)) y ≡ true
    → has (numbers_of (filter p (row ∷ rows))) y ≡ true
has_cons row p rows y h =
    elim (p row) as (λ b. has (numbers_of (cond b (row ∷ filter p rows) (filter p rows))) y ≡ true)
    [ true ↦ or_right (eqb y row.number) (has (numbers_of (filter p rows)) y) h | false ↦ h ]

kept_row : (p : NeedRow → Bool) (row : NeedRow) (rows more : List NeedRow) (y : ℕ)
    → (has (numbers_of (filter p more)) y ≡ true → has (numbers_of (filter p rows)) y ≡ true)
    → has (numbers_of (filter p (row ∷ more))) y ≡ true → has (numbers_of (filter p (row ∷ rows))) y ≡ true
kept_row p row rows more y rest h =
    elim (p row) as (λ b. has (numbers_of (cond b (row ∷ filter p more) (filter p more))) y ≡ true
    → has (numbers_of (cond b (row ∷ filter p rows) (filter p rows))) y ≡ true) [
      | true ↦ λ t. elim (eqb y row.number) as (λ b. (b || has (numbers_of (filter p more)) y) ≡ true
          → (b || has (numbers_of (filter p rows)) y) ≡ true) [
            | true ↦ λ u. refl
            | false ↦ λ u. rest u
          ] t
      | false ↦ λ t. rest t
    ] h

drop_row : (p : NeedRow → Bool) (row : NeedRow) (more : List NeedRow) (y : ℕ) → y ≢ row.number
    → has (numbers_of (filter p (row ∷ more))) y ≡ true → has (numbers_of (filter p more)) y ≡ true
drop_row p row more y other h =
    elim (p row) as (λ b. has (numbers_of (cond b (row ∷ filter p more) (filter p more))) y ≡ true
    → has (numbers_of (filter p more)) y ≡ true) [
      | true ↦ λ t. let differs : eqb y row.number ≡ false = ne_eqb y row.number other in rw differs at t
      | false ↦ λ t. t
    ] h

kept_among : (p : NeedRow → Bool) (new : NeedRow) (y : ℕ) → y ≢ new.number → (rows tail : List NeedRow)
    → (has (numbers_of (filter p tail)) y ≡ true → ⊥)
    → has (numbers_of (filter p (map (instead new) rows ++ tail))) y ≡ true → has (numbers_of (filter p rows)) y ≡ true
kept_among p new y other [] tail none h = absurd (none h)
kept_among p new y other (row ∷ rows) tail none h =
    elim (row.number == new.number) as (λ b. has (numbers_of (filter p (cond b new row ∷ (map (instead new) rows ++ tail)))) y ≡ true
    → has (numbers_of (filter p (row ∷ rows))) y ≡ true) [
      | true ↦ λ t. has_cons row p rows y (kept_among p new y other rows tail none
          (drop_row p new (map (instead new) rows ++ tail) y other t))
      | false ↦ λ t. kept_row p row rows (map (instead new) rows ++ tail) y (kept_among p new y other rows tail none) t
    ] h

none_added : (p : NeedRow → Bool) (new : NeedRow) (y : ℕ) → y ≢ new.number → (b : Bool)
    → has (numbers_of (filter p (cond b [] (new ∷ [])))) y ≡ true → ⊥
none_added p new y other true h = absurd cc
none_added p new y other false h = let none : false ≡ true = drop_row p new [] y other h in absurd cc

met_among : (rows : List NeedRow) (new : NeedRow) (y : ℕ) → y ≢ new.number → (needs : List Need)
    → has (met_by_all (with_row rows new) needs) y ≡ true → has (met_by_all rows needs) y ≡ true
met_among rows new y other [] h = h
met_among rows new y other (need ∷ needs) h =
    elim (has (met_by (with_row rows new) need) y) as (λ b. has (met_by (with_row rows new) need) y ≡ b
    → (b || has (met_by_all (with_row rows new) needs) y) ≡ true
    → has (met_by rows need ++ met_by_all rows needs) y ≡ true) [
      | true ↦ λ e t.
          let here = kept_among (is_met need) new y other rows (added rows new)
          (none_added (is_met need) new y other (has (numbers_of rows) new.number)) e in
          rw (list_any-append, here) refl
      | false ↦ λ e t. rw list_any-append (or_right (has (met_by rows need) y) (has (met_by_all rows needs) y)
          (met_among rows new y other needs t))
    ] refl (rw list_any-append at h)

needed_before : (rows : List NeedRow) (new : NeedRow) (x y : ℕ) → x ≢ new.number → y ≢ new.number → Needs (needs_of (with_row rows new)) x y
    → Needs (needs_of rows) x y
needed_before rows new x y from to need =
    met_among rows new y to (row_needs (find (λ (row : NeedRow). row.number == x) rows))
    (rw (needs_other rows new x (λ e. from (sym e))) at need)

-- ## No walk goes on for ever

-- where needs have no cycle
pub all_grounded : (rows : List NeedRow) → IsAcyclic (needs_of rows) → (x : ℕ) → IsGrounded (needs_of rows) x
all_grounded rows none x =
    let needs = needs_of rows in
    let go = explore needs (λ y. false) (length rows) in
    elim (try_all go [] (numbers_of rows)) as (λ o. try_all go [] (numbers_of rows) ≡ o → IsGrounded needs x) [
      | None ↦ λ e. absurd (never rows e none)
      | Some d ↦ λ e.
          let gone = went_all (IsGrounded needs) go (went needs (λ y. false) (IsGrounded needs) (grounds needs) (length rows)) []
          (numbers_of rows) d e (λ y h. absurd cc) in
          grounded x (λ y need. gone.each y (needed_listed rows x y need))
    ] refl

-- nor where none does from the service whose row is put in
still_grounded : (rows : List NeedRow) (new : NeedRow) → IsGrounded (needs_of (with_row rows new)) new.number → (x : ℕ)
    → IsGrounded (needs_of rows) x → IsGrounded (needs_of (with_row rows new)) x
still_grounded rows new end _ (grounded x below) =
    elim (eqb x new.number) as (λ b. eqb x new.number ≡ b → IsGrounded (needs_of (with_row rows new)) x) [
      | true ↦ λ e. rw (eqb-true x new.number e) end
      | false ↦ λ e. grounded x (λ y need.
          elim (eqb y new.number) as (λ b. eqb y new.number ≡ b → IsGrounded (needs_of (with_row rows new)) y) [
            | true ↦ λ f. rw (eqb-true y new.number f) end
            | false ↦ λ f. still_grounded rows new end y (below y (needed_before rows new x y (eqb-false x new.number e)
                (eqb-false y new.number f) need))
          ] refl)
    ] refl

closes_none : (rows : List NeedRow) (new : NeedRow) (done : List ℕ) → IsAcyclic (needs_of rows)
    → explore (needs_of (with_row rows new)) (λ x. false) (length (with_row rows new)) [] new.number ≡ Some done
    → IsAcyclic (needs_of (with_row rows new))
closes_none rows new done none ended from between walk =
    let needs = needs_of (with_row rows new) in
    let gone = went needs (λ x. false) (IsGrounded needs) (grounds needs) (length (with_row rows new)) [] new.number done ended
    (λ y h. absurd cc) in
    no_loop needs from (still_grounded rows new gone.1 from (all_grounded rows none from)) between walk

-- the service whose row is put in has one
pub put_listed : (rows : List NeedRow) (new : NeedRow) → has (numbers_of (with_row rows new)) new.number ≡ true
put_listed rows new =
    let parts : numbers_of (with_row rows new) ≡ numbers_of rows ++ numbers_of (added rows new) =
    numbers_append (map (instead new) rows) (added rows new) ∙ ap (λ (ns : List ℕ). ns ++ numbers_of (added rows new))
    (numbers_map new rows) in
    elim (has (numbers_of rows) new.number) as (λ b. has (numbers_of rows) new.number ≡ b
    → has (numbers_of (with_row rows new)) new.number ≡ true) [
      | true ↦ λ e. rw (parts, list_any-append, e) refl
      | false ↦ λ e. rw (parts, list_any-append, e, eq-eqb new.number new.number refl) refl
    ] refl

-- going to that service alone tells
pub closes : (rows : List NeedRow) (new : NeedRow) (came : Bool) (done : List ℕ) → IsAcyclic (needs_of rows)
    → explore (needs_of (with_row rows new)) (λ x. false) (length (with_row rows new)) [] new.number ≡ cond came (Some done) None
    → not came ≡ is_cyclic (with_row rows new)
closes rows new true done none told = sym (acyclic_ends (with_row rows new) (closes_none rows new done none told))
closes rows new false done none told = sym (cyclic_is (with_row rows new)
    (cyclic (with_row rows new) (λ x. false) new.number [] (put_listed rows new) told))
