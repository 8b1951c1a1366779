-- Kept lists, as rows come and go.
use Rattle.std.proofs.Common.{ℕ, ◌≡◌, ◌<◌, ◌+◌, ◌∙◌, zero, suc, Bool, true, false, not, cond, ◌||◌, ◌&&◌, List, [], ◌∷◌, ◌++◌, Some, None}
use Rattle.std.proofs.Common.{Result, Ok, Err, refl, sym, ap, subst, eqb, length, get_or, take, filter, find, map, arith, inl, inr}
use Rattle.std.proofs.Common.{Bor, Option, true≢false}
use Rattle.std.specs.Prelude.{is_some, option_copied, option_map, OnOk}
use Rattle.std.specs.List.{list_any, AllByRecursion}
use Rattle.std.proofs.lemmas.Bool.{eq-eqb, ne_eqb, eqb-true, lt-ltb, le-ltb, cases_order, cases_Bool}
use Rattle.std.proofs.lemmas.List.{append-nil}
use Rattle.scm_text.specs.Fold.{same_text}
use Rattle.scm_text.specs.Numbers.{has}
use Rattle.scm_model.specs.declared.flat.Need.{Need}
use Rattle.number_lists.specs.Rising.{with_number, without_number}
use Rattle.number_lists.specs.UnderName.{UnderName, at, room, room_in, Changes, HasRoom}
use Rattle.number_lists.proofs.Same.{same_laws}
use Rattle.number_lists.proofs.Writes.{lookup_same}
use Rattle.row_slab.specs.Rowed.{is_above, AreRisingBy}
use Rattle.scm_model.specs.declared.flat.NeedRow.{NeedRow}
use Rattle.scm_model.specs.Needs.{instead, numbers_of, with_row}
use Rattle.dependency_index.specs.Kept.{key_of, is_row, AreOf, IsNext, SameNumbers}
use Rattle.dependency_index.specs.declared.keeping.KeptLists.{KeptLists}
use Rattle.dependency_index.proofs.Listing as listing
use Rattle.dependency_index.proofs.Listing.{numbers_if}

pub with_twice : (xs : List ℕ) (n : ℕ) → with_number (with_number xs n) n ≡ with_number xs n
with_twice [] n = rw (le-ltb n n (omega arith), eq-eqb n n refl) refl
with_twice (x ∷ xs) n =
    elim (cases_order n x) [
      | inl same ↦ let le = le-ltb n x (omega arith) in let eq = eq-eqb n x same in rw (le, eq, le, eq) refl
      | inr (inl less) ↦ rw (lt-ltb n x less, le-ltb n n (omega arith), eq-eqb n n refl) refl
      | inr (inr more) ↦ let le = le-ltb n x (omega arith) in let ne = ne_eqb n x (omega arith) in
          rw (le, ne, le, ne) (ap (λ rest. x ∷ rest) (with_twice xs n))
    ]

pub without_twice : (xs : List ℕ) (n : ℕ) → without_number (without_number xs n) n ≡ without_number xs n
without_twice [] n = refl
without_twice (x ∷ xs) n =
    elim (eqb x n) as (λ b. eqb x n ≡ b → without_number (cond (not b) (x ∷ without_number xs n) (without_number xs n)) n ≡ cond (not b)
    (x ∷ without_number xs n) (without_number xs n)) [
      | true ↦ λ e. without_twice xs n
      | false ↦ λ e. rw e (ap (λ rest. x ∷ rest) (without_twice xs n))
    ] refl

pub has_with : (xs : List ℕ) (n : ℕ) → has (with_number xs n) n ≡ true
has_with [] n = rw (eq-eqb n n refl) refl
has_with (x ∷ xs) n =
    elim (cases_order n x) [
      | inl same ↦ rw (le-ltb n x (omega arith), eq-eqb n x same, eq-eqb n x same) refl
      | inr (inl less) ↦ rw (lt-ltb n x less, eq-eqb n n refl) refl
      | inr (inr more) ↦ rw (le-ltb n x (omega arith), ne_eqb n x (omega arith), ne_eqb n x (omega arith)) (has_with xs n)
    ]

-- ## A need more

pub any_more : (p : Need → Bool) (xs : List Need) (i : ℕ) (x : Need) → i < length xs → x ≡ get_or xs i x
    → list_any p (take (i + 1) xs) ≡ (list_any p (take i xs) || p x)
any_more p [] i x lt is = absurd (omega arith)
any_more p (y ∷ ys) zero x lt is = rw is (elim (p y) as (λ b. (b || false) ≡ b) [ true ↦ refl | false ↦ refl ])
any_more p (y ∷ ys) (suc i) x lt is =
    let more : suc i + 1 ≡ suc (i + 1) = omega arith in
    rw more (elim (p y) as (λ b. (b || list_any p (take (i + 1) ys)) ≡ ((b || list_any p (take i ys)) || p x)) [
      | true ↦ refl
      | false ↦ any_more p ys i x (omega arith) is
    ])

pub step_with : (a b : Bool) (list now new : List ℕ) (n : ℕ) → now ≡ cond a (with_number list n) list → new ≡ cond b (with_number now n) now
    → new ≡ cond (a || b) (with_number list n) list
step_with true true list now new n was is = is ∙ ap (λ l. with_number l n) was ∙ with_twice list n
step_with true false list now new n was is = is ∙ was
step_with false true list now new n was is = is ∙ ap (λ l. with_number l n) was
step_with false false list now new n was is = is ∙ was

pub step_without : (a b : Bool) (list now new : List ℕ) (n : ℕ) → now ≡ cond a (without_number list n) list
    → new ≡ cond b (without_number now n) now → new ≡ cond (a || b) (without_number list n) list
step_without true true list now new n was is = is ∙ ap (λ l. without_number l n) was ∙ without_twice list n
step_without true false list now new n was is = is ∙ was
step_without false true list now new n was is = is ∙ ap (λ l. without_number l n) was
step_without false false list now new n was is = is ∙ was

pub turned : (old new : UnderName) (key : List ℕ) (change : List ℕ → List ℕ) → Changes old new key change → (name : List ℕ)
    → at new name ≡ cond (same_text name key) (change (at old name)) (at old name)
turned old new key change changes name = changes.lists name ∙ ap (λ b. cond b (change (at old name)) (at old name))
    (same_laws.symm key name)

-- room for a number stays as another text's list gets one, or it got this one
pub still_room : (old new : UnderName) (key : List ℕ) (n : ℕ) → Changes old new key (λ numbers. with_number numbers n) → (name : List ℕ)
    → HasRoom old name n → HasRoom new name n
still_room old new key n changes name had fresh =
    elim (cases_Bool (same_text key name)) [
      | inl same ↦ absurd (true≢false (sym (has_with (at old name) n) ∙ sym
          (ap (λ l. has l n) (changes.lists name ∙ ap (λ b. cond b (with_number (at old name) n) (at old name)) same)) ∙ fresh))
      | inr apart ↦
          let list : at new name ≡ at old name = changes.lists name ∙ ap (λ b. cond b (with_number (at old name) n) (at old name)) apart in
          omega (arith, had (sym (ap (λ l. has l n) list) ∙ fresh), changes.rooms name apart)
    ]

pub same_room : (lists : UnderName) (a b : List ℕ) → same_text a b ≡ true → room lists a ≡ room lists b
same_room lists a b same = ap room_in (lookup_same lists.entries a b same)

pub on_ok : {T E : Type 0} (r : Result T E) (P Q : Type 0) → OnOk r P → (P → Q) → OnOk r Q
on_ok (Ok x) P Q h f = f h
on_ok (Err e) P Q h f = h

-- ## A row less

pub left : (p : NeedRow → Bool) (rows : List NeedRow) (row : NeedRow) (n : ℕ) → AreRisingBy key_of rows
    → find (is_row n) rows ≡ Some row
    → cond (p row) (without_number (numbers_if p rows) n) (numbers_if p rows) ≡ numbers_if p
    (filter (λ (r : NeedRow). not (is_row n r)) rows)
left p rows row n rising found =
    elim (cases_Bool (p row)) [
      | inl passes ↦ rw passes (sym (listing.removed p rows n))
      | inr fails ↦ rw fails (sym (listing.unlisted p rows row n rising found fails) ∙ sym (listing.removed p rows n))
    ]

none_passes : (p : NeedRow → Bool) (rows : List NeedRow) → find p rows ≡ None → AllByRecursion (λ (row : NeedRow). p row ≡ false) rows
none_passes p [] none = tt
none_passes p (row ∷ rows) none =
    elim (p row) as (λ b. p row ≡ b → cond b (Some row) (find p rows) ≡ None → AllByRecursion (λ (r : NeedRow). p r ≡ false) (row ∷ rows)) [
      | true ↦ λ e h. absurd (cc h)
      | false ↦ λ e h. (e, none_passes p rows h)
    ] refl none

pub none_leaves : (n : ℕ) (rows : List NeedRow) → find (is_row n) rows ≡ None
    → filter (λ (row : NeedRow). not (is_row n row)) rows ≡ rows
none_leaves n rows none = by rows (none_passes (is_row n) rows none)
  where
    by : (rs : List NeedRow) → AllByRecursion (λ (row : NeedRow). is_row n row ≡ false) rs
        → filter (λ (row : NeedRow). not (is_row n row)) rs ≡ rs
    by [] all = refl
    by (row ∷ rs) all = rw all.0 (ap (λ rest. row ∷ rest) (by rs all.1))

pub none_instead : (new : NeedRow) (rows : List NeedRow) → find (is_row new.number) rows ≡ None → map (instead new) rows ≡ rows
none_instead new rows none = by rows (none_passes (is_row new.number) rows none)
  where
    by : (rs : List NeedRow) → AllByRecursion (λ (row : NeedRow). is_row new.number row ≡ false) rs → map (instead new) rs ≡ rs
    by [] all = refl
    by (row ∷ rs) all = rw all.0 (ap (λ rest. row ∷ rest) (by rs all.1))

all_filter : (P : NeedRow → Type 0) (p : NeedRow → Bool) (rows : List NeedRow) → AllByRecursion P rows → AllByRecursion P (filter p rows)
all_filter P p [] all = tt
all_filter P p (row ∷ rows) all =
    elim (p row) as (λ b. AllByRecursion P (cond b (row ∷ filter p rows) (filter p rows))) [
      | true ↦ (all.0, all_filter P p rows all.1)
      | false ↦ all_filter P p rows all.1
    ]

pub rising_filter : (p : NeedRow → Bool) (rows : List NeedRow) → AreRisingBy key_of rows → AreRisingBy key_of (filter p rows)
rising_filter p [] rising = tt
rising_filter p (row ∷ rows) rising =
    elim (p row) as (λ b. AreRisingBy key_of (cond b (row ∷ filter p rows) (filter p rows))) [
      | true ↦ (all_filter (λ (other : NeedRow). row.number < other.number) p rows rising.0, rising_filter p rows rising.1)
      | false ↦ rising_filter p rows rising.1
    ]

-- ## A row is put in

-- a number is had where a row has it
pub has_found : (n : ℕ) (rows : List NeedRow) → has (numbers_of rows) n ≡ true → (row : NeedRow)
    × (find (is_row n) rows ≡ Some row)
has_found n [] had = absurd (cc had)
has_found n (row ∷ rows) had =
    elim (cases_order row.number n) [
      | inl same ↦ (row, rw (eq-eqb row.number n same) refl)
      | inr (inl less) ↦
          let next = has_found n rows (rw (ne_eqb n row.number (omega arith)) at had) in
          (next.0, rw (ne_eqb row.number n (omega arith)) next.1)
      | inr (inr more) ↦
          let next = has_found n rows (rw (ne_eqb n row.number (omega arith)) at had) in
          (next.0, rw (ne_eqb row.number n (omega arith)) next.1)
    ]

pub had_none : (n : ℕ) (rows : List NeedRow) → has (numbers_of rows) n ≡ false → find (is_row n) rows ≡ None
had_none n [] had = refl
had_none n (row ∷ rows) had =
    elim (cases_order row.number n) [
      | inl same ↦ absurd (cc (rw (eq-eqb n row.number (sym same)) at had))
      | inr (inl less) ↦ rw (ne_eqb row.number n (omega arith)) (had_none n rows (rw (ne_eqb n row.number (omega arith)) at had))
      | inr (inr more) ↦ rw (ne_eqb row.number n (omega arith)) (had_none n rows (rw (ne_eqb n row.number (omega arith)) at had))
    ]

pub copied : (o : Option (Bor NeedRow)) → is_some (option_copied o) ≡ is_some o
copied None = refl
copied (Some row) = refl

pub found_is : (n : ℕ) (rows : List NeedRow) → is_some (find (is_row n) rows) ≡ has (numbers_of rows) n
found_is n rows =
    elim (cases_Bool (has (numbers_of rows) n)) [
      | inl had ↦ rw ((has_found n rows had).1, had) refl
      | inr fresh ↦ rw (had_none n rows fresh, fresh) refl
    ]

-- the numbers of all rows are below one that none has, where none is above it
pub all_below : (n : ℕ) (rows : List NeedRow) → has (numbers_of rows) n ≡ false
    → is_some (option_map key_of (find (is_above key_of n) rows)) ≡ false → AllByRecursion (λ (row : NeedRow). row.number < n) rows
all_below n [] fresh none = tt
all_below n (row ∷ rows) fresh none =
    elim (cases_order n row.number) [
      | inl same ↦ absurd (cc (rw (eq-eqb n row.number same) at fresh))
      | inr (inl less) ↦ absurd (cc (rw (lt-ltb n row.number less) at none))
      | inr (inr more) ↦
          (more, all_below n rows (rw (ne_eqb n row.number (omega arith)) at fresh) (rw (le-ltb n row.number (omega arith)) at none))
    ]

pub below_fresh : (n : ℕ) (rows : List NeedRow) → AllByRecursion (λ (row : NeedRow). row.number < n) rows
    → has (numbers_of rows) n ≡ false
below_fresh n [] below = refl
below_fresh n (row ∷ rows) below = rw (ne_eqb n row.number (omega (arith, below.0))) (below_fresh n rows below.1)

pub none_above : (n : ℕ) (rows : List NeedRow) → AllByRecursion (λ (row : NeedRow). row.number < n) rows
    → is_some (option_map key_of (find (is_above key_of n) rows)) ≡ false
none_above n [] below = refl
none_above n (row ∷ rows) below = rw (le-ltb n row.number (omega (arith, below.0))) (none_above n rows below.1)

pub put_lists : (p : NeedRow → Bool) (rows : List NeedRow) (new : NeedRow) → AreRisingBy key_of rows → IsNext rows new.number
    → numbers_if p (with_row rows new) ≡ cond (p new) (with_number (numbers_if p
    (filter (λ (r : NeedRow). not (is_row new.number r)) rows)) new.number)
    (numbers_if p (filter (λ (r : NeedRow). not (is_row new.number r)) rows))
put_lists p rows new rising next =
    elim (cases_Bool (has (numbers_of rows) new.number)) [
      | inl had ↦
          let found = has_found new.number rows had in
          let whole : with_row rows new ≡ map (instead new) rows = ap (λ b. map (instead new) rows ++ cond b [] (new ∷ [])) had
          ∙ append-nil (map (instead new) rows) in
          ap (numbers_if p) whole
          ∙ listing.replaced p rows found.0 new.number (λ (r : NeedRow). new) (p new) (λ (r : NeedRow). refl)
          (λ (r : NeedRow) is. refl) rising found.1
          ∙ ap (λ l. cond (p new) (with_number l new.number) l) (sym (listing.removed p rows new.number))
      | inr fresh ↦
          let none = had_none new.number rows fresh in
          let whole : with_row rows new ≡ rows ++ new ∷ [] = ap (λ b. map (instead new) rows ++ cond b [] (new ∷ [])) fresh
          ∙ ap (λ l. l ++ new ∷ []) (none_instead new rows none) in
          ap (numbers_if p) whole ∙ listing.pushed p rows new (next fresh)
          ∙ ap (λ l. cond (p new) (with_number (numbers_if p l) new.number) (numbers_if p l)) (sym (none_leaves new.number rows none))
    ]

all_instead : (low : ℕ) (new : NeedRow) (rows : List NeedRow) → AllByRecursion (λ (row : NeedRow). low < row.number) rows
    → AllByRecursion (λ (row : NeedRow). low < row.number) (map (instead new) rows)
all_instead low new [] all = tt
all_instead low new (row ∷ rows) all = (
  elim (is_row new.number row) as (λ b. is_row new.number row ≡ b → low < (cond b new row).number) [
    | true ↦ λ e. omega (arith, all.0, eqb-true row.number new.number e)
    | false ↦ λ e. all.0
  ] refl,
  all_instead low new rows all.1,
)

rising_instead : (new : NeedRow) (rows : List NeedRow) → AreRisingBy key_of rows → AreRisingBy key_of (map (instead new) rows)
rising_instead new [] rising = tt
rising_instead new (row ∷ rows) rising = (
  elim (is_row new.number row) as (λ b. is_row new.number row ≡ b
      → AllByRecursion (λ (other : NeedRow). (cond b new row).number < other.number) (map (instead new) rows)) [
        | true ↦ λ e. subst (λ n. AllByRecursion (λ (other : NeedRow). n < other.number) (map (instead new) rows))
            (eqb-true row.number new.number e) (all_instead row.number new rows rising.0)
        | false ↦ λ e. all_instead row.number new rows rising.0
      ] refl,
  rising_instead new rows rising.1,
)

rising_pushed : (rows : List NeedRow) (new : NeedRow) → AreRisingBy key_of rows
    → AllByRecursion (λ (row : NeedRow). row.number < new.number) rows → AreRisingBy key_of (rows ++ new ∷ [])
rising_pushed [] new rising below = (tt, tt)
rising_pushed (row ∷ rows) new rising below = (by rows rising.0, rising_pushed rows new rising.1 below.1)
  where
    by : (rs : List NeedRow) → AllByRecursion (λ (other : NeedRow). row.number < other.number) rs
        → AllByRecursion (λ (other : NeedRow). row.number < other.number) (rs ++ new ∷ [])
    by [] all = (below.0, tt)
    by (r ∷ rs) all = (all.0, by rs all.1)

pub rising_put : (rows : List NeedRow) (new : NeedRow) → AreRisingBy key_of rows → IsNext rows new.number
    → AreRisingBy key_of (with_row rows new)
rising_put rows new rising next =
    elim (cases_Bool (has (numbers_of rows) new.number)) [
      | inl had ↦
          let whole : with_row rows new ≡ map (instead new) rows = ap (λ b. map (instead new) rows ++ cond b [] (new ∷ [])) had
          ∙ append-nil (map (instead new) rows) in
          rw whole (rising_instead new rows rising)
      | inr fresh ↦
          let none = had_none new.number rows fresh in
          let whole : with_row rows new ≡ rows ++ new ∷ [] = ap (λ b. map (instead new) rows ++ cond b [] (new ∷ [])) fresh
          ∙ ap (λ l. l ++ new ∷ []) (none_instead new rows none) in
          rw whole (rising_pushed rows new rising (next fresh))
    ]

-- as many of the numbers pass as rows do
pub counted : (p : NeedRow → Bool) (q : ℕ → Bool) (rows : List NeedRow)
    → length (filter q (numbers_if p rows)) ≡ length (filter (λ (row : NeedRow). p row && q row.number) rows)
counted p q [] = refl
counted p q (row ∷ rows) =
    elim (p row) as (λ b. length (filter q (map key_of (cond b (row ∷ filter p rows) (filter p rows)))) ≡ length
    (cond (b && q row.number) (row ∷ filter (λ (r : NeedRow). p r && q r.number) rows)
    (filter (λ (r : NeedRow). p r && q r.number) rows))) [
      | true ↦ elim (q row.number) as (λ b. length (cond b (row.number ∷ filter q (numbers_if p rows)) (filter q (numbers_if p rows))) ≡
          length (cond b (row ∷ filter (λ (r : NeedRow). p r && q r.number) rows) (filter (λ (r : NeedRow). p r && q r.number) rows))) [
            | true ↦ ap suc (counted p q rows)
            | false ↦ counted p q rows
          ]
      | false ↦ counted p q rows
    ]

-- lists with the same numbers are those of the same rows
pub still_of : (old new : KeptLists) (rows : List NeedRow) → SameNumbers old new → AreOf old rows → AreOf new rows
still_of old new rows same lists = record {
  called = λ (name : List ℕ). same.called name ∙ lists.called name;
  named = λ (name : List ℕ). same.named name ∙ lists.named name;
  grouped = λ (group : List ℕ). same.grouped group ∙ lists.grouped group;
}
