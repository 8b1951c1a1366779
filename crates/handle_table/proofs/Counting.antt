-- Counts of handles, as handles come and go.
use Rattle.std.proofs.Common.{ℕ, ◌≡◌, ◌<◌, ◌≤◌, ◌+◌, ◌-◌, ◌∙◌, suc, Bool, true, false, not, cond, ◌&&◌, ◌||◌, List, [], ◌∷◌, ◌++◌, Option}
use Rattle.std.proofs.Common.{Some, None, is_some, refl, sym, ap, subst, eqb, length, filter, find, arith, inl, inr}
use Rattle.std.specs.List.{AllByRecursion, list_any}
use Rattle.std.proofs.lemmas.Bool.{eq-eqb, ne_eqb, eqb-true, cases_Bool}
use Rattle.scm_model.specs.declared.flat.HandleRow.{HandleRow}
use Rattle.row_slab.specs.Rowed.{AreRisingBy}
use Rattle.handle_table.specs.Handled.{matches, is_handle}

abbrev pub number_of : HandleRow → ℕ
number_of row = row.number

pub raised : (p : HandleRow → Bool) (rows : List HandleRow) (new : HandleRow)
    → length (filter p (rows ++ new ∷ [])) ≡ cond (p new) (length (filter p rows) + 1) (length (filter p rows))
raised p [] new = elim (p new) as (λ b. length (cond b (new ∷ []) []) ≡ cond b (0 + 1) 0) [ true ↦ refl | false ↦ refl ]
raised p (row ∷ rows) new =
    elim (p row) as (λ b. length (cond b (row ∷ filter p (rows ++ new ∷ [])) (filter p (rows ++ new ∷ []))) ≡ cond (p new)
    (length (cond b (row ∷ filter p rows) (filter p rows)) + 1) (length (cond b (row ∷ filter p rows) (filter p rows)))) [
      | true ↦ ap suc (raised p rows new) ∙ elim (p new) as (λ b. suc (cond b (length (filter p rows) + 1) (length (filter p rows))) ≡ cond
          b (suc (length (filter p rows)) + 1) (suc (length (filter p rows)))) [ true ↦ omega arith | false ↦ refl ]
      | false ↦ raised p rows new
    ]

pub few : (p : HandleRow → Bool) (rows : List HandleRow) → length (filter p rows) ≤ length rows
few p [] = omega arith
few p (row ∷ rows) =
    elim (p row) as (λ b. length (cond b (row ∷ filter p rows) (filter p rows)) ≤ suc (length rows)) [
      | true ↦ omega (arith, few p rows)
      | false ↦ omega (arith, few p rows)
    ]

pub some_counted : (p : HandleRow → Bool) (rows : List HandleRow) → not (eqb (length (filter p rows)) 0) ≡ list_any p rows
some_counted p [] = refl
some_counted p (row ∷ rows) =
    elim (p row) as (λ b. not (eqb (length (cond b (row ∷ filter p rows) (filter p rows))) 0) ≡ (b || list_any p rows)) [
      | true ↦ rw (ne_eqb (suc (length (filter p rows))) 0 (omega arith)) refl
      | false ↦ some_counted p rows
    ]

stays_all : (n : ℕ) (rows : List HandleRow) → AllByRecursion (λ (row : HandleRow). n < row.number) rows
    → filter (λ (row : HandleRow). not (matches n row)) rows ≡ rows
stays_all n [] all = refl
stays_all n (row ∷ rows) all = rw (ne_eqb row.number n (omega (arith, all.0))) (ap (λ rest. row ∷ rest) (stays_all n rows all.1))

later : (n : ℕ) (row : HandleRow) (rows : List HandleRow) → AreRisingBy number_of (row ∷ rows) → matches n row ≡ true
    → AllByRecursion (λ (other : HandleRow). n < other.number) rows
later n row rows rising is = subst (λ m. AllByRecursion (λ (other : HandleRow). m < other.number) rows) (eqb-true row.number n is) rising.0

same_row : (n : ℕ) (row gone : HandleRow) (rows : List HandleRow) → matches n row ≡ true → find (matches n) (row ∷ rows) ≡ Some gone
    → row ≡ gone
same_row n row gone rows is found = cc (sym (ap (λ b. cond b (Some row) (find (matches n) rows)) is) ∙ found)

next_row : (n : ℕ) (row gone : HandleRow) (rows : List HandleRow) → matches n row ≡ false → find (matches n) (row ∷ rows) ≡ Some gone
    → find (matches n) rows ≡ Some gone
next_row n row gone rows other found = sym (ap (λ b. cond b (Some row) (find (matches n) rows)) other) ∙ found

pub one_at_least : (p : HandleRow → Bool) (rows : List HandleRow) (gone : HandleRow) (n : ℕ) → find (matches n) rows ≡ Some gone
    → p gone ≡ true → 1 ≤ length (filter p rows)
one_at_least p [] gone n found passes = absurd (cc found)
one_at_least p (row ∷ rows) gone n found passes =
    elim (cases_Bool (matches n row)) [
      | inl is ↦ rw (same_row n row gone rows is found, passes) (omega arith)
      | inr other ↦
          let rest = one_at_least p rows gone n (next_row n row gone rows other found) passes in
          elim (p row) as (λ b. 1 ≤ length (cond b (row ∷ filter p rows) (filter p rows))) [ true ↦ omega arith | false ↦ rest ]
    ]

pub lowered : (p : HandleRow → Bool) (rows : List HandleRow) (gone : HandleRow) (n : ℕ) → AreRisingBy number_of rows
    → find (matches n) rows ≡ Some gone
    → length (filter p (filter (λ (row : HandleRow). not (matches n row)) rows)) ≡ cond (p gone) (length (filter p rows) - 1)
    (length (filter p rows))
lowered p [] gone n rising found = absurd (cc found)
lowered p (row ∷ rows) gone n rising found =
    elim (cases_Bool (matches n row)) [
      | inl is ↦
          rw (is, stays_all n rows (later n row rows rising is), ← same_row n row gone rows is found)
          (elim (p row) as (λ b. length (filter p rows) ≡ cond b (length (cond b (row ∷ filter p rows) (filter p rows)) - 1)
          (length (cond b (row ∷ filter p rows) (filter p rows)))) [ true ↦ omega arith | false ↦ refl ])
      | inr other ↦
          let next = next_row n row gone rows other found in
          let step = lowered p rows gone n rising.1 next in
          rw other (elim (p row) as (λ b. length (cond b (row ∷ filter p (filter (λ (r : HandleRow). not (matches n r)) rows))
          (filter p (filter (λ (r : HandleRow). not (matches n r)) rows)))
          ≡ cond (p gone) (length (cond b (row ∷ filter p rows) (filter p rows)) - 1)
          (length (cond b (row ∷ filter p rows) (filter p rows)))) [
            | true ↦ ap suc step ∙ by (p gone) (one_at_least p rows gone n next)
            | false ↦ step
          ])
    ]
  where
    by : (b : Bool) → (b ≡ true → 1 ≤ length (filter p rows)) → suc (cond b (length (filter p rows) - 1) (length (filter p rows))) ≡ cond b
        (suc (length (filter p rows)) - 1) (suc (length (filter p rows)))
    by true some = omega (arith, some refl)
    by false some = refl

-- ## A caller's handle with a number

none_passes : (p : HandleRow → Bool) (rows : List HandleRow) → find p rows ≡ None → AllByRecursion (λ (row : HandleRow). p row ≡ false) rows
none_passes p [] none = tt
none_passes p (row ∷ rows) none =
    elim (p row) as (λ b. p row ≡ b → cond b (Some row) (find p rows) ≡ None
    → AllByRecursion (λ (r : HandleRow). p r ≡ false) (row ∷ rows)) [
      | true ↦ λ e h. absurd (cc h)
      | false ↦ λ e h. (e, none_passes p rows h)
    ] refl none

pub stays_none : (p : HandleRow → Bool) (rows : List HandleRow) → find p rows ≡ None → filter (λ (row : HandleRow). not (p row)) rows ≡ rows
stays_none p rows none = by rows (none_passes p rows none)
  where
    by : (rs : List HandleRow) → AllByRecursion (λ (row : HandleRow). p row ≡ false) rs → filter (λ (row : HandleRow). not (p row)) rs ≡ rs
    by [] all = refl
    by (row ∷ rs) all = rw all.0 (ap (λ rest. row ∷ rest) (by rs all.1))

both_false : (a b : Bool) → b ≡ false → (a && b) ≡ false
both_false true b e = e
both_false false b e = refl

both_true : (a b : Bool) → b ≡ true → (a && b) ≡ a
both_true true b e = e
both_true false b e = refl

pub none_of : (caller n : ℕ) (rows : List HandleRow) → find (matches n) rows ≡ None → find (is_handle caller n) rows ≡ None
none_of caller n rows none = by rows (none_passes (matches n) rows none)
  where
    by : (rs : List HandleRow) → AllByRecursion (λ (row : HandleRow). matches n row ≡ false) rs → find (is_handle caller n) rs ≡ None
    by [] all = refl
    by (row ∷ rs) all = rw (both_false (eqb row.caller caller) (eqb row.number n) all.0) (by rs all.1)

none_later : (caller n : ℕ) (rows : List HandleRow) → AllByRecursion (λ (row : HandleRow). n < row.number) rows
    → find (is_handle caller n) rows ≡ None
none_later caller n [] all = refl
none_later caller n (row ∷ rows) all = rw (both_false (eqb row.caller caller) (eqb row.number n)
    (ne_eqb row.number n (omega (arith, all.0)))) (none_later caller n rows all.1)

pub found_of : (caller n : ℕ) (rows : List HandleRow) (gone : HandleRow) → AreRisingBy number_of rows → find (matches n) rows ≡ Some gone
    → find (is_handle caller n) rows ≡ cond (eqb gone.caller caller) (Some gone) None
found_of caller n [] gone rising found = absurd (cc found)
found_of caller n (row ∷ rows) gone rising found =
    elim (cases_Bool (matches n row)) [
      | inl is ↦ rw (
        both_true (eqb row.caller caller) (eqb row.number n) is,
        none_later caller n rows (later n row rows rising is),
        same_row n row gone rows is found,
      ) refl
      | inr other ↦ rw (both_false (eqb row.caller caller) (eqb row.number n) other)
          (found_of caller n rows gone rising.1 (next_row n row gone rows other found))
    ]

same_kept : (caller n : ℕ) (rows : List HandleRow) → AllByRecursion (λ (row : HandleRow). n < row.number) rows
    → filter (λ (row : HandleRow). not (is_handle caller n row)) rows ≡ rows
same_kept caller n [] all = refl
same_kept caller n (row ∷ rows) all = rw (both_false (eqb row.caller caller) (eqb row.number n)
    (ne_eqb row.number n (omega (arith, all.0)))) (ap (λ rest. row ∷ rest) (same_kept caller n rows all.1))

-- where the caller has the handle with the number, it is the one that leaves
pub leaves_of : (caller n : ℕ) (rows : List HandleRow) (gone : HandleRow) → AreRisingBy number_of rows
    → find (matches n) rows ≡ Some gone → eqb gone.caller caller ≡ true
    → filter (λ (row : HandleRow). not (is_handle caller n row)) rows ≡ filter (λ (row : HandleRow). not (matches n row)) rows
leaves_of caller n [] gone rising found his = refl
leaves_of caller n (row ∷ rows) gone rising found his =
    elim (cases_Bool (matches n row)) [
      | inl is ↦
          let mine : eqb row.caller caller ≡ true = ap (λ (r : HandleRow). eqb r.caller caller) (same_row n row gone rows is found) ∙ his in
          rw (mine, is, same_kept caller n rows (later n row rows rising is), stays_all n rows (later n row rows rising is)) refl
      | inr other ↦ rw (both_false (eqb row.caller caller) (eqb row.number n) other, other)
          (ap (λ rest. row ∷ rest) (leaves_of caller n rows gone rising.1 (next_row n row gone rows other found) his))
    ]

pub below_filter : (next : ℕ) (p : HandleRow → Bool) (rows : List HandleRow) → AllByRecursion (λ (row : HandleRow). row.number < next) rows
    → AllByRecursion (λ (row : HandleRow). row.number < next) (filter p rows)
below_filter next p [] all = tt
below_filter next p (row ∷ rows) all =
    elim (p row) as (λ b. AllByRecursion (λ (kept : HandleRow). kept.number < next) (cond b (row ∷ filter p rows) (filter p rows))) [
      | true ↦ (all.0, below_filter next p rows all.1)
      | false ↦ below_filter next p rows all.1
    ]

pub below_pushed : (next : ℕ) (rows : List HandleRow) (new : HandleRow) → AllByRecursion (λ (row : HandleRow). row.number < next) rows
    → new.number ≡ next → AllByRecursion (λ (row : HandleRow). row.number < next + 1) (rows ++ new ∷ [])
below_pushed next [] new all is = (omega (arith, is), tt)
below_pushed next (row ∷ rows) new all is = (omega (arith, all.0), below_pushed next rows new all.1 is)

-- where the caller has the handle, it is the one with the number
pub his_row : (caller n : ℕ) (rows : List HandleRow) → AreRisingBy number_of rows → is_some (find (is_handle caller n) rows) ≡ true
    → (find (matches n) rows ≡ find (is_handle caller n) rows) × (filter (λ (row : HandleRow). not (matches n row)) rows ≡ filter
    (λ (row : HandleRow). not (is_handle caller n row)) rows)
his_row caller n rows rising some = by (find (matches n) rows) refl
  where
    by : (o : Option HandleRow) → find (matches n) rows ≡ o
        → (find (matches n) rows ≡ find (is_handle caller n) rows) ×
        (filter (λ (row : HandleRow). not (matches n row)) rows ≡ filter (λ (row : HandleRow). not (is_handle caller n row)) rows)
    by None e = absurd (cc (sym some ∙ ap is_some (none_of caller n rows e)))
    by (Some gone) e =
        let his = found_of caller n rows gone rising e in
        elim (cases_Bool (eqb gone.caller caller)) [
          | inl mine ↦ (e ∙ sym (his ∙ ap (λ b. cond b (Some gone) None) mine), sym (leaves_of caller n rows gone rising e mine))
          | inr other ↦ absurd (cc (sym some ∙ ap is_some (his ∙ ap (λ b. cond b (Some gone) None) other)))
        ]

pub is_none_of : (o : Option HandleRow) → is_some o ≡ false → o ≡ None
is_none_of None e = refl
is_none_of (Some row) e = absurd (cc e)

-- ## All handles of a caller

pub others_stay : (p : HandleRow → Bool) (rows : List HandleRow) (gone : HandleRow) (n : ℕ) → AreRisingBy number_of rows
    → find (matches n) rows ≡ Some gone → p gone ≡ true
    → filter (λ (row : HandleRow). not (p row)) (filter (λ (row : HandleRow). not (matches n row)) rows) ≡ filter
    (λ (row : HandleRow). not (p row)) rows
others_stay p [] gone n rising found passes = refl
others_stay p (row ∷ rows) gone n rising found passes =
    elim (cases_Bool (matches n row)) [
      | inl is ↦
          let mine : p row ≡ true = ap p (same_row n row gone rows is found) ∙ passes in
          rw (is, stays_all n rows (later n row rows rising is), mine) refl
      | inr other ↦
          let step = others_stay p rows gone n rising.1 (next_row n row gone rows other found) passes in
          rw other (elim (p row) as (λ b. cond (not b) (row ∷ filter (λ (r : HandleRow). not (p r))
          (filter (λ (r : HandleRow). not (matches n r)) rows)) (filter (λ (r : HandleRow). not (p r))
          (filter (λ (r : HandleRow). not (matches n r)) rows))
          ≡ cond (not b) (row ∷ filter (λ (r : HandleRow). not (p r)) rows) (filter (λ (r : HandleRow). not (p r)) rows)) [
            | true ↦ step
            | false ↦ ap (λ rest. row ∷ rest) step
          ])
    ]

pub fewer : (rows : List HandleRow) (gone : HandleRow) (n : ℕ) → AreRisingBy number_of rows → find (matches n) rows ≡ Some gone
    → length (filter (λ (row : HandleRow). not (matches n row)) rows) < length rows
fewer [] gone n rising found = absurd (cc found)
fewer (row ∷ rows) gone n rising found =
    elim (cases_Bool (matches n row)) [
      | inl is ↦ rw is (omega (arith, few (λ (r : HandleRow). not (matches n r)) rows))
      | inr other ↦ rw other (omega (arith, fewer rows gone n rising.1 (next_row n row gone rows other found)))
    ]

-- ## Numbers under their callers

any_later : (caller m n : ℕ) (rows : List HandleRow) → m ≤ n → AllByRecursion (λ (row : HandleRow). n < row.number) rows
    → list_any (is_handle caller m) rows ≡ false
any_later caller m n [] le all = refl
any_later caller m n (row ∷ rows) le all =
    rw (both_false (eqb row.caller caller) (eqb row.number m) (ne_eqb row.number m (omega (arith, all.0, le))))
    (any_later caller m n rows le all.1)

its_number : (caller m : ℕ) (row : HandleRow) → is_handle caller m row ≡ true → row.number ≡ m
its_number caller m row is = eqb-true row.number m (right (eqb row.caller caller) (eqb row.number m) is)
  where
    right : (a b : Bool) → (a && b) ≡ true → b ≡ true
    right true b e = e
    right false b e = absurd (cc e)

-- a handle that is there has a number below those to come
pub any_below : (caller n next : ℕ) (rows : List HandleRow) → AllByRecursion (λ (row : HandleRow). row.number < next) rows
    → list_any (is_handle caller n) rows ≡ true → n < next
any_below caller n next [] all some = absurd (cc some)
any_below caller n next (row ∷ rows) all some =
    elim (cases_Bool (is_handle caller n row)) [
      | inl is ↦ omega (arith, all.0, its_number caller n row is)
      | inr isnt ↦ any_below caller n next rows all.1 (sym (ap (λ b. b || list_any (is_handle caller n) rows) isnt) ∙ some)
    ]

-- the row of a caller's number
pub held_row : (caller n : ℕ) (rows : List HandleRow) → AreRisingBy number_of rows → list_any (is_handle caller n) rows ≡ true
    → (row : HandleRow) × (find (matches n) rows ≡ Some row) × (eqb row.caller caller ≡ true)
held_row caller n [] rising some = absurd (cc some)
held_row caller n (row ∷ rows) rising some =
    elim (cases_Bool (matches n row)) [
      | inl is ↦ (
        row,
        rw is refl,
        elim (cases_Bool (eqb row.caller caller)) [
          | inl mine ↦ mine
          | inr other ↦ absurd (cc (sym some ∙ ap (λ b. b || list_any (is_handle caller n) rows) (ap (λ b. b && eqb row.number n) other)
              ∙ any_later caller n n rows (omega arith) (later n row rows rising is)))
        ],
      )
      | inr other ↦
          let rest = held_row caller n rows rising.1 (sym (ap (λ b. b || list_any (is_handle caller n) rows)
          (both_false (eqb row.caller caller) (eqb row.number n) other)) ∙ some) in
          (rest.0, (ap (λ b. cond b (Some row) (find (matches n) rows)) other ∙ rest.1), rest.2)
    ]

-- a row that is found is its caller's
pub any_of : (caller n : ℕ) (rows : List HandleRow) (row : HandleRow) → find (matches n) rows ≡ Some row → eqb row.caller caller ≡ true
    → list_any (is_handle caller n) rows ≡ true
any_of caller n [] row found his = absurd (cc found)
any_of caller n (other ∷ rows) row found his =
    elim (cases_Bool (matches n other)) [
      | inl is ↦ rw (
        both_true (eqb other.caller caller) (eqb other.number n) is,
        same_row n other row rows is found,
        his,
      ) refl
      | inr isnt ↦ rw (both_false (eqb other.caller caller) (eqb other.number n) isnt)
          (any_of caller n rows row (next_row n other row rows isnt found) his)
    ]

-- who has no number has no handle
pub none_his : (caller : ℕ) (rows : List HandleRow) → ((n : ℕ) → list_any (is_handle caller n) rows ≡ false)
    → find (λ (row : HandleRow). eqb row.caller caller) rows ≡ None
none_his caller [] none = refl
none_his caller (row ∷ rows) none =
    elim (cases_Bool (eqb row.caller caller)) [
      | inl mine ↦ absurd (cc (sym (none row.number) ∙ ap (λ b. b || list_any (is_handle caller row.number) rows)
          (both_true (eqb row.caller caller) (eqb row.number row.number) (eq-eqb row.number row.number refl) ∙ mine)))
      | inr other ↦ rw other (none_his caller rows (λ n. right (is_handle caller n row) (list_any (is_handle caller n) rows) (none n)))
    ]
  where
    right : (a b : Bool) → (a || b) ≡ false → b ≡ false
    right true b e = absurd (cc e)
    right false b e = e
