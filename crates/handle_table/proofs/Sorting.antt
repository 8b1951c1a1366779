-- Handles under their numbers, in order.
use Rattle.std.proofs.Common.{ℕ, ◌≡◌, ◌<◌, ◌∙◌, suc, Bool, true, false, not, cond, List, [], ◌∷◌, ◌++◌, Option, Some, None, refl, sym, ap}
use Rattle.std.proofs.Common.{subst, eqb, length, filter, find, arith, inl, inr}
use Rattle.std.specs.Prelude.{nat_le}
use Rattle.std.specs.List.{AllByRecursion, IsDistinct}
use Rattle.std.specs.Map.{keys_of, lookup}
use Rattle.std.proofs.lemmas.Bool.{eq-eqb, ne_eqb, eqb-true, eqb-false, leb-true, leb-false, cases_Bool, cases_order}
use Rattle.std.proofs.lemmas.Map.Keys.{IsDistinct-head, IsDistinct-tail}
use Rattle.scm_model.specs.declared.flat.HandleRow.{HandleRow}
use Rattle.row_slab.specs.Rowed.{AreRisingBy}
use Rattle.handle_table.specs.Handled.{matches}
use Rattle.handle_table.specs.Numbered.{AreNumbered, put_row, ordered}

abbrev number_of : HandleRow → ℕ
number_of row = row.number

abbrev pub Entries : Type 0
Entries = List (ℕ × HandleRow)

-- ## A handle is found

found_put : (n : ℕ) (row : HandleRow) (rows : List HandleRow) → find (matches n) (put_row row rows) ≡ cond (eqb row.number n) (Some row)
    (find (matches n) rows)
found_put n row [] = refl
found_put n row (other ∷ rows) =
    elim (nat_le row.number other.number) as (λ b. nat_le row.number other.number ≡ b
    → find (matches n) (cond b (row ∷ other ∷ rows) (other ∷ put_row row rows)) ≡ cond (eqb row.number n) (Some row)
    (find (matches n) (other ∷ rows))) [
      | true ↦ λ e. refl
      | false ↦ λ e. elim (cases_Bool (eqb other.number n)) [
        | inl is ↦ rw (
          is,
          ne_eqb row.number n (λ same. omega (
            arith,
            same,
            eqb-true other.number n is,
            leb-false row.number other.number e,
          )),
        ) refl
        | inr isnt ↦ rw isnt (found_put n row rows)
      ]
    ] refl

none_under : (n : ℕ) (es : Entries) → AllByRecursion (λ (k : ℕ). eqb n k ≡ false) (keys_of es) → lookup (eqb n) es ≡ None
none_under n [] all = refl
none_under n (e ∷ es) all = rw all.0 (none_under n es all.1)

gone_below : (e : ℕ × HandleRow) (es : Entries) → AreNumbered (e ∷ es) → lookup (eqb e.0) es ≡ None
gone_below e es kept = none_under e.0 es (IsDistinct-head eqb e.0 (keys_of es) kept.once)

own_first : (e : ℕ × HandleRow) (es : Entries) → AreNumbered (e ∷ es) → e.1.number ≡ e.0
own_first e es kept = kept.own e.0 e.1 (rw (eq-eqb e.0 e.0 refl) refl)

rest_numbered : (e : ℕ × HandleRow) (es : Entries) → AreNumbered (e ∷ es) → AreNumbered es
rest_numbered e es kept = record {
  once = IsDistinct-tail eqb e.0 (keys_of es) kept.once;
  own = λ n row found. elim (cases_Bool (eqb n e.0)) [
    | inl is ↦ absurd (cc (sym (ap (λ (k : ℕ). lookup (eqb k) es) (eqb-true n e.0 is) ∙ gone_below e es kept) ∙ found))
    | inr isnt ↦ kept.own n row (rw isnt found)
  ];
}

turned : (a b : ℕ) → eqb a b ≡ eqb b a
turned a b =
    elim (cases_Bool (eqb b a)) [
      | inl is ↦ eq-eqb a b (sym (eqb-true b a is)) ∙ sym is
      | inr isnt ↦ ne_eqb a b (λ same. eqb-false b a isnt (sym same)) ∙ sym isnt
    ]

-- the handle with a number is the one that stands under it
pub found_is : (es : Entries) (n : ℕ) → AreNumbered es → find (matches n) (ordered es) ≡ lookup (eqb n) es
found_is [] n kept = refl
found_is (e ∷ es) n kept =
    found_put n e.1 (ordered es)
    ∙ rw (own_first e es kept, turned e.0 n, found_is es n (rest_numbered e es kept)) refl

-- ## In order

all_put : (P : HandleRow → Type 0) (row : HandleRow) (rows : List HandleRow) → P row → AllByRecursion P rows
    → AllByRecursion P (put_row row rows)
all_put P row [] one all = (one, tt)
all_put P row (other ∷ rows) one all =
    elim (nat_le row.number other.number) as (λ b. AllByRecursion P (cond b (row ∷ other ∷ rows) (other ∷ put_row row rows))) [
      | true ↦ (one, all)
      | false ↦ (all.0, all_put P row rows one all.1)
    ]

all_above : (n m : ℕ) (rows : List HandleRow) → n < m → AllByRecursion (λ (row : HandleRow). m < row.number) rows
    → AllByRecursion (λ (row : HandleRow). n < row.number) rows
all_above n m [] less all = tt
all_above n m (row ∷ rows) less all = (omega (arith, less, all.0), all_above n m rows less all.1)

not_first : (n : ℕ) (row : HandleRow) (rows : List HandleRow) → find (matches n) (row ∷ rows) ≡ None → (eqb row.number n ≡ false)
    × (find (matches n) rows ≡ None)
not_first n row rows none =
    elim (eqb row.number n) as (λ b. cond b (Some row) (find (matches n) rows) ≡ None
    → (b ≡ false) × (find (matches n) rows ≡ None)) [
      | true ↦ λ h. absurd (cc h)
      | false ↦ λ h. (refl, h)
    ] none

rising_put : (row : HandleRow) (rows : List HandleRow) → AreRisingBy number_of rows → find (matches row.number) rows ≡ None
    → AreRisingBy number_of (put_row row rows)
rising_put row [] rising none = (tt, tt)
rising_put row (other ∷ rows) rising none =
    let apart = not_first row.number other rows none in
    elim (nat_le row.number other.number) as (λ b. nat_le row.number other.number ≡ b
    → AreRisingBy number_of (cond b (row ∷ other ∷ rows) (other ∷ put_row row rows))) [
      | true ↦ λ e.
          let less : row.number < other.number = omega (
            arith,
            leb-true row.number other.number e,
            eqb-false other.number row.number apart.0,
          ) in
          ((less, all_above row.number other.number rows less rising.0), rising)
      | false ↦ λ e. (
        all_put (λ (r : HandleRow). other.number < r.number) row rows (omega (arith, leb-false row.number other.number e)) rising.0,
        rising_put row rows rising.1 apart.1,
      )
    ] refl

pub rising_is : (es : Entries) → AreNumbered es → AreRisingBy number_of (ordered es)
rising_is [] kept = tt
rising_is (e ∷ es) kept =
    let rest = rest_numbered e es kept in
    rising_put e.1 (ordered es) (rising_is es rest)
    (ap (λ (k : ℕ). find (matches k) (ordered es)) (own_first e es kept) ∙ found_is es e.0 rest ∙ gone_below e es kept)

put_one : (row : HandleRow) (rows : List HandleRow) → length (put_row row rows) ≡ suc (length rows)
put_one row [] = refl
put_one row (other ∷ rows) =
    elim (nat_le row.number other.number) as (λ b. length (cond b (row ∷ other ∷ rows) (other ∷ put_row row rows))
    ≡ suc (suc (length rows))) [
      | true ↦ refl
      | false ↦ ap suc (put_one row rows)
    ]

pub as_many : (es : Entries) → length (ordered es) ≡ length es
as_many [] = refl
as_many (e ∷ es) = put_one e.1 (ordered es) ∙ ap suc (as_many es)

-- ## Handles in order are told by what is found among them

none_below : (n : ℕ) (rows : List HandleRow) → AllByRecursion (λ (row : HandleRow). n < row.number) rows → find (matches n) rows ≡ None
none_below n [] all = refl
none_below n (row ∷ rows) all = rw (ne_eqb row.number n (omega (arith, all.0))) (none_below n rows all.1)

found_first : (row : HandleRow) (rows : List HandleRow) → find (matches row.number) (row ∷ rows) ≡ Some row
found_first row rows = rw (eq-eqb row.number row.number refl) refl

same_rows : (xs ys : List HandleRow) → AreRisingBy number_of xs → AreRisingBy number_of ys
    → ((n : ℕ) → find (matches n) xs ≡ find (matches n) ys) → xs ≡ ys
same_rows [] [] ra rb same = refl
same_rows [] (b ∷ ys) ra rb same = absurd (cc (same b.number ∙ found_first b ys))
same_rows (a ∷ xs) [] ra rb same = absurd (cc (sym (same a.number) ∙ found_first a xs))
same_rows (a ∷ xs) (b ∷ ys) ra rb same =
    elim (cases_order a.number b.number) [
      | inl e ↦
          let first : a ≡ b = cc (sym (found_first a xs) ∙ same a.number ∙ ap (λ (k : ℕ). find (matches k) (b ∷ ys)) e
          ∙ found_first b ys) in
          rw (same_rows xs ys ra.1 rb.1 (λ n. elim (cases_Bool (eqb a.number n)) [
            | inl is ↦
                none_below n xs (subst (λ (m : ℕ). AllByRecursion (λ (row : HandleRow). m < row.number) xs) (eqb-true a.number n is) ra.0)
                ∙ sym (none_below n ys (subst (λ (m : ℕ). AllByRecursion (λ (row : HandleRow). m < row.number) ys) (sym e
                ∙ eqb-true a.number n is) rb.0))
            | inr isnt ↦
                sym (ap (λ (c : Bool). cond c (Some a) (find (matches n) xs)) isnt) ∙ same n
                ∙ ap (λ (c : Bool). cond c (Some b) (find (matches n) ys)) (ap (λ (row : HandleRow). eqb row.number n) (sym first)
                ∙ isnt)
          ])) (ap (λ (row : HandleRow). row ∷ ys) first)
      | inr (inl less) ↦ absurd (cc (sym (found_first a xs) ∙ same a.number
          ∙ none_below a.number (b ∷ ys) (less, all_above a.number b.number ys less rb.0)))
      | inr (inr more) ↦ absurd (cc (sym (found_first b ys) ∙ sym (same b.number)
          ∙ none_below b.number (a ∷ xs) (more, all_above b.number a.number xs more ra.0)))
    ]

-- ## A handle more

found_pushed : (n : ℕ) (row : HandleRow) (rows : List HandleRow) → AllByRecursion (λ (other : HandleRow). other.number < row.number) rows
    → find (matches n) (rows ++ row ∷ []) ≡ cond (eqb row.number n) (Some row) (find (matches n) rows)
found_pushed n row [] below = refl
found_pushed n row (other ∷ rows) below =
    elim (cases_Bool (eqb other.number n)) [
      | inl is ↦ rw (is, ne_eqb row.number n (λ same. omega (arith, same, eqb-true other.number n is, below.0))) refl
      | inr isnt ↦ rw isnt (found_pushed n row rows below.1)
    ]

rising_pushed : (row : HandleRow) (rows : List HandleRow) → AllByRecursion (λ (other : HandleRow). other.number < row.number) rows
    → AreRisingBy number_of rows → AreRisingBy number_of (rows ++ row ∷ [])
rising_pushed row [] below rising = (tt, tt)
rising_pushed row (other ∷ rows) below rising = (all_pushed rows rising.0, rising_pushed row rows below.1 rising.1)
  where
    all_pushed : (rs : List HandleRow) → AllByRecursion (λ (r : HandleRow). other.number < r.number) rs
        → AllByRecursion (λ (r : HandleRow). other.number < r.number) (rs ++ row ∷ [])
    all_pushed [] all = (below.0, tt)
    all_pushed (r ∷ rs) all = (all.0, all_pushed rs all.1)

abbrev pub Puts : Entries → Entries → HandleRow → Type 0
Puts old new row = (n : ℕ) → lookup (eqb n) new ≡ cond (eqb row.number n) (Some row) (lookup (eqb n) old)

pub pushed_numbered : (old new : Entries) (row : HandleRow) → AreNumbered old → IsDistinct eqb (keys_of new) → Puts old new row
    → AreNumbered new
pushed_numbered old new row kept once puts = record {
  once = once;
  own = by;
}
  where
    by : (n : ℕ) (found : HandleRow) → lookup (eqb n) new ≡ Some found → found.number ≡ n
    by n found is = elim (cases_Bool (eqb row.number n)) [
      | inl here ↦
          let same : row ≡ found = cc (sym (puts n ∙ ap (λ (b : Bool). cond b (Some row) (lookup (eqb n) old)) here) ∙ is) in
          ap (λ (r : HandleRow). r.number) (sym same) ∙ eqb-true row.number n here
      | inr other ↦ kept.own n found (sym (puts n ∙ ap (λ (b : Bool). cond b (Some row) (lookup (eqb n) old)) other) ∙ is)
    ]

pub pushed_is : (old new : Entries) (row : HandleRow) → AreNumbered old → AreNumbered new → Puts old new row
    → AllByRecursion (λ (other : HandleRow). other.number < row.number) (ordered old)
    → ordered new ≡ ordered old ++ row ∷ []
pushed_is old new row was now puts below =
    same_rows (ordered new) (ordered old ++ row ∷ []) (rising_is new now) (rising_pushed row (ordered old) below (rising_is old was))
    (λ n. found_is new n now ∙ puts n ∙ ap (cond (eqb row.number n) (Some row)) (sym (found_is old n was))
    ∙ sym (found_pushed n row (ordered old) below))

-- ## A handle less

found_without : (n k : ℕ) (rows : List HandleRow) → find (matches n) (filter (λ (row : HandleRow). not (matches k row)) rows) ≡ cond
    (eqb k n) None (find (matches n) rows)
found_without n k [] = either (eqb k n) None
  where
    either : (b : Bool) (o : Option HandleRow) → o ≡ cond b o o
    either true o = refl
    either false o = refl
found_without n k (row ∷ rows) =
    elim (cases_Bool (eqb row.number k)) [
      | inl is ↦ rw is (found_without n k rows ∙ elim (cases_Bool (eqb k n)) [
        | inl here ↦ rw here refl
        | inr other ↦ rw (other, ap (λ (m : ℕ). eqb m n) (eqb-true row.number k is) ∙ other) refl
      ])
      | inr isnt ↦ rw isnt (elim (cases_Bool (eqb row.number n)) [
        | inl here ↦ rw (here, ne_eqb k n (λ same. eqb-false row.number k isnt (eqb-true row.number n here ∙ sym same))) refl
        | inr other ↦ rw other (found_without n k rows)
      ])
    ]

all_without : (P : HandleRow → Type 0) (p : HandleRow → Bool) (rows : List HandleRow) → AllByRecursion P rows
    → AllByRecursion P (filter p rows)
all_without P p [] all = tt
all_without P p (row ∷ rows) all =
    elim (p row) as (λ b. AllByRecursion P (cond b (row ∷ filter p rows) (filter p rows))) [
      | true ↦ (all.0, all_without P p rows all.1)
      | false ↦ all_without P p rows all.1
    ]

rising_without : (p : HandleRow → Bool) (rows : List HandleRow) → AreRisingBy number_of rows → AreRisingBy number_of (filter p rows)
rising_without p [] rising = tt
rising_without p (row ∷ rows) rising =
    elim (p row) as (λ b. AreRisingBy number_of (cond b (row ∷ filter p rows) (filter p rows))) [
      | true ↦ (all_without (λ (other : HandleRow). row.number < other.number) p rows rising.0, rising_without p rows rising.1)
      | false ↦ rising_without p rows rising.1
    ]

abbrev Takes : Entries → Entries → ℕ → Type 0
Takes old new k = (n : ℕ) → lookup (eqb n) new ≡ cond (eqb k n) None (lookup (eqb n) old)

pub removed_numbered : (old new : Entries) (k : ℕ) → AreNumbered old → IsDistinct eqb (keys_of new) → Takes old new k → AreNumbered new
removed_numbered old new k kept once takes = record {
  once = once;
  own = λ n found is. elim (cases_Bool (eqb k n)) [
    | inl here ↦ absurd (cc (sym (takes n ∙ ap (λ (b : Bool). cond b None (lookup (eqb n) old)) here) ∙ is))
    | inr other ↦ kept.own n found (sym (takes n ∙ ap (λ (b : Bool). cond b None (lookup (eqb n) old)) other) ∙ is)
  ];
}

pub removed_is : (old new : Entries) (k : ℕ) → AreNumbered old → AreNumbered new → Takes old new k
    → ordered new ≡ filter (λ (row : HandleRow). not (matches k row)) (ordered old)
removed_is old new k was now takes =
    same_rows (ordered new) (filter (λ (row : HandleRow). not (matches k row)) (ordered old)) (rising_is new now)
    (rising_without (λ (row : HandleRow). not (matches k row)) (ordered old) (rising_is old was))
    (λ n. found_is new n now ∙ takes n ∙ ap (cond (eqb k n) None) (sym (found_is old n was)) ∙ sym (found_without n k (ordered old)))
