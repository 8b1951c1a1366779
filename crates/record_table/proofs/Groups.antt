-- Lists of groups, as services come, go and change.
use Rattle.std.proofs.Common.{ℕ, ◌≡◌, ◌<◌, ◌∙◌, Bool, true, false, not, cond, List, [], ◌∷◌, ◌++◌, Some, refl, sym, ap, subst, eqb, filter}
use Rattle.std.proofs.Common.{find, map, arith, inl, inr}
use Rattle.std.specs.List.{AllByRecursion}
use Rattle.std.proofs.lemmas.Bool.{ne_eqb, eqb-true, lt-ltb, le-ltb, cases_Bool}
use Rattle.scm_model.specs.declared.flat.Service.{Service}
use Rattle.number_lists.specs.Rising.{with_number, without_number}
use Rattle.row_slab.specs.Rowed.{AreRisingBy}
use Rattle.record_table.specs.Recorded.{number_of, has_number}

abbrev pub numbers_if : (Service → Bool) → List Service → List ℕ
numbers_if p rows = map number_of (filter p rows)

-- a service more, with a number above all others
pub pushed : (p : Service → Bool) (rows : List Service) (new : Service) → AllByRecursion (λ (row : Service). row.number < new.number) rows
    → numbers_if p (rows ++ new ∷ []) ≡ cond (p new) (with_number (numbers_if p rows) new.number) (numbers_if p rows)
pushed p [] new above = elim (p new) as (λ b. map number_of (cond b (new ∷ []) []) ≡ cond b (new.number ∷ []) []) [
  | true ↦ refl
  | false ↦ refl
]
pushed p (row ∷ rows) new above =
    elim (p row) as (λ b. map number_of (cond b (row ∷ filter p (rows ++ new ∷ [])) (filter p (rows ++ new ∷ [])))
    ≡ cond (p new) (with_number (map number_of (cond b (row ∷ filter p rows) (filter p rows))) new.number)
    (map number_of (cond b (row ∷ filter p rows) (filter p rows)))) [
      | true ↦
          ap (λ rest. row.number ∷ rest) (pushed p rows new above.1)
          ∙ elim (p new) as (λ b. row.number ∷ cond b (with_number (numbers_if p rows) new.number) (numbers_if p rows) ≡ cond b
          (with_number (row.number ∷ numbers_if p rows) new.number) (row.number ∷ numbers_if p rows)) [
            | true ↦ rw (le-ltb new.number row.number (omega (arith, above.0)), ne_eqb new.number row.number (omega (arith, above.0))) refl
            | false ↦ refl
          ]
      | false ↦ pushed p rows new above.1
    ]

-- a service less
pub removed : (p : Service → Bool) (rows : List Service) (n : ℕ) → numbers_if p
    (filter (λ (row : Service). not (has_number n row)) rows) ≡ without_number (numbers_if p rows) n
removed p [] n = refl
removed p (row ∷ rows) n =
    elim (p row) as (λ b. p row ≡ b → numbers_if p (cond (not (eqb row.number n))
    (row ∷ filter (λ (r : Service). not (has_number n r)) rows) (filter (λ (r : Service). not (has_number n r)) rows))
    ≡ without_number (map number_of (cond b (row ∷ filter p rows) (filter p rows))) n) [
      | true ↦ λ e. elim (eqb row.number n) as (λ b. numbers_if p (cond (not b) (row ∷ filter (λ (r : Service). not (has_number n r)) rows)
          (filter (λ (r : Service). not (has_number n r)) rows))
          ≡ cond (not b) (row.number ∷ without_number (numbers_if p rows) n) (without_number (numbers_if p rows) n)) [
            | true ↦ removed p rows n
            | false ↦ rw e (ap (λ rest. row.number ∷ rest) (removed p rows n))
          ]
      | false ↦ λ e. elim (eqb row.number n) as (λ b. numbers_if p (cond (not b) (row ∷ filter (λ (r : Service). not (has_number n r)) rows)
          (filter (λ (r : Service). not (has_number n r)) rows))
          ≡ without_number (numbers_if p rows) n) [
            | true ↦ removed p rows n
            | false ↦ rw e (removed p rows n)
          ]
    ] refl

with_first : (n : ℕ) (xs : List ℕ) → AllByRecursion (λ x. n < x) xs → with_number xs n ≡ n ∷ xs
with_first n [] all = refl
with_first n (x ∷ xs) all = rw (lt-ltb n x all.0) refl

without_above : (n : ℕ) (xs : List ℕ) → AllByRecursion (λ x. n < x) xs → without_number xs n ≡ xs
without_above n [] all = refl
without_above n (x ∷ xs) all = rw (ne_eqb x n (omega (arith, all.0))) (ap (λ rest. x ∷ rest) (without_above n xs all.1))

numbers_above : (p : Service → Bool) (n : ℕ) (rows : List Service) → AllByRecursion (λ (row : Service). n < row.number) rows
    → AllByRecursion (λ x. n < x) (numbers_if p rows)
numbers_above p n [] all = tt
numbers_above p n (row ∷ rows) all =
    elim (p row) as (λ b. AllByRecursion (λ x. n < x) (map number_of (cond b (row ∷ filter p rows) (filter p rows)))) [
      | true ↦ (all.0, numbers_above p n rows all.1)
      | false ↦ numbers_above p n rows all.1
    ]

found_above : (low n : ℕ) (rows : List Service) (old : Service) → AllByRecursion (λ (row : Service). low < row.number) rows
    → find (has_number n) rows ≡ Some old → low < n
found_above low n [] old all found = absurd (cc found)
found_above low n (row ∷ rows) old all found =
    elim (cases_Bool (has_number n row)) [
      | inl is ↦ omega (arith, all.0, eqb-true row.number n is)
      | inr other ↦ found_above low n rows old all.1 (sym (ap (λ b. cond b (Some row) (find (has_number n) rows)) other) ∙ found)
    ]

-- a number that doesn't pass isn't listed
pub unlisted : (p : Service → Bool) (rows : List Service) (old : Service) (n : ℕ) → AreRisingBy number_of rows
    → find (has_number n) rows ≡ Some old → p old ≡ false → without_number (numbers_if p rows) n ≡ numbers_if p rows
unlisted p [] old n rising found fails = refl
unlisted p (row ∷ rows) old n rising found fails =
    elim (cases_Bool (has_number n row)) [
      | inl is ↦
          let here : row ≡ old = cc (sym (ap (λ b. cond b (Some row) (find (has_number n) rows)) is) ∙ found) in
          let later = subst (λ m. AllByRecursion (λ (other : Service). m < other.number) rows) (eqb-true row.number n is) rising.0 in
          rw (here, fails) (without_above n (numbers_if p rows) (numbers_above p n rows later))
      | inr other ↦
          let next : find (has_number n) rows ≡ Some old = sym (ap (λ b. cond b (Some row) (find (has_number n) rows)) other) ∙ found in
          elim (p row) as (λ b. without_number (map number_of (cond b (row ∷ filter p rows) (filter p rows))) n ≡ map number_of
          (cond b (row ∷ filter p rows) (filter p rows))) [
            | true ↦ rw other (ap (λ rest. row.number ∷ rest) (unlisted p rows old n rising.1 next fails))
            | false ↦ unlisted p rows old n rising.1 next fails
          ]
    ]

pub unmapped : (n : ℕ) (change : Service → Service) (rows : List Service) → AllByRecursion (λ (row : Service). n < row.number) rows
    → map (λ (row : Service). cond (has_number n row) (change row) row) rows ≡ rows
unmapped n change [] all = refl
unmapped n change (row ∷ rows) all = rw (ne_eqb row.number n (omega (arith, all.0)))
    (ap (λ rest. row ∷ rest) (unmapped n change rows all.1))

-- a service that changes
pub replaced : (p : Service → Bool) (rows : List Service) (old : Service) (n : ℕ) (change : Service → Service) (passes : Bool)
    → p (change old) ≡ passes → (change old).number ≡ old.number
    → AreRisingBy number_of rows → find (has_number n) rows ≡ Some old
    → numbers_if p (map (λ (row : Service). cond (has_number n row) (change row) row) rows) ≡ cond passes
    (with_number (without_number (numbers_if p rows) n) n) (without_number (numbers_if p rows) n)
replaced p [] old n change passes is_passing same rising found = absurd (cc found)
replaced p (row ∷ rows) old n change passes is_passing same rising found =
    elim (cases_Bool (has_number n row)) [
      | inl is ↦
          let number : row.number ≡ n = eqb-true row.number n is in
          let later = subst (λ m. AllByRecursion (λ (other : Service). m < other.number) rows) number rising.0 in
          let above = numbers_above p n rows later in
          let rest : without_number (numbers_if p (row ∷ rows)) n ≡ numbers_if p rows =
          (elim (p row) as (λ b. without_number (map number_of (cond b (row ∷ filter p rows) (filter p rows))) n ≡ numbers_if p rows) [
            | true ↦ rw is (without_above n (numbers_if p rows) above)
            | false ↦ without_above n (numbers_if p rows) above
          ]) in
          let here : row ≡ old = cc (sym (ap (λ b. cond b (Some row) (find (has_number n) rows)) is) ∙ found) in
          let passing : p (change row) ≡ passes = ap (λ (r : Service). p (change r)) here ∙ is_passing in
          let kept : (change row).number ≡ row.number = subst (λ (r : Service). (change r).number ≡ r.number) (sym here) same in
          rw (is, unmapped n change rows later, rest, passing, with_first n (numbers_if p rows) above)
          (elim passes as (λ b. map number_of (cond b (change row ∷ filter p rows) (filter p rows)) ≡ cond b (n ∷ numbers_if p rows)
          (numbers_if p rows)) [
            | true ↦ ap (λ m. m ∷ numbers_if p rows) (kept ∙ number)
            | false ↦ refl
          ])
      | inr other ↦
          let next : find (has_number n) rows ≡ Some old = sym (ap (λ b. cond b (Some row) (find (has_number n) rows)) other) ∙ found in
          let less : row.number < n = found_above row.number n rows old rising.0 next in
          let step = replaced p rows old n change passes is_passing same rising.1 next in
          rw other (elim (p row) as (λ b. map number_of (cond b (row ∷ filter p
          (map (λ (r : Service). cond (has_number n r) (change r) r) rows))
          (filter p (map (λ (r : Service). cond (has_number n r) (change r) r) rows)))
          ≡ cond passes (with_number (without_number (map number_of (cond b (row ∷ filter p rows) (filter p rows))) n) n)
          (without_number (map number_of (cond b (row ∷ filter p rows) (filter p rows))) n)) [
            | true ↦
                rw (other, le-ltb n row.number (omega (arith, less)), ne_eqb n row.number (omega (arith, less)))
                (ap (λ rest. row.number ∷ rest) step
                ∙ elim passes as (λ b. row.number ∷ cond b (with_number (without_number (numbers_if p rows) n) n)
                (without_number (numbers_if p rows) n)
                ≡ cond b (row.number ∷ with_number (without_number (numbers_if p rows) n) n)
                (row.number ∷ without_number (numbers_if p rows) n)) [ true ↦ refl | false ↦ refl ])
            | false ↦ step
          ])
    ]

-- a change that leaves number and group
pub same_members : (p : Service → Bool) (change : Service → Service) (rows : List Service)
    → ((row : Service) → (change row).number ≡ row.number) → ((row : Service) → p (change row) ≡ p row)
    → numbers_if p (map change rows) ≡ numbers_if p rows
same_members p change [] numbers same = refl
same_members p change (row ∷ rows) numbers same =
    rw (same row) (elim (p row) as (λ b. map number_of (cond b (change row ∷ filter p (map change rows)) (filter p (map change rows))) ≡ map
    number_of (cond b (row ∷ filter p rows) (filter p rows))) [
      | true ↦ ap (λ m. m ∷ numbers_if p (map change rows)) (numbers row)
          ∙ ap (λ rest. row.number ∷ rest) (same_members p change rows numbers same)
      | false ↦ same_members p change rows numbers same
    ])

-- one service changes, and passes as it did
pub same_at : (p : Service → Bool) (rows : List Service) (old : Service) (n : ℕ) (change : Service → Service)
    → p (change old) ≡ p old → (change old).number ≡ old.number
    → AreRisingBy number_of rows → find (has_number n) rows ≡ Some old
    → numbers_if p (map (λ (row : Service). cond (has_number n row) (change row) row) rows) ≡ numbers_if p rows
same_at p [] old n change passes same rising found = refl
same_at p (row ∷ rows) old n change passes same rising found =
    elim (cases_Bool (has_number n row)) [
      | inl is ↦
          let later = subst (λ m. AllByRecursion (λ (other : Service). m < other.number) rows) (eqb-true row.number n is) rising.0 in
          let here : row ≡ old = cc (sym (ap (λ b. cond b (Some row) (find (has_number n) rows)) is) ∙ found) in
          let passing : p (change row) ≡ p row = subst (λ (r : Service). p (change r) ≡ p r) (sym here) passes in
          let kept : (change row).number ≡ row.number = subst (λ (r : Service). (change r).number ≡ r.number) (sym here) same in
          rw (is, unmapped n change rows later, passing)
          (elim (p row) as (λ b. map number_of (cond b (change row ∷ filter p rows) (filter p rows))
          ≡ map number_of (cond b (row ∷ filter p rows) (filter p rows))) [
            | true ↦ ap (λ m. m ∷ numbers_if p rows) kept
            | false ↦ refl
          ])
      | inr other ↦
          let next : find (has_number n) rows ≡ Some old = sym (ap (λ b. cond b (Some row) (find (has_number n) rows)) other) ∙ found in
          let rest = same_at p rows old n change passes same rising.1 next in
          rw other (elim (p row) as (λ b. map number_of (cond b (row ∷ filter p
          (map (λ (r : Service). cond (has_number n r) (change r) r) rows))
          (filter p (map (λ (r : Service). cond (has_number n r) (change r) r) rows)))
          ≡ map number_of (cond b (row ∷ filter p rows) (filter p rows))) [
            | true ↦ ap (λ ns. row.number ∷ ns) rest
            | false ↦ rest
          ])
    ]
