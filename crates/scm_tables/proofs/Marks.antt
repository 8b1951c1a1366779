-- The marked services: what the changes keep of their numbers, and who leaves first.
use Rattle.std.proofs.Common.{ℕ, ◌≡◌, ◌≢◌, ◌∙◌, ◌+◌, ◌<◌, ◌≤◌, ◌++◌, ◌==◌, length-append, ◌||◌, not, true, false, cond, suc, inl, inr}
use Rattle.std.proofs.Common.{Bool, List, [], ◌∷◌, Option, None, Some, filter, map, get_or, length, find, ap, sym, refl, subst, arith}
use Rattle.std.proofs.Common.{eq-eqb, eqb}
use Rattle.std.specs.Prelude.{AllPairs, Result, Ok, Err, option_map}
use Rattle.std.proofs.lemmas.List.{length-map}
use Rattle.std.specs.List.{AllByRecursion, list_any}
use Rattle.std.proofs.lemmas.Bool.{cases_Bool, cases_order, lt-ltb, le-ltb, ne_eqb}
use Rattle.scm_model.specs.declared.flat.Config.{Config}
use Rattle.scm_model.specs.declared.flat.Flat.{Flat}
use Rattle.scm_model.specs.declared.flat.HandleRow.{HandleRow}
use Rattle.scm_model.specs.declared.flat.Service.{Service}
use Rattle.scm_model.specs.declared.flat.Status.{Status}
use Rattle.scm_model.specs.Changes.{configured_if, marked_if}
use Rattle.scm_model.specs.Found.{if_found}
use Rattle.scm_model.specs.Notices.{all_noted, event_of_leaving, noted}
use Rattle.scm_model.specs.Purge.{leaves, purged}
use Rattle.scm_tables.specs.Failed.{fallen_at}
use Rattle.scm_rules.specs.Controls.{unasked_if}
use Rattle.scm_rules.specs.Opening.{services_from}
use Rattle.scm_rules.specs.Reports.{moved_by, reported_if}
use Rattle.start_plan.specs.Entered.{started_if}
use Rattle.start_plan.proofs.Rows.{started_or}
use Rattle.status_machine.specs.Moves.{take_report}
use Rattle.number_lists.specs.Rising.{with_number, without_number}
use Rattle.row_slab.specs.Rowed.{AreRisingBy}
use Rattle.scm_tables.proofs.Keeping.{fallen_or, unasked_or}
use Rattle.scm_tables.specs.Marked.{has_mark, marked_numbers, may_leave, number_leaves}
use Rattle.scm_text.specs.Numbers.{has}
use Rattle.record_table.specs.Recorded.{without}

abbrev pub number_of : Service → ℕ
number_of row = row.number

-- ## Rows by recursion

above_all : (n : ℕ) (rows : List Service) → ((k : ℕ) (d : Service) → k < length rows → n < (get_or rows k d).number)
    → AllByRecursion (λ (row : Service). n < row.number) rows
above_all n [] above = tt
above_all n (row ∷ rows) above = (above 0 row (omega arith), above_all n rows (λ k d lt. above (suc k) d (omega (arith, lt))))

pub rising_by : (rows : List Service) → AllPairs (λ (a b : Service). a.number < b.number) rows → AreRisingBy number_of rows
rising_by [] rising = tt
rising_by (row ∷ rows) rising = (
  above_all row.number rows (λ k d lt. rising 0 (suc k) d (omega arith) (omega (arith, lt))),
  rising_by rows (λ i j d lt within. rising (suc i) (suc j) d (omega (arith, lt)) (omega (arith, within))),
)

-- ## What keeps marks

pub marks_map : (change : Service → Service) → ((row : Service) → (change row).number ≡ row.number)
    → ((row : Service) → (change row).marked ≡ row.marked) → (rows : List Service)
    → marked_numbers (map change rows) ≡ marked_numbers rows
marks_map change number mark [] = refl
marks_map change number mark (row ∷ rows) =
    ap (λ b. map number_of (cond b (change row ∷ filter has_mark (map change rows)) (filter has_mark (map change rows)))) (mark row)
    ∙ elim row.marked as (λ b. map number_of (cond b (change row ∷ filter has_mark (map change rows))
    (filter has_mark (map change rows))) ≡ map number_of (cond b (row ∷ filter has_mark rows) (filter has_mark rows))) [
      | true ↦ ap (λ n. n ∷ marked_numbers (map change rows)) (number row) ∙ ap (λ ns. row.number ∷ ns) (marks_map change number mark rows)
      | false ↦ marks_map change number mark rows
    ]

marks_push : (rows : List Service) (new : Service) → new.marked ≡ false → marked_numbers (rows ++ new ∷ []) ≡ marked_numbers rows
marks_push [] new unmarked = ap (λ b. map number_of (cond b (new ∷ []) [])) unmarked
marks_push (row ∷ rows) new unmarked =
    elim row.marked as (λ b. map number_of (cond b (row ∷ filter has_mark (rows ++ new ∷ [])) (filter has_mark (rows ++ new ∷ []))) ≡ map
    number_of (cond b (row ∷ filter has_mark rows) (filter has_mark rows))) [
      | true ↦ ap (λ ns. row.number ∷ ns) (marks_push rows new unmarked)
      | false ↦ marks_push rows new unmarked
    ]

pub marks_pushed : (old now : List Service) (new : Service) → now ≡ old ++ new ∷ [] → new.marked ≡ false
    → marked_numbers now ≡ marked_numbers old
marks_pushed old now new are unmarked = ap (λ (rows : List Service). marked_numbers rows) are ∙ marks_push old new unmarked

pub marks_without : (n : ℕ) (rows : List Service) → marked_numbers (without n rows) ≡ without_number (marked_numbers rows) n
marks_without n [] = refl
marks_without n (row ∷ rows) =
    let ih = marks_without n rows in
    elim (cases_Bool (row.number == n)) [
      | inl is ↦ elim (cases_Bool row.marked) [ inl m ↦ simp (is, m) ih | inr m ↦ simp (is, m) ih ]
      | inr is ↦ elim (cases_Bool row.marked) [ inl m ↦ simp (is, m) (ap (λ ns. row.number ∷ ns) ih) | inr m ↦ simp (is, m) ih ]
    ]

pub started_mark : (number process : ℕ) (row : Service) → (started_if number process row).marked ≡ row.marked
started_mark number process row = started_or (λ new. new.marked ≡ row.marked) number process row (λ e. refl) refl

pub fallen_mark : (number code : ℕ) (row : Service) → (fallen_at number code row).marked ≡ row.marked
fallen_mark number code row = fallen_or (λ new. new.marked ≡ row.marked) number code row refl refl

pub unasked_mark : (number : ℕ) (row : Service) → (unasked_if number row).marked ≡ row.marked
unasked_mark number row = unasked_or (λ new. new.marked ≡ row.marked) number row refl refl

moved_mark : (row : Service) (told : Result Status ℕ) → (moved_by row told).marked ≡ row.marked
moved_mark row (Ok status) = refl
moved_mark row (Err code) = refl

pub reported_mark : (number : ℕ) (report : Status) (row : Service) → (reported_if number report row).marked ≡ row.marked
reported_mark number report row =
    elim (row.number == number) as (λ b. (cond b (moved_by row (take_report row.status report)) row).marked ≡ row.marked)
    [ true ↦ moved_mark row (take_report row.status report) | false ↦ refl ]

pub configured_mark : (number : ℕ) (config : Config) (row : Service) → (configured_if number config row).marked ≡ row.marked
configured_mark number config row =
    elim (row.number == number) as (λ b. (cond b (record row { config = config; status = record row.status { kind = config.kind } })
    row).marked ≡ row.marked)
    [ true ↦ refl | false ↦ refl ]

-- the services that a manager begins with
pub opened_marks : (first : ℕ) (configs : List Config) → marked_numbers (services_from first configs) ≡ []
opened_marks first [] = refl
opened_marks first (config ∷ configs) = opened_marks (first + 1) configs

-- ## A mark more

-- the services above the one that is marked keep their marks
marks_above : (n : ℕ) (rows : List Service) → AllByRecursion (λ (row : Service). n < row.number) rows
    → marked_numbers (map (marked_if n) rows) ≡ marked_numbers rows
marks_above n [] all = refl
marks_above n (row ∷ rows) all =
    let ih = marks_above n rows all.1 in
    let other : row.number == n ≡ false = ne_eqb row.number n (omega (arith, all.0)) in
    elim (cases_Bool row.marked) [ inl m ↦ simp (m, other) (ap (λ ns. row.number ∷ ns) ih) | inr m ↦ simp (m, other) ih ]

-- and their numbers are above it
numbers_above : (n : ℕ) (rows : List Service) → AllByRecursion (λ (row : Service). n < row.number) rows
    → AllByRecursion (λ (x : ℕ). n < x) (marked_numbers rows)
numbers_above n [] all = tt
numbers_above n (row ∷ rows) all =
    elim row.marked as (λ b. AllByRecursion (λ (x : ℕ). n < x) (map number_of
    (cond b (row ∷ filter has_mark rows) (filter has_mark rows)))) [
      | true ↦ (all.0, numbers_above n rows all.1)
      | false ↦ numbers_above n rows all.1
    ]

with_first : (n : ℕ) (ns : List ℕ) → AllByRecursion (λ (x : ℕ). n < x) ns → with_number ns n ≡ n ∷ ns
with_first n [] all = refl
with_first n (x ∷ xs) all = rw (lt-ltb n x all.0) refl

none_above : (n : ℕ) (rows : List Service) → AllByRecursion (λ (row : Service). n < row.number) rows
    → list_any (λ (row : Service). row.number == n) rows ≡ false
none_above n [] all = refl
none_above n (row ∷ rows) all = rw (ne_eqb row.number n (omega (arith, all.0))) (none_above n rows all.1)

pub marks_with : (n : ℕ) (rows : List Service) → AreRisingBy number_of rows → list_any (λ (row : Service). row.number == n) rows ≡ true
    → marked_numbers (map (marked_if n) rows) ≡ with_number (marked_numbers rows) n
marks_with n [] rising there = absurd (cc)
marks_with n (row ∷ rows) rising there =
    elim (cases_order row.number n) [
      | inl same ↦
          let is : row.number == n ≡ true = eq-eqb row.number n same in
          let all = subst (λ m. AllByRecursion (λ (other : Service). m < other.number) rows) same rising.0 in
          let rest = marks_above n rows all in
          elim (cases_Bool row.marked) [
            | inl m ↦ simp (m, is) (ap (λ ns. row.number ∷ ns) rest ∙ sym
                (rw (le-ltb n row.number (omega arith), eq-eqb n row.number (sym same)) refl))
            | inr m ↦ simp (m, is) (ap (λ ns. row.number ∷ ns) rest ∙ ap (λ k. k ∷ marked_numbers rows) same
                ∙ sym (with_first n (marked_numbers rows) (numbers_above n rows all)))
          ]
      | inr (inl less) ↦
          let other : row.number == n ≡ false = ne_eqb row.number n (omega arith) in
          let ih = marks_with n rows rising.1 (sym (ap (λ b. b || list_any (λ (r : Service). r.number == n) rows) other) ∙ there) in
          elim (cases_Bool row.marked) [
            | inl m ↦ simp (m, other) (ap (λ ns. row.number ∷ ns) ih ∙ sym
                (rw (le-ltb n row.number (omega arith), ne_eqb n row.number (omega arith)) refl))
            | inr m ↦ simp (m, other) ih
          ]
      | inr (inr more) ↦ absurd (cc (
        there,
        ap (λ b. b || list_any (λ (r : Service). r.number == n) rows) (ne_eqb row.number n (omega arith)),
        none_above n rows (weaker n row.number rows more rising.0),
      ))
    ]
  where
    weaker : (n m : ℕ) (rs : List Service) → n < m → AllByRecursion (λ (r : Service). m < r.number) rs
        → AllByRecursion (λ (r : Service). n < r.number) rs
    weaker n m [] lt all = tt
    weaker n m (r ∷ rs) lt all = (omega (arith, all.0), weaker n m rs lt all.1)

-- ## Room for a mark

few_marks : (rows : List Service) → length (marked_numbers rows) ≤ length rows
few_marks [] = omega arith
few_marks (row ∷ rows) =
    elim row.marked as (λ b. length (map number_of (cond b (row ∷ filter has_mark rows) (filter has_mark rows))) ≤ suc (length rows)) [
      | true ↦ omega (arith, few_marks rows)
      | false ↦ omega (arith, few_marks rows)
    ]

pub room_map : (change : Service → Service) (rows : List Service) (n : ℕ) → length rows ≤ n → length (map change rows) ≤ n
room_map change rows n le = rw length-map le

pub room_push : (rows : List Service) (new : Service) (n : ℕ) → length rows < n → length (rows ++ new ∷ []) ≤ n
room_push rows new n lt = rw length-append (omega arith)

-- where a service isn't marked there are fewer marks than services
pub fewer_marks : (n : ℕ) (rows : List Service) → list_any (λ (row : Service). row.number == n) rows ≡ true
    → has (marked_numbers rows) n ≡ false → length (marked_numbers rows) < length rows
fewer_marks n [] there fresh = absurd (cc)
fewer_marks n (row ∷ rows) there fresh =
    elim (cases_Bool row.marked) [
      | inl m ↦
          let out : eqb n row.number || has (marked_numbers rows) n ≡ false = simp m at fresh in
          elim (cases_order row.number n) [
            | inl same ↦ absurd (cc (out, ap (λ b. b || has (marked_numbers rows) n) (eq-eqb n row.number (sym same))))
            | inr apart ↦
                let differ : row.number ≢ n = λ same. elim apart [ inl less ↦ omega arith | inr more ↦ omega arith ] in
                let left : has (marked_numbers rows) n ≡ false = sym (ap (λ b. b || has (marked_numbers rows) n)
                (ne_eqb n row.number (λ same. differ (sym same)))) ∙ out in
                let rest = fewer_marks n rows (sym (ap (λ b. b || list_any (λ (r : Service). r.number == n) rows)
                (ne_eqb row.number n differ)) ∙ there) left in
                simp m (omega (arith, rest))
          ]
      | inr m ↦ simp m (omega (arith, few_marks rows))
    ]

-- ## Who leaves first

found_at : (rows : List Service) (n : ℕ) (row : Service) → AllByRecursion (λ (other : Service). n < other.number) rows
    → find (λ (r : Service). r.number == n) rows ≡ Some row → ⊥
found_at [] n row all found = cc
found_at (r ∷ rs) n row all found =
    found_at rs n row all.1 (sym (ap (λ b. cond b (Some r) (find (λ (x : Service). x.number == n) rs))
    (ne_eqb r.number n (omega (arith, all.0)))) ∙ found)

-- the tests of numbers say which marked service leaves first
first_of : (handles : List HandleRow) (all rows : List Service) → AllByRecursion
    (λ (row : Service). number_leaves handles all row.number ≡ leaves handles row) rows
    → find (number_leaves handles all) (marked_numbers rows) ≡ option_map number_of (find (leaves handles) rows)
first_of handles all [] tests = refl
first_of handles all (row ∷ rows) tests =
    let ih = first_of handles all rows tests.1 in
    elim (cases_Bool row.marked) [
      | inl m ↦
          ap (λ b. find (number_leaves handles all) (map number_of (cond b (row ∷ filter has_mark rows) (filter has_mark rows)))) m
          ∙ ap (λ b. cond b (Some row.number) (find (number_leaves handles all) (marked_numbers rows))) tests.0
          ∙ elim (leaves handles row) as (λ b. cond b (Some row.number)
          (find (number_leaves handles all) (marked_numbers rows)) ≡ option_map number_of
          (cond b (Some row) (find (leaves handles) rows))) [ true ↦ refl | false ↦ ih ]
      | inr m ↦ simp m ih
    ]

-- each service is found by its number
tests_hold : (handles : List HandleRow) (rows : List Service) → AreRisingBy number_of rows
    → AllByRecursion (λ (row : Service). number_leaves handles rows row.number ≡ leaves handles row) rows
tests_hold handles [] rising = tt
tests_hold handles (row ∷ rows) rising = (
  ap (λ b. may_leave handles (cond b (Some row) (find (λ (x : Service). x.number == row.number) rows))) (eq-eqb row.number row.number refl),
  further rows rising.0 (tests_hold handles rows rising.1),
)
  where
    further : (part : List Service) → AllByRecursion (λ (other : Service). row.number < other.number) part
        → AllByRecursion (λ (x : Service). number_leaves handles rows x.number ≡ leaves handles x) part
        → AllByRecursion (λ (x : Service). number_leaves handles (row ∷ rows) x.number ≡ leaves handles x) part
    further [] above tests = tt
    further (x ∷ xs) above tests = (
      ap (λ b. may_leave handles (cond b (Some row) (find (λ (y : Service). y.number == x.number) rows)))
          (ne_eqb row.number x.number (omega (arith, above.0))) ∙ tests.0,
      further xs above.1 tests.1,
    )

pub first_leaves : (handles : List HandleRow) (rows : List Service) → AllPairs (λ (a b : Service). a.number < b.number) rows
    → find (number_leaves handles rows) (marked_numbers rows) ≡ option_map number_of (find (leaves handles) rows)
first_leaves handles rows rising = first_of handles rows rows (tests_hold handles rows (rising_by rows rising))

-- ## A service is gone

found_above : (p : Service → Bool) (n : ℕ) (rows : List Service) (row : Service)
    → AllByRecursion (λ (other : Service). n < other.number) rows → find p rows ≡ Some row → n < row.number
found_above p n [] row all found = absurd (cc found)
found_above p n (r ∷ rs) row all found =
    elim (cases_Bool (p r)) [
      | inl is ↦ let same : r ≡ row = cc (sym (ap (λ b. cond b (Some r) (find p rs)) is) ∙ found) in
          subst (λ (x : Service). n < x.number) same all.0
      | inr other ↦ found_above p n rs row all.1 (sym (ap (λ b. cond b (Some r) (find p rs)) other) ∙ found)
    ]

stays_all : (n : ℕ) (rows : List Service) → AllByRecursion (λ (row : Service). n < row.number) rows → without n rows ≡ rows
stays_all n [] all = refl
stays_all n (row ∷ rows) all = rw (ne_eqb row.number n (omega (arith, all.0))) (ap (λ rest. row ∷ rest) (stays_all n rows all.1))

-- the first that passes is gone: the others that pass, and those that don't, are as they were
pub record Gone (p : Service → Bool) (rows : List Service) (row : Service) : Type 0 where
  pub passing : filter p rows ≡ row ∷ filter p (without row.number rows)
  pub others : filter (λ (r : Service). not (p r)) (without row.number rows) ≡ filter (λ (r : Service). not (p r)) rows

pub first_gone : (p : Service → Bool) (rows : List Service) (row : Service) → AreRisingBy number_of rows → find p rows ≡ Some row
    → Gone p rows row
first_gone p [] row rising found = absurd (cc found)
first_gone p (r ∷ rs) row rising found =
    elim (cases_Bool (p r)) [
      | inl is ↦
          let same : r ≡ row = cc (sym (ap (λ b. cond b (Some r) (find p rs)) is) ∙ found) in
          subst (λ (x : Service). Gone p (r ∷ rs) x) same
          (let rest : without r.number (r ∷ rs) ≡ rs = ap (λ b. cond (not b) (r ∷ without r.number rs) (without r.number rs))
          (eq-eqb r.number r.number refl) ∙ stays_all r.number rs rising.0 in
          record {
            passing = rw (rest, is) refl;
            others = rw (rest, is) refl;
          })
      | inr other ↦
          let there = sym (ap (λ b. cond b (Some r) (find p rs)) other) ∙ found in
          let ih = first_gone p rs row rising.1 there in
          let apart : r.number == row.number ≡ false = ne_eqb r.number row.number
          (omega (arith, found_above p r.number rs row rising.0 there)) in
          record {
            passing = simp (apart, other) ih.passing;
            others = simp (apart, other) (ap (λ xs. r ∷ xs) ih.others);
          }
    ]

-- none passes
pub none_pass : (p : Service → Bool) (rows : List Service) → find p rows ≡ None → filter p rows ≡ []
none_pass p [] none = refl
none_pass p (r ∷ rs) none =
    elim (cases_Bool (p r)) [
      | inl is ↦ absurd (cc (none, ap (λ b. cond b (Some r) (find p rs)) is))
      | inr other ↦ simp other (none_pass p rs (sym (ap (λ b. cond b (Some r) (find p rs)) other) ∙ none))
    ]

pub all_stay : (p : Service → Bool) (rows : List Service) → find p rows ≡ None → filter (λ (r : Service). not (p r)) rows ≡ rows
all_stay p [] none = refl
all_stay p (r ∷ rs) none =
    elim (cases_Bool (p r)) [
      | inl is ↦ absurd (cc (none, ap (λ b. cond b (Some r) (find p rs)) is))
      | inr other ↦ simp other (ap (λ xs. r ∷ xs) (all_stay p rs (sym (ap (λ b. cond b (Some r) (find p rs)) other) ∙ none)))
    ]

-- nobody leaves
pub nobody_leaves : (f : Flat) → find (leaves f.handles) f.services ≡ None → f ≡ purged f
nobody_leaves f none =
    sym (ap (λ (rows : List Service). record f {
      services = rows;
      registrations =
          all_noted (map event_of_leaving (filter (leaves f.handles) f.services)) f.registrations;
    })
    (all_stay (leaves f.handles) f.services none)
    ∙ ap (λ (rows : List Service). record f { registrations = all_noted (map event_of_leaving rows) f.registrations })
    (none_pass (leaves f.handles) f.services none))

-- once the first is gone the others leave as they would have
pub first_left : (f : Flat) (row : Service) → AllPairs (λ (a b : Service). a.number < b.number) f.services
    → find (leaves f.handles) f.services ≡ Some row
    → purged (record f { services = without row.number f.services; registrations = noted (event_of_leaving row) f.registrations }) ≡ purged
    f
first_left f row rising found =
    let gone = first_gone (leaves f.handles) f.services row (rising_by f.services rising) found in
    ap (λ (rows : List Service). record f {
      services = rows;
      registrations =
          all_noted (map event_of_leaving (filter (leaves f.handles) (without row.number f.services)))
          (noted (event_of_leaving row) f.registrations);
    }) gone.others
    ∙ ap (λ (rows : List Service). record f {
      services = filter (λ (r : Service). not (leaves f.handles r)) f.services;
      registrations = all_noted (map event_of_leaving rows) f.registrations;
    }) (sym gone.passing)

-- ## The one with a number

pub found_any : (p : Service → Bool) (rows : List Service) (row : Service) → find p rows ≡ Some row
    → list_any (λ (r : Service). r.number == row.number) rows ≡ true
found_any p [] row found = absurd (cc found)
found_any p (r ∷ rs) row found =
    elim (cases_Bool (p r)) [
      | inl is ↦
          let same : r ≡ row = cc (sym (ap (λ b. cond b (Some r) (find p rs)) is) ∙ found) in
          ap (λ b. b || list_any (λ (x : Service). x.number == row.number) rs) (eq-eqb r.number row.number (ap number_of same))
      | inr out ↦
          let rest = found_any p rs row (sym (ap (λ b. cond b (Some r) (find p rs)) out) ∙ found) in
          elim (r.number == row.number) as (λ b. b || list_any (λ (x : Service). x.number == row.number) rs ≡ true) [
            | true ↦ refl
            | false ↦ rest
          ]
    ]

-- one service less
pub fewer_rows : (p : Service → Bool) (rows : List Service) (row : Service) → find p rows ≡ Some row
    → length (without row.number rows) < length rows
fewer_rows p [] row found = absurd (cc found)
fewer_rows p (r ∷ rs) row found =
    elim (cases_Bool (r.number == row.number)) [
      | inl same ↦ simp same (omega (arith, fewest row.number rs))
      | inr other ↦
          elim (cases_Bool (p r)) [
            | inl is ↦ absurd (cc (other, eq-eqb r.number row.number (ap number_of (first_is is))))
            | inr out ↦ simp other (omega (arith, fewer_rows p rs row (sym (ap (λ b. cond b (Some r) (find p rs)) out) ∙ found)))
          ]
    ]
  where
    first_is : p r ≡ true → r ≡ row
    first_is is = cc (sym (ap (λ b. cond b (Some r) (find p rs)) is) ∙ found)

    fewest : (n : ℕ) (xs : List Service) → length (without n xs) ≤ length xs
    fewest n [] = omega arith
    fewest n (x ∷ xs) =
        elim (x.number == n) as (λ b. length (cond (not b) (x ∷ without n xs) (without n xs)) ≤ suc (length xs)) [
          | true ↦ omega (arith, fewest n xs)
          | false ↦ omega (arith, fewest n xs)
        ]

-- ## One goes

-- the service that leaves first, with its number
pub record Leaver (handles : List HandleRow) (rows : List Service) (n : ℕ) : Type 0 where
  pub row : Service
  pub found : find (leaves handles) rows ≡ Some row
  pub number : row.number ≡ n

told_some : (handles : List HandleRow) (rows : List Service) (n : ℕ) (first : Option Service) → find (leaves handles) rows ≡ first
    → Some n ≡ option_map number_of first → Leaver handles rows n
told_some handles rows n None is told = absurd (cc told)
told_some handles rows n (Some row) is told = record { row = row; found = is; number = cc told }

told_none : (first : Option Service) → None ≡ option_map number_of first → first ≡ None
told_none None told = refl
told_none (Some row) told = absurd (cc told)

pub leaver : (handles : List HandleRow) (rows : List Service) (marks : List ℕ) (n : ℕ)
    → AllPairs (λ (a b : Service). a.number < b.number) rows → marks ≡ marked_numbers rows
    → Some n ≡ find (number_leaves handles rows) marks → Leaver handles rows n
leaver handles rows marks n rising are told =
    told_some handles rows n (find (leaves handles) rows) refl (told ∙ ap (find (number_leaves handles rows)) are
    ∙ first_leaves handles rows rising)

pub no_leaver : (handles : List HandleRow) (rows : List Service) (marks : List ℕ) → AllPairs (λ (a b : Service). a.number < b.number) rows
    → marks ≡ marked_numbers rows
    → None ≡ find (number_leaves handles rows) marks → find (leaves handles) rows ≡ None
no_leaver handles rows marks rising are told =
    told_none (find (leaves handles) rows) (told ∙ ap (find (number_leaves handles rows)) are ∙ first_leaves handles rows rising)

-- a row that was found is the one with its number
found_number : (p : Service → Bool) (rows : List Service) (row : Service) → AreRisingBy number_of rows → find p rows ≡ Some row
    → find (λ (r : Service). r.number == row.number) rows ≡ Some row
found_number p [] row rising found = absurd (cc found)
found_number p (r ∷ rs) row rising found =
    elim (cases_Bool (p r)) [
      | inl is ↦
          let same : r ≡ row = cc (sym (ap (λ b. cond b (Some r) (find p rs)) is) ∙ found) in
          ap (λ b. cond b (Some r) (find (λ (x : Service). x.number == row.number) rs)) (eq-eqb r.number row.number (ap number_of same))
          ∙ ap (λ (x : Service). Some x) same
      | inr out ↦
          let there = sym (ap (λ b. cond b (Some r) (find p rs)) out) ∙ found in
          ap (λ b. cond b (Some r) (find (λ (x : Service). x.number == row.number) rs))
          (ne_eqb r.number row.number (omega (arith, found_above p r.number rs row rising.0 there)))
          ∙ found_number p rs row rising.1 there
    ]

pub one_left : (f : Flat) (n : ℕ) → AllPairs (λ (a b : Service). a.number < b.number) f.services → Leaver f.handles f.services n
    → purged (record f {
      services = without n f.services;
      registrations =
          if_found (λ (row : Service). noted (event_of_leaving row)) (find (λ (row : Service). row.number == n) f.services) f.registrations;
    })
    ≡ purged f
one_left f n rising l =
    subst (λ (m : ℕ). purged (record f {
      services = without m f.services;
      registrations = if_found (λ (row : Service). noted (event_of_leaving row))
          (find (λ (row : Service). row.number == m) f.services) f.registrations;
    }) ≡ purged f) l.number
    (ap (λ (o : Option Service). purged (record f {
      services = without l.row.number f.services;
      registrations = if_found (λ (row : Service). noted (event_of_leaving row)) o f.registrations;
    }))
    (found_number (leaves f.handles) f.services l.row (rising_by f.services rising) l.found)
    ∙ first_left f l.row rising l.found)

pub one_less : (handles : List HandleRow) (rows : List Service) (n : ℕ) → Leaver handles rows n → length (without n rows) < length rows
one_less handles rows n l = subst (λ (m : ℕ). length (without m rows) < length rows) l.number
    (fewer_rows (leaves handles) rows l.row l.found)

pub few_without : (n : ℕ) (rows : List Service) → length (without n rows) ≤ length rows
few_without n [] = omega arith
few_without n (row ∷ rows) =
    elim (row.number == n) as (λ b. length (cond (not b) (row ∷ without n rows) (without n rows)) ≤ suc (length rows)) [
      | true ↦ omega (arith, few_without n rows)
      | false ↦ omega (arith, few_without n rows)
    ]
