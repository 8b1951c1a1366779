-- Services under their processes, as they come, go and change.
use Rattle.std.proofs.Common.{ℕ, ◌≡◌, ◌≢◌, ◌<◌, ◌||◌, ◌∙◌, ◌+◌, ◌≤◌, Bool, true, false, not, cond, length, suc}
use Rattle.std.proofs.Common.{List, [], ◌∷◌, ◌++◌, Option, Some, None, subst}
use Rattle.std.proofs.Common.{refl, sym, ap}
use Rattle.std.proofs.Common.{eqb, filter, find, map, arith, inl, inr}
use Rattle.std.specs.List.{AllByRecursion, list_any}
use Rattle.std.specs.Prelude.{option_map, slice_get}
use Rattle.std.specs.Ordering.{is_eq}
use Rattle.std.proofs.lemmas.Bool.Decides.{nat_tests}
use Rattle.std.proofs.lemmas.Bool.{eq-eqb, eqb-true, ne_eqb, cases_Bool}
use Rattle.number_lists.specs.Rising.{with_number, without_number}
use Rattle.number_pairs.specs.declared.pairs.Pair.{Pair}
use Rattle.number_pairs.specs.Keyed.{has_pair, numbers_under, pair_cmp}
use Rattle.scm_model.specs.Processes.{is_by}
use Rattle.scm_model.specs.declared.flat.Service.{Service}
use Rattle.row_slab.specs.Rowed.{AreRisingBy, altered_at, left_by}
use Rattle.record_table.specs.Kept.{AreByProcess, ChangesOf, MovesUnder, idle, idle_at, is_under, moved_under}
use Rattle.record_table.specs.Recorded.{has_number, number_of, process_in}
use Rattle.record_table.proofs.Finding.{none_changes}
use Rattle.record_table.proofs.Groups as groups
use Rattle.record_table.proofs.Groups.{numbers_if}

-- ## A service's pair

abbrev pair_of : ℕ → ℕ → Pair
pair_of process number = record { key = process; number = number }

same_test : (pair : Pair) (process number : ℕ) → eqb pair.key process ≡ true
    → is_eq (pair_cmp pair (pair_of process number)) ≡ eqb pair.number number
same_test pair process number same = elim (cases_Bool (eqb pair.number number)) [
  | inl is ↦ grind (arith, nat_tests)
  | inr other ↦ grind (arith, nat_tests)
]

other_test : (pair : Pair) (process number : ℕ) → eqb pair.key process ≡ false
    → is_eq (pair_cmp pair (pair_of process number)) ≡ false
other_test pair process number other = grind (arith, nat_tests)

-- a number is under a process where the pair is there
pair_is_there : (pairs : List Pair) (process number : ℕ) → list_any (λ m. eqb m number) (numbers_under process pairs) ≡ true
    → has_pair pairs (pair_of process number) ≡ true
pair_is_there [] process number there = absurd (cc there)
pair_is_there (pair ∷ pairs) process number there =
    elim (cases_Bool (eqb pair.key process)) [
      | inl same ↦ rw (same_test pair process number same)
          (elim (eqb pair.number number) as (λ b. b || list_any (λ m. eqb m number) (numbers_under process pairs) ≡ true
          → b || has_pair pairs (pair_of process number) ≡ true) [
            | true ↦ λ any. refl
            | false ↦ λ any. pair_is_there pairs process number any
          ] (rw same at there))
      | inr other ↦ rw (other_test pair process number other) (pair_is_there pairs process number (rw other at there))
    ]

found_is_listed : (p : Service → Bool) (number : ℕ) (rows : List Service) (row : Service) → find (has_number number) rows ≡ Some row
    → p row ≡ true → list_any (λ m. eqb m number) (numbers_if p rows) ≡ true
found_is_listed p number [] row found passes = absurd (cc found)
found_is_listed p number (other ∷ rows) row found passes =
    elim (cases_Bool (has_number number other)) [
      | inl is ↦
          let here : other ≡ row = cc (sym (ap (λ b. cond b (Some other) (find (has_number number) rows)) is) ∙ found) in
          rw (ap p here ∙ passes) (rw is refl)
      | inr apart ↦
          let next : find (has_number number) rows ≡ Some row =
          sym (ap (λ b. cond b (Some other) (find (has_number number) rows)) apart) ∙ found in
          elim (p other) as (λ b. list_any (λ m. eqb m number) (map number_of (cond b (other ∷ filter p rows) (filter p rows))) ≡ true) [
            | true ↦ rw apart (found_is_listed p number rows row next passes)
            | false ↦ found_is_listed p number rows row next passes
          ]
    ]

-- the pair of a service that was found is there
pub has_its_pair : (pairs : List Pair) (rows : List Service) (number : ℕ) (row : Service) → AreByProcess pairs rows
    → find (has_number number) rows ≡ Some row → row.process ≢ 0 → has_pair pairs (pair_of row.process number) ≡ true
has_its_pair pairs rows number row are found some =
    pair_is_there pairs row.process number (ap (list_any (λ m. eqb m number)) (are row.process)
    ∙ found_is_listed (is_by row.process) number rows row found
    (rw (ne_eqb row.process 0 some) (eq-eqb row.process row.process refl)))

-- the number of the first pair is the first of the numbers
pub first_number : (pairs : List Pair) → option_map (λ (pair : Pair). pair.number) (slice_get pairs 0)
    ≡ slice_get (map (λ (pair : Pair). pair.number) pairs) 0
first_number [] = refl
first_number (pair ∷ pairs) = refl

-- ## Services come and go

pub entered : (old new : List Pair) (rows : List Service) (row : Service) → AreByProcess old rows
    → AllByRecursion (λ (other : Service). other.number < row.number) rows
    → ((process : ℕ) → numbers_under process new ≡ cond (is_under process row.process)
    (with_number (numbers_under process old) row.number) (numbers_under process old)) → AreByProcess new (rows ++ row ∷ [])
entered old new rows row are above changes process =
    changes process
    ∙ ap (λ ns. cond (is_under process row.process) (with_number ns row.number) ns) (are process)
    ∙ sym (groups.pushed (is_by process) rows row above)

-- a number leaves those under its process, and so all
less : (rows : List Service) (row : Service) (number : ℕ) → AreRisingBy number_of rows → find (has_number number) rows ≡ Some row
    → (process : ℕ) → cond (is_under process row.process) (without_number (numbers_if (is_by process) rows) number)
    (numbers_if (is_by process) rows) ≡ without_number (numbers_if (is_by process) rows) number
less rows row number rising found process = elim (cases_Bool (is_under process row.process)) [
  | inl is ↦ rw is refl
  | inr other ↦ rw other (sym (groups.unlisted (is_by process) rows row number rising found other))
]

pub gone : (old new : List Pair) (rows : List Service) (row : Service) (number : ℕ) → AreByProcess old rows → AreRisingBy number_of rows
    → find (has_number number) rows ≡ Some row
    → ((process : ℕ) → numbers_under process new ≡ cond (is_under process row.process)
    (without_number (numbers_under process old) number) (numbers_under process old))
    → AreByProcess new (filter (λ (other : Service). not (has_number number other)) rows)
gone old new rows row number are rising found changes process =
    changes process
    ∙ ap (λ ns. cond (is_under process row.process) (without_number ns number) ns) (are process)
    ∙ less rows row number rising found process
    ∙ sym (groups.removed (is_by process) rows number)

-- ## A service changes

-- it is found by its number, which stays
found_changed : (number : ℕ) (change : Service → Service) → ((row : Service) → (change row).number ≡ row.number) → (rows : List Service)
    → (row : Service) → find (has_number number) rows ≡ Some row
    → find (has_number number) (map (altered_at number_of number change) rows) ≡ Some (change row)
found_changed number change numbers [] row found = absurd (cc found)
found_changed number change numbers (other ∷ rows) row found =
    elim (cases_Bool (has_number number other)) [
      | inl is ↦
          let here : other ≡ row = cc (sym (ap (λ b. cond b (Some other) (find (has_number number) rows)) is) ∙ found) in
          let kept : has_number number (change other) ≡ true = ap (λ n. eqb n number) (numbers other) ∙ is in
          rw is (rw kept (ap (λ (r : Service). Some (change r)) here))
      | inr apart ↦
          let next : find (has_number number) rows ≡ Some row =
          sym (ap (λ b. cond b (Some other) (find (has_number number) rows)) apart) ∙ found in
          rw apart (rw apart (found_changed number change numbers rows row next))
    ]

-- the process that an exchange leaves is that of the service that was found, before or after the change
pub process_left : {A : Type 0} (told : A → ℕ) (left : Service → A) (found : Option Service) (parts : A) → told parts ≡ 0
    → ((row : Service) → told (left row) ≡ row.process) → told (left_by left found parts) ≡ process_in found
process_left told left None parts none is = none
process_left told left (Some row) parts none is = is row

pub process_changed : {A : Type 0} (told : A → ℕ) (left : Service → A) (rows : List Service) (number : ℕ)
    (change : Service → Service) (parts : A) → ((row : Service) → (change row).number ≡ row.number) → told parts ≡ 0
    → ((row : Service) → told (left row) ≡ (change row).process)
    → told (left_by left (find (has_number number) rows) parts) ≡ process_in (find (has_number number)
    (map (altered_at number_of number change) rows))
process_changed told left rows number change parts numbers none is = by (find (has_number number) rows) refl
  where
    by : (found : Option Service) → find (has_number number) rows ≡ found → told (left_by left found parts) ≡ process_in
        (find (has_number number) (map (altered_at number_of number change) rows))
    by None lacks = none ∙ sym (ap process_in (ap (find (has_number number)) (none_changes number change rows lacks) ∙ lacks))
    by (Some row) found = is row ∙ sym (ap process_in (found_changed number change numbers rows row found))

-- where nothing is found nothing changes, and else the service that was found may have another process
pub altered : (old new : List Pair) (rows : List Service) (number before after : ℕ) (change : Service → Service)
    → ((row : Service) → (change row).number ≡ row.number) → AreByProcess old rows → AreRisingBy number_of rows
    → before ≡ process_in (find (has_number number) rows)
    → after ≡ process_in (find (has_number number) (map (altered_at number_of number change) rows))
    → MovesUnder old new before after number → AreByProcess new (map (altered_at number_of number change) rows)
altered old new rows number before after change numbers are rising was becomes moves =
    by (find (has_number number) rows) refl
  where
    by : (found : Option Service) → find (has_number number) rows ≡ found
        → AreByProcess new (map (altered_at number_of number change) rows)
    by None none process =
        let same = none_changes number change rows none in
        let stays : before ≡ after =
        was ∙ ap process_in (ap (find (has_number number)) (sym same)) ∙ sym becomes in
        moves process ∙ rw (eq-eqb before after stays) (are process)
        ∙ ap (numbers_if (is_by process)) (sym same)
    by (Some row) found process =
        let left : before ≡ row.process = was ∙ ap process_in found in
        let entered_now : after ≡ (change row).process = becomes ∙ ap process_in (found_changed number change numbers rows row found) in
        moves process ∙ ap (moved_under before after number process) (are process)
        ∙ elim (cases_Bool (eqb before after)) [
          | inl stays ↦
              let same : (change row).process ≡ row.process = sym entered_now ∙ sym (eqb-true before after stays) ∙ left in
              rw stays (sym (groups.same_at (is_by process) rows row number change
              (ap (is_under process) same) (numbers row) rising found))
          | inr apart ↦
              rw apart (rw (left, entered_now) (ap (λ ns. cond (is_under process (change row).process) (with_number ns number) ns)
              (less rows row number rising found process)
              ∙ sym (groups.replaced (is_by process) rows row number change (is_under process (change row).process)
              refl (numbers row) rising found)))
        ]

-- what moves away is there
pub its_pair : (pairs : List Pair) (rows : List Service) (number before after : ℕ) (change : Service → Service) → AreByProcess pairs rows
    → before ≡ process_in (find (has_number number) rows)
    → after ≡ process_in (find (has_number number) (map (altered_at number_of number change) rows))
    → before ≢ after → before ≢ 0 → has_pair pairs (pair_of before number) ≡ true
its_pair pairs rows number before after change are was becomes apart some = by (find (has_number number) rows) refl
  where
    by : (found : Option Service) → find (has_number number) rows ≡ found → has_pair pairs (pair_of before number) ≡ true
    by None none = absurd (apart (was ∙ ap process_in (ap (find (has_number number)) (sym (none_changes number change rows none)))
        ∙ sym becomes))
    by (Some row) found =
        let is : before ≡ row.process = was ∙ ap process_in found in
        rw is (has_its_pair pairs rows number row are found (rw is at some))

-- a change of one service that leaves its number and its process
pub unmoved : (pairs : List Pair) (rows : List Service) (number : ℕ) (change : Service → Service)
    → ((row : Service) → (change row).number ≡ row.number) → ((row : Service) → (change row).process ≡ row.process)
    → AreByProcess pairs rows → AreByProcess pairs (map (altered_at number_of number change) rows)
unmoved pairs rows number change numbers processes are process =
    are process ∙ sym (groups.same_members (is_by process) (altered_at number_of number change) rows same_numbers same_processes)
  where
    same_numbers : (row : Service) → (altered_at number_of number change row).number ≡ row.number
    same_numbers row = elim (eqb row.number number) as (λ b. (cond b (change row) row).number ≡ row.number)
        [ true ↦ numbers row | false ↦ refl ]

    same_processes : (row : Service) → is_by process (altered_at number_of number change row) ≡ is_by process row
    same_processes row = elim (eqb row.number number) as (λ b. is_by process (cond b (change row) row) ≡ is_by process row)
        [ true ↦ ap (is_under process) (processes row) | false ↦ refl ]

-- ## A number moves

pub moved : (old middle new : List Pair) (before after number : ℕ) → eqb before after ≡ false
    → ChangesOf before old middle (λ numbers. without_number numbers number)
    → ChangesOf after middle new (λ numbers. with_number numbers number) → MovesUnder old new before after number
moved old middle new before after number apart leaves comes process =
    rw apart (comes process ∙ ap (λ ns. cond (is_under process after) (with_number ns number) ns) (leaves process))

-- ## Services without a process

pub idle_entered : (rows : List Service) (row : Service) → idle (rows ++ row ∷ []) ≡ idle rows + idle_at row.process
idle_entered [] row = omega arith
idle_entered (other ∷ rows) row = omega (arith, idle_entered rows row)

-- as many at most as there are
pub idle_within : (rows : List Service) → idle rows ≤ length rows
idle_within [] = omega arith
idle_within (row ∷ rows) =
    elim (eqb row.process 0) as (λ b. cond b 1 0 + idle rows ≤ suc (length rows)) [
      | true ↦ omega (arith, idle_within rows)
      | false ↦ omega (arith, idle_within rows)
    ]

-- those that stay are no more than all
pub idle_filtered : (p : Service → Bool) (rows : List Service) → idle (filter p rows) ≤ idle rows
idle_filtered p [] = omega arith
idle_filtered p (row ∷ rows) =
    elim (p row) as (λ b. idle (cond b (row ∷ filter p rows) (filter p rows)) ≤ idle_at row.process + idle rows) [
      | true ↦ omega (arith, idle_filtered p rows)
      | false ↦ omega (arith, idle_filtered p rows)
    ]

-- one that leaves takes its part with it
pub idle_without : (rows : List Service) (row : Service) (number : ℕ) → find (has_number number) rows ≡ Some row
    → idle (filter (λ (other : Service). not (has_number number other)) rows) + idle_at row.process ≤ idle rows
idle_without [] row number found = absurd (cc found)
idle_without (other ∷ rows) row number found =
    elim (cases_Bool (has_number number other)) [
      | inl is ↦
          let here : other ≡ row = cc (sym (ap (λ b. cond b (Some other) (find (has_number number) rows)) is) ∙ found) in
          rw is (rw here (omega (arith, idle_filtered (λ (r : Service). not (has_number number r)) rows)))
      | inr apart ↦
          let next : find (has_number number) rows ≡ Some row =
          sym (ap (λ b. cond b (Some other) (find (has_number number) rows)) apart) ∙ found in
          rw apart (omega (arith, idle_without rows row number next))
    ]

-- a change of each service that leaves its process
pub idle_mapped : (change : Service → Service) (rows : List Service) → ((row : Service) → (change row).process ≡ row.process)
    → idle (map change rows) ≡ idle rows
idle_mapped change [] same = refl
idle_mapped change (row ∷ rows) same = rw (same row) (ap (λ n. idle_at row.process + n) (idle_mapped change rows same))

pub idle_unmoved : (rows : List Service) (number : ℕ) (change : Service → Service)
    → ((row : Service) → (change row).process ≡ row.process) → idle (map (altered_at number_of number change) rows) ≡ idle rows
idle_unmoved rows number change same = idle_mapped (altered_at number_of number change) rows
    (λ row. elim (eqb row.number number) as (λ b. (cond b (change row) row).process ≡ row.process)
    [ true ↦ same row | false ↦ refl ])

-- where a service changes, so does what it counts
pub idle_altered : (rows : List Service) (number before after : ℕ) (change : Service → Service)
    → ((row : Service) → (change row).number ≡ row.number) → AreRisingBy number_of rows
    → before ≡ process_in (find (has_number number) rows)
    → after ≡ process_in (find (has_number number) (map (altered_at number_of number change) rows))
    → idle (map (altered_at number_of number change) rows) + idle_at before ≡ idle rows + idle_at after
idle_altered [] number before after change numbers rising was becomes = rw (was, becomes) refl
idle_altered (row ∷ rows) number before after change numbers rising was becomes =
    elim (cases_Bool (has_number number row)) [
      | inl is ↦
          let later = subst (λ m. AllByRecursion (λ (other : Service). m < other.number) rows) (eqb-true row.number number is) rising.0 in
          let kept : has_number number (change row) ≡ true = ap (λ n. eqb n number) (numbers row) ∙ is in
          let left : before ≡ row.process = rw is at was in
          let entered_now : after ≡ (change row).process = rw (is, kept) at becomes in
          rw (is, groups.unmapped number change rows later, left, entered_now) (omega arith)
      | inr apart ↦
          rw apart (omega (
            arith,
            idle_altered rows number before after change numbers rising.1 (rw apart at was)
                (rw (apart, apart) at becomes),
          ))
    ]

-- one of another process comes in where one without a process was
pub idle_is : (rows : List Service) (number : ℕ) (row : Service) → find (has_number number) rows ≡ Some row → row.process ≡ 0
    → 1 ≤ idle rows
idle_is [] number row found none = absurd (cc found)
idle_is (other ∷ rows) number row found none =
    elim (cases_Bool (has_number number other)) [
      | inl is ↦
          let here : other ≡ row = cc (sym (ap (λ b. cond b (Some other) (find (has_number number) rows)) is) ∙ found) in
          rw (here, none) (omega arith)
      | inr apart ↦
          let next : find (has_number number) rows ≡ Some row =
          sym (ap (λ b. cond b (Some other) (find (has_number number) rows)) apart) ∙ found in
          omega (arith, idle_is rows number row next none)
    ]

-- there is room for the pair of a service that gets a process
pub room_for : (rows : List Service) (number before after room : ℕ) (change : Service → Service) → idle rows ≤ room
    → before ≡ process_in (find (has_number number) rows)
    → after ≡ process_in (find (has_number number) (map (altered_at number_of number change) rows))
    → before ≢ after → before ≡ 0 → 1 ≤ room
room_for rows number before after room change fits was becomes apart none = by (find (has_number number) rows) refl
  where
    by : (found : Option Service) → find (has_number number) rows ≡ found → 1 ≤ room
    by None lacks = absurd (apart (was ∙ ap process_in (ap (find (has_number number)) (sym (none_changes number change rows lacks)))
        ∙ sym becomes))
    by (Some row) found =
        omega (arith, fits, idle_is rows number row found (sym (ap process_in found) ∙ sym was ∙ none))
