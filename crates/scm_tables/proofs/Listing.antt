-- Changes of the processes, in both lists of the flat state.
use Rattle.std.proofs.Common.{ℕ, ◌≡◌, ◌==◌, ◌&&◌, ◌++◌, true, false, not, nat_lt, cond, List, [], ◌∷◌, refl, sym, ap, subst, map, filter}
use Rattle.std.proofs.Common.{drop, length}
use Rattle.scm_model.specs.declared.flat.Order.{Order}
use Rattle.scm_model.specs.declared.flat.Process.{Process}
use Rattle.scm_model.specs.declared.flat.Wanted.{Wanted}
use Rattle.scm_rules.specs.Controls.{controlled_if, dequeued_if}
use Rattle.scm_rules.specs.Launches.{taken_if, launched_if}
use Rattle.scm_rules.specs.Reports.{released_if}
use Rattle.scm_tables.specs.declared.process_rows.ProcessRow.{ProcessRow}
use Rattle.scm_tables.specs.Listed.{processes_in, wanted_in, listed_as, process_shown, is_wanted_row, wanted_of}
use Rattle.scm_tables.proofs.Changing.{orders_left}

pub processes_changed : (change : Process → Process) (rows : List ProcessRow)
    → processes_in (map (listed_as change) rows) ≡ map change (processes_in rows)
processes_changed change [] = refl
processes_changed change (row ∷ rows) = ap (λ x. change (process_shown row) ∷ x) (processes_changed change rows)

pub processes_kept : (number : ℕ) (rows : List ProcessRow) → processes_in
    (filter (λ (row : ProcessRow). not (row.number == number)) rows) ≡ filter (λ (row : Process). not (row.number == number))
    (processes_in rows)
processes_kept number [] = refl
processes_kept number (row ∷ rows) =
    elim (not (row.number == number)) as (λ b. processes_in (cond b (row ∷ filter (λ (row : ProcessRow). not (row.number == number)) rows)
    (filter (λ (row : ProcessRow). not (row.number == number)) rows))
    ≡ cond b (process_shown row ∷ filter (λ (row : Process). not (row.number == number)) (processes_in rows))
    (filter (λ (row : Process). not (row.number == number)) (processes_in rows))) [
      | true ↦ ap (λ x. process_shown row ∷ x) (processes_kept number rows)
      | false ↦ processes_kept number rows
    ]

-- the rows that are wanted, but for those of a process
abbrev pub others : ℕ → List Wanted → List Wanted
others number rows = filter (λ (row : Wanted). not (row.process == number)) rows

pub wanted_kept : (number : ℕ) (rows : List ProcessRow) → wanted_in (filter (λ (row : ProcessRow). not (row.number == number)) rows) ≡
    others number (wanted_in rows)
wanted_kept number [] = refl
wanted_kept number (row ∷ rows) =
    elim (row.number == number) as (λ b. (row.number == number) ≡ b →
    map wanted_of (filter is_wanted_row (cond (not b) (row ∷ filter (λ (row : ProcessRow). not (row.number == number)) rows)
    (filter (λ (row : ProcessRow). not (row.number == number)) rows)))
    ≡ others number (map wanted_of (cond (is_wanted_row row) (row ∷ filter is_wanted_row rows) (filter is_wanted_row rows)))) [
      | true ↦ λ e. elim (is_wanted_row row) as (λ w. wanted_in (filter (λ (row : ProcessRow). not (row.number == number)) rows) ≡ others
          number (map wanted_of (cond w (row ∷ filter is_wanted_row rows) (filter is_wanted_row rows)))) [
            | true ↦ rw e (wanted_kept number rows)
            | false ↦ wanted_kept number rows
          ]
      | false ↦ λ e. elim (is_wanted_row row) as (λ w. map wanted_of (cond w
          (row ∷ filter is_wanted_row (filter (λ (row : ProcessRow). not (row.number == number)) rows))
          (filter is_wanted_row (filter (λ (row : ProcessRow). not (row.number == number)) rows))) ≡ others number
          (map wanted_of (cond w (row ∷ filter is_wanted_row rows) (filter is_wanted_row rows)))) [
            | true ↦ rw e (ap (λ x. wanted_of row ∷ x) (wanted_kept number rows))
            | false ↦ wanted_kept number rows
          ]
    ] refl

-- a change of the rows with a number, after which none of them is wanted
pub wanted_changed : (number : ℕ) (change : Process → Process)
    → ((row : ProcessRow) → (row.number == number) ≡ true → is_wanted_row (listed_as change row) ≡ false)
    → ((row : ProcessRow) → (row.number == number) ≡ false → listed_as change row ≡ row)
    → (rows : List ProcessRow) → wanted_in (map (listed_as change) rows) ≡ others number (wanted_in rows)
wanted_changed number change there elsewhere [] = refl
wanted_changed number change there elsewhere (row ∷ rows) =
    elim (row.number == number) as (λ b. (row.number == number) ≡ b →
    map wanted_of (cond (is_wanted_row (listed_as change row)) (listed_as change row ∷ filter is_wanted_row (map (listed_as change) rows))
    (filter is_wanted_row (map (listed_as change) rows)))
    ≡ others number (map wanted_of (cond (is_wanted_row row) (row ∷ filter is_wanted_row rows) (filter is_wanted_row rows)))) [
      | true ↦ λ e. rw (there row e) (elim (is_wanted_row row) as (λ w. wanted_in (map (listed_as change) rows) ≡ others number
          (map wanted_of (cond w (row ∷ filter is_wanted_row rows) (filter is_wanted_row rows)))) [
            | true ↦ rw e (wanted_changed number change there elsewhere rows)
            | false ↦ wanted_changed number change there elsewhere rows
          ])
      | false ↦ λ e. subst (λ (r : ProcessRow). map wanted_of (cond (is_wanted_row r)
          (r ∷ filter is_wanted_row (map (listed_as change) rows)) (filter is_wanted_row (map (listed_as change) rows))) ≡ others number
          (map wanted_of (cond (is_wanted_row row) (row ∷ filter is_wanted_row rows) (filter is_wanted_row rows)))) (sym (elsewhere row e))
          (elim (is_wanted_row row) as (λ w. map wanted_of (cond w (row ∷ filter is_wanted_row (map (listed_as change) rows))
          (filter is_wanted_row (map (listed_as change) rows))) ≡ others number
          (map wanted_of (cond w (row ∷ filter is_wanted_row rows) (filter is_wanted_row rows)))) [
            | true ↦ rw e (ap (λ x. wanted_of row ∷ x) (wanted_changed number change there elsewhere rows))
            | false ↦ wanted_changed number change there elsewhere rows
          ])
    ] refl

pub wanted_taken : (number : ℕ) (rows : List ProcessRow) → wanted_in (map (listed_as (taken_if number)) rows) ≡ others number
    (wanted_in rows)
wanted_taken number rows = wanted_changed number (taken_if number) (λ row e. rw e refl) (λ row e. rw e refl) rows

pub wanted_launched : (number pid : ℕ) (rows : List ProcessRow) → wanted_in (map (listed_as (launched_if number pid)) rows) ≡ others number
    (wanted_in rows)
wanted_launched number pid rows = wanted_changed number (launched_if number pid) (λ row e. rw e refl) (λ row e. rw e refl) rows

-- a change that leaves the phases alone, and with them the launches that are wanted
pub wanted_alone : (change : Process → Process) → ((row : ProcessRow) → is_wanted_row (listed_as change row) ≡ is_wanted_row row)
    → ((row : ProcessRow) → wanted_of (listed_as change row) ≡ wanted_of row)
    → (rows : List ProcessRow) → wanted_in (map (listed_as change) rows) ≡ wanted_in rows
wanted_alone change phase launch [] = refl
wanted_alone change phase launch (row ∷ rows) =
    rw (phase row) (elim (is_wanted_row row) as (λ w. map wanted_of (cond w
    (listed_as change row ∷ filter is_wanted_row (map (listed_as change) rows)) (filter is_wanted_row (map (listed_as change) rows))) ≡
    map wanted_of (cond w (row ∷ filter is_wanted_row rows) (filter is_wanted_row rows))) [
      | true ↦ rw (launch row) (ap (λ x. wanted_of row ∷ x) (wanted_alone change phase launch rows))
      | false ↦ wanted_alone change phase launch rows
    ])

pub wanted_controlled : (limit number : ℕ) (order : Order) (rows : List ProcessRow)
    → wanted_in (map (listed_as (controlled_if limit number order)) rows) ≡ wanted_in rows
wanted_controlled limit number order rows =
    wanted_alone (controlled_if limit number order)
    (λ row. elim (row.number == number && nat_lt (length row.controls) limit) as (λ b. is_wanted_row
    (listed_as (λ p. cond b (record p { controls = p.controls ++ order ∷ [] }) p) row) ≡ is_wanted_row row) [
      | true ↦ refl
      | false ↦ refl
    ])
    (λ row. elim (row.number == number && nat_lt (length row.controls) limit) as (λ b. wanted_of
    (listed_as (λ p. cond b (record p { controls = p.controls ++ order ∷ [] }) p) row) ≡ wanted_of row) [ true ↦ refl | false ↦ refl ])
    rows

pub wanted_relieved : (number : ℕ) (rows : List ProcessRow) → wanted_in (map (listed_as (dequeued_if number)) rows) ≡ wanted_in rows
wanted_relieved number rows =
    wanted_alone (dequeued_if number)
    (λ row. elim (row.number == number) as (λ b. is_wanted_row (listed_as (λ p. cond b (record p { controls = drop 1 p.controls }) p) row) ≡
    is_wanted_row row) [ true ↦ refl | false ↦ refl ])
    (λ row. elim (row.number == number) as (λ b. wanted_of (listed_as (λ p. cond b (record p { controls = drop 1 p.controls }) p) row) ≡
    wanted_of row) [ true ↦ refl | false ↦ refl ])
    rows

pub wanted_released : (number service : ℕ) (rows : List ProcessRow)
    → wanted_in (map (listed_as (released_if number service)) rows) ≡ wanted_in rows
wanted_released number service rows =
    wanted_alone (released_if number service)
    (λ row. elim (row.number == number && row.shared) as (λ b. is_wanted_row
    (listed_as (λ p. cond b (record p { controls = orders_left service p.controls }) p) row) ≡ is_wanted_row row) [
      | true ↦ refl
      | false ↦ refl
    ])
    (λ row. elim (row.number == number && row.shared) as (λ b. wanted_of
    (listed_as (λ p. cond b (record p { controls = orders_left service p.controls }) p) row) ≡ wanted_of row) [
      | true ↦ refl
      | false ↦ refl
    ])
    rows
