-- What changes of processes do to a row, by its number.
use Rattle.std.proofs.Common.{ℕ, ◌≡◌, ◌≢◌, ◌∙◌, ◌<◌, ◌≤◌, ◌+◌, ◌==◌, ◌&&◌, ◌||◌, ◌++◌, nat_lt, not, Bool, cond, true, false, List, [], ◌∷◌}
use Rattle.std.proofs.Common.{Some, ap, arith, drop, filter, find, get_or, length, map, refl, sym, eq-eqb}
use Rattle.std.specs.Prelude.{option_map, slice_get}
use Rattle.std.specs.List.{list_any}
use Rattle.std.proofs.lemmas.Bool.{ne_eqb}
use Rattle.std.proofs.lemmas.List.{get_or-map, length-map}
use Rattle.std.proofs.lemmas.List.Elements.{All-filter, All-map, All-push}
use Rattle.scm_model.specs.declared.flat.Phase.TheVariants as phases
use Rattle.scm_model.specs.declared.flat.Order.{Order}
use Rattle.scm_model.specs.declared.flat.Process.{Process}
use Rattle.scm_rules.specs.Controls.{controlled_if, dequeued_if}
use Rattle.scm_rules.specs.Launches.{launched_if, taken_if}
use Rattle.scm_rules.specs.Reports.{released_if}
use Rattle.scm_tables.specs.Listed.{is_wanted_row, listed_as, process_shown, processes_in, wanted_in, wanted_of}
use Rattle.scm_tables.specs.Processed.{AreNumbered}
use Rattle.scm_tables.specs.Tabled.{AreInOrder}
use Rattle.scm_tables.specs.declared.process_rows.ProcessRow.{ProcessRow}

abbrev pub number_of : ProcessRow → ℕ
number_of row = row.number

abbrev pub taken : ProcessRow → ProcessRow
taken row = record row { phase = phases.Taken }

pub taken_here : (n : ℕ) (row : ProcessRow) → row.number ≡ n → listed_as (taken_if n) row ≡ taken row
taken_here n row is = rw (eq-eqb row.number n is) refl

pub taken_elsewhere : (n : ℕ) (row : ProcessRow) → row.number ≢ n → listed_as (taken_if n) row ≡ row
taken_elsewhere n row other = rw (ne_eqb row.number n other) refl

abbrev pub launched : ℕ → ProcessRow → ProcessRow
launched pid row = record row { phase = phases.Launched; pid = pid }

pub launched_here : (n pid : ℕ) (row : ProcessRow) → row.number ≡ n → listed_as (launched_if n pid) row ≡ launched pid row
launched_here n pid row is = rw (eq-eqb row.number n is) refl

pub launched_elsewhere : (n pid : ℕ) (row : ProcessRow) → row.number ≢ n → listed_as (launched_if n pid) row ≡ row
launched_elsewhere n pid row other = rw (ne_eqb row.number n other) refl

abbrev pub controlled : ℕ → Order → ProcessRow → ProcessRow
controlled limit order row = cond (nat_lt (length row.controls) limit) (record row { controls = row.controls ++ order ∷ [] }) row

pub controlled_here : (limit n : ℕ) (order : Order) (row : ProcessRow) → row.number ≡ n
    → listed_as (controlled_if limit n order) row ≡ controlled limit order row
controlled_here limit n order row is =
    rw (eq-eqb row.number n is) (elim (nat_lt (length row.controls) limit) as (λ b. listed_as
    (λ p. cond b (record p { controls = p.controls ++ order ∷ [] }) p) row ≡ cond b
    (record row { controls = row.controls ++ order ∷ [] }) row) [ true ↦ refl | false ↦ refl ])

pub controlled_elsewhere : (limit n : ℕ) (order : Order) (row : ProcessRow) → row.number ≢ n
    → listed_as (controlled_if limit n order) row ≡ row
controlled_elsewhere limit n order row other = rw (ne_eqb row.number n other) refl

abbrev pub relieved : ProcessRow → ProcessRow
relieved row = record row { controls = drop 1 row.controls }

pub relieved_here : (n : ℕ) (row : ProcessRow) → row.number ≡ n → listed_as (dequeued_if n) row ≡ relieved row
relieved_here n row is = rw (eq-eqb row.number n is) refl

pub relieved_elsewhere : (n : ℕ) (row : ProcessRow) → row.number ≢ n → listed_as (dequeued_if n) row ≡ row
relieved_elsewhere n row other = rw (ne_eqb row.number n other) refl

abbrev pub orders_left : ℕ → List Order → List Order
orders_left service orders = filter (λ (order : Order). not (order.service == service)) orders

abbrev pub released : ℕ → ProcessRow → ProcessRow
released service row = cond row.shared (record row { controls = orders_left service row.controls }) row

pub released_here : (n service : ℕ) (row : ProcessRow) → row.number ≡ n → listed_as (released_if n service) row ≡ released service row
released_here n service row is =
    rw (eq-eqb row.number n is) (elim row.shared as (λ b. listed_as
    (λ p. cond b (record p { controls = orders_left service p.controls }) p) row ≡ cond b
    (record row { controls = orders_left service row.controls }) row) [ true ↦ refl | false ↦ refl ])

pub released_elsewhere : (n service : ℕ) (row : ProcessRow) → row.number ≢ n → listed_as (released_if n service) row ≡ row
released_elsewhere n service row other = rw (ne_eqb row.number n other) refl

-- ## What the changes keep

pub taken_number : (n : ℕ) (row : ProcessRow) → (listed_as (taken_if n) row).number ≡ row.number
taken_number n row = elim (row.number == n) as (λ b. (listed_as (λ p. cond b (record p { phase = phases.Taken }) p) row).number ≡
    row.number) [ true ↦ refl | false ↦ refl ]

pub launched_number : (n pid : ℕ) (row : ProcessRow) → (listed_as (launched_if n pid) row).number ≡ row.number
launched_number n pid row = elim (row.number == n) as (λ b. (listed_as (λ p. cond b (record p { phase = phases.Launched; pid = pid }) p)
    row).number ≡ row.number) [ true ↦ refl | false ↦ refl ]

pub controlled_number : (limit n : ℕ) (order : Order) (row : ProcessRow) → (listed_as (controlled_if limit n order) row).number ≡ row.number
controlled_number limit n order row =
    elim (row.number == n && nat_lt (length row.controls) limit) as (λ b.
    (listed_as (λ p. cond b (record p { controls = p.controls ++ order ∷ [] }) p) row).number ≡ row.number) [
      | true ↦ refl
      | false ↦ refl
    ]

pub controlled_phase : (limit n : ℕ) (order : Order) (row : ProcessRow) → (listed_as (controlled_if limit n order) row).phase ≡ row.phase
controlled_phase limit n order row =
    elim (row.number == n && nat_lt (length row.controls) limit) as (λ b.
    (listed_as (λ p. cond b (record p { controls = p.controls ++ order ∷ [] }) p) row).phase ≡ row.phase) [ true ↦ refl | false ↦ refl ]

pub relieved_number : (n : ℕ) (row : ProcessRow) → (listed_as (dequeued_if n) row).number ≡ row.number
relieved_number n row = elim (row.number == n) as (λ b. (listed_as (λ p. cond b (record p { controls = drop 1 p.controls }) p) row).number ≡
    row.number) [ true ↦ refl | false ↦ refl ]

pub relieved_phase : (n : ℕ) (row : ProcessRow) → (listed_as (dequeued_if n) row).phase ≡ row.phase
relieved_phase n row = elim (row.number == n) as (λ b. (listed_as (λ p. cond b (record p { controls = drop 1 p.controls }) p) row).phase ≡
    row.phase) [ true ↦ refl | false ↦ refl ]

pub released_number : (n service : ℕ) (row : ProcessRow) → (listed_as (released_if n service) row).number ≡ row.number
released_number n service row =
    elim (row.number == n && row.shared) as (λ b. (listed_as (λ p. cond b (record p { controls = orders_left service p.controls }) p)
    row).number ≡ row.number) [ true ↦ refl | false ↦ refl ]

pub released_phase : (n service : ℕ) (row : ProcessRow) → (listed_as (released_if n service) row).phase ≡ row.phase
released_phase n service row =
    elim (row.number == n && row.shared) as (λ b. (listed_as (λ p. cond b (record p { controls = orders_left service p.controls }) p)
    row).phase ≡ row.phase) [ true ↦ refl | false ↦ refl ]

-- ## No number is 0

pub numbered_push : (next : ℕ) (rows : List ProcessRow) (row : ProcessRow) → AreNumbered next rows → row.number ≡ next
    → AreNumbered (next + 1) (rows ++ row ∷ [])
numbered_push next rows row old new = record {
  coming = omega arith;
  listed = All-push (λ (r : ProcessRow). 1 ≤ r.number) rows row old.listed (omega (arith, old.coming, new));
}

pub numbered_filter : (next : ℕ) (p : ProcessRow → Bool) (rows : List ProcessRow) → AreNumbered next rows
    → AreNumbered next (filter p rows)
numbered_filter next p rows old = record {
  coming = old.coming;
  listed = All-filter p (λ (r : ProcessRow). 1 ≤ r.number) rows old.listed;
}

-- a change that keeps each number
pub numbered_map : (next : ℕ) (change : Process → Process) → ((row : ProcessRow) → (listed_as change row).number ≡ row.number)
    → (rows : List ProcessRow) → AreNumbered next rows → AreNumbered next (map (listed_as change) rows)
numbered_map next change same rows old = record {
  coming = old.coming;
  listed = All-map (λ (r : ProcessRow). 1 ≤ r.number) (listed_as change) rows
      (λ k d lt. omega (arith, old.listed k d lt, same (get_or rows k d)));
}

-- ## Rows that show the same processes

module _ (xs ys : List ProcessRow) (same : processes_in ys ≡ processes_in xs) where
  same_length : length ys ≡ length xs
  same_length = sym (length-map ys process_shown) ∙ ap length same ∙ length-map xs process_shown

  same_number : (k : ℕ) (d : ProcessRow) → k < length ys → (get_or ys k d).number ≡ (get_or xs k d).number
  same_number k d lt =
      ap (λ (p : Process). p.number) (sym (get_or-map process_shown ys k d (process_shown d) lt)
      ∙ ap (λ (ps : List Process). get_or ps k (process_shown d)) same
      ∙ get_or-map process_shown xs k d (process_shown d) (omega (arith, lt, same_length)))

  -- stand in the same order
  pub same_order : (next : ℕ) → AreInOrder number_of next xs → AreInOrder number_of next ys
  same_order next old = record {
    below = λ k d lt. omega (arith, same_number k d lt, old.below k d (omega (arith, lt, same_length)));
    rising = λ i j d lt within. omega (
      arith,
      same_number i d (omega (arith, lt, within)),
      same_number j d within,
      old.rising i j d lt (omega (arith, within, same_length)),
    );
  }

  -- and have numbers alike
  pub same_numbered : (next : ℕ) → AreNumbered next xs → AreNumbered next ys
  same_numbered next old = record {
    coming = old.coming;
    listed = λ k d lt. omega (arith, same_number k d lt, old.listed k d (omega (arith, lt, same_length)));
  }

-- ## What is found

pub found_shown : (n : ℕ) (rows : List ProcessRow) → option_map process_shown (find (λ (row : ProcessRow). row.number == n) rows) ≡ find
    (λ (row : Process). row.number == n) (processes_in rows)
found_shown n [] = refl
found_shown n (row ∷ rows) =
    elim (row.number == n) as (λ b. option_map process_shown (cond b (Some row) (find (λ (r : ProcessRow). r.number == n) rows)) ≡ cond b
    (Some (process_shown row)) (find (λ (r : Process). r.number == n) (processes_in rows))) [ true ↦ refl | false ↦ found_shown n rows ]

pub any_shared : (rows : List ProcessRow) → list_any (λ (row : ProcessRow). row.shared) rows ≡ list_any (λ (row : Process). row.shared)
    (processes_in rows)
any_shared [] = refl
any_shared (row ∷ rows) = ap (λ b. row.shared || b) (any_shared rows)

pub wanted_shown : (rows : List ProcessRow) → option_map wanted_of (find is_wanted_row rows) ≡ slice_get (wanted_in rows) 0
wanted_shown [] = refl
wanted_shown (row ∷ rows) =
    elim (is_wanted_row row) as (λ b. option_map wanted_of (cond b (Some row) (find is_wanted_row rows)) ≡ slice_get
    (map wanted_of (cond b (row ∷ filter is_wanted_row rows) (filter is_wanted_row rows))) 0) [
      | true ↦ refl
      | false ↦ wanted_shown rows
    ]
