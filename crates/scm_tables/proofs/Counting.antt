-- What processes owe, as one comes, changes or goes.
use Rattle.std.proofs.Common.{ℕ, ◌≡◌, ◌<◌, ◌≤◌, ◌+◌, ◌-◌, ◌*◌, ◌^◌, ◌++◌, zero, suc, List, [], ◌∷◌, ap, get_or, length, map, arith, refl}
use Rattle.std.specs.Prelude.{remove, set}
use Rattle.scm_model.specs.declared.flat.Phase.{Phase}
use Rattle.scm_model.specs.declared.flat.Phase.TheVariants as phases
use Rattle.scm_rules.specs.Owed.{owed_in_phase}
use Rattle.scm_model.specs.declared.flat.Process.{Process}
use Rattle.scm_tables.specs.Listed.{listed_as}
use Rattle.scm_tables.specs.Processed.{owed_in}
use Rattle.scm_tables.specs.declared.process_rows.ProcessRow.{ProcessRow}

few : (phase : Phase) → owed_in_phase phase ≤ 3
few phases.Wanted = omega arith
few phases.Taken = omega arith
few phases.Launched = omega arith

pub owed_most : (rows : List ProcessRow) → owed_in rows ≤ 3 * length rows
owed_most [] = omega arith
owed_most (row ∷ rows) = omega (arith, few row.phase, owed_most rows)

pub owed_push : (rows : List ProcessRow) (row : ProcessRow) → owed_in (rows ++ row ∷ []) ≡ owed_in rows + owed_in_phase row.phase
owed_push [] row = omega arith
owed_push (first ∷ rows) row = omega (arith, owed_push rows row)

-- the one at a place is another
pub owed_set : (rows : List ProcessRow) (i : ℕ) (d new : ProcessRow) → i < length rows → owed_in (set rows i new)
    + owed_in_phase (get_or rows i d).phase ≡ owed_in rows + owed_in_phase new.phase
owed_set [] i d new within = absurd (omega arith)
owed_set (row ∷ rows) zero d new within = omega arith
owed_set (row ∷ rows) (suc i) d new within = omega (arith, owed_set rows i d new (omega arith))

-- the one at a place goes
pub owed_gone : (rows : List ProcessRow) (i : ℕ) (d : ProcessRow) → i < length rows → owed_in (remove rows i)
    + owed_in_phase (get_or rows i d).phase ≡ owed_in rows
owed_gone [] i d within = absurd (omega arith)
owed_gone (row ∷ rows) zero d within = omega arith
owed_gone (row ∷ rows) (suc i) d within = omega (arith, owed_gone rows i d (omega arith))

-- where so much was owed, and the one at a place owed its part
module _ (rows : List ProcessRow) (i : ℕ) (d : ProcessRow) {owed before : ℕ} (within : i < length rows) (all : owed ≡ owed_in rows)
    (part : before ≡ owed_in_phase (get_or rows i d).phase) where
  pub owed_enough : before ≤ owed
  owed_enough = omega (arith, owed_gone rows i d within, all, part)

  pub owed_after : (new : ProcessRow) {after : ℕ} → after ≡ owed_in_phase new.phase → owed - before + after ≡ owed_in (set rows i new)
  owed_after new now = omega (arith, owed_set rows i d new within, owed_enough, all, part, now)

  pub owed_without : owed - before ≡ owed_in (remove rows i)
  owed_without = omega (arith, owed_gone rows i d within, all, part)

pub owed_fits : (rows : List ProcessRow) (owed before after : ℕ) → length rows < 2 ^ 64 → owed ≡ owed_in rows → after ≤ 3 → owed - before
    + after < 2 ^ 128
owed_fits rows owed before after short all small = omega (arith, owed_most rows, short, all, small)

-- a change that leaves the phases alone
pub owed_alone : (change : Process → Process) → ((row : ProcessRow) → (listed_as change row).phase ≡ row.phase) → (rows : List ProcessRow)
    → owed_in (map (listed_as change) rows) ≡ owed_in rows
owed_alone change same [] = refl
owed_alone change same (row ∷ rows) = omega (arith, ap owed_in_phase (same row), owed_alone change same rows)
