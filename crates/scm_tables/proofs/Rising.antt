-- Rows in order of number: what each change keeps.
use Rattle.std.proofs.Common.{ℕ, ◌≡◌, ◌≢◌, ◌<◌, ◌+◌, ◌++◌, ◌==◌, ◌||◌, Bool, true, false, cond, List, [], ◌∷◌, filter, map, get_or, length}
use Rattle.std.proofs.Common.{ap, sym, refl, subst, arith, eq-eqb}
use Rattle.std.proofs.lemmas.Bool.{ne_eqb}
use Rattle.std.proofs.lemmas.List.{get_or-map, length-map}
use Rattle.std.proofs.lemmas.List.Elements.{All-filter, All-push, All-map}
use Rattle.std.proofs.lemmas.List.Kept.{AllPairs-filter}
use Rattle.std.proofs.lemmas.List.Quantifiers.{all_pairs_push}
use Rattle.scm_model.specs.declared.flat.Config.{Config}
use Rattle.scm_model.specs.declared.flat.Service.{Service}
use Rattle.scm_model.specs.Changes.{configured_if, marked_if}
use Rattle.scm_rules.specs.Failures.{counted_if}
use Rattle.start_plan.specs.Entered.{started_if}
use Rattle.scm_tables.specs.Tabled.{AreInOrder, AreByNumber}
use Rattle.scm_tables.specs.Turned.{failure_counted, marked, started}

module _ {R : Type 0} (number_of : R → ℕ) where
  pub ordered_push : (next : ℕ) (rows : List R) (row : R) → AreInOrder number_of next rows → number_of row ≡ next
      → AreInOrder number_of (next + 1) (rows ++ row ∷ [])
  ordered_push next rows row old new = record {
    below = All-push (λ (r : R). number_of r < next + 1) rows row (λ k d lt. let b = old.below k d lt in omega arith) (omega arith);
    rising = all_pairs_push (λ (a b : R). number_of a < number_of b) rows row old.rising
        (λ k d lt. let b = old.below k d lt in omega arith);
  }

  pub ordered_filter : (next : ℕ) (p : R → Bool) (rows : List R) → AreInOrder number_of next rows
      → AreInOrder number_of next (filter p rows)
  ordered_filter next p rows old = record {
    below = All-filter p (λ (r : R). number_of r < next) rows old.below;
    rising = AllPairs-filter (λ (a b : R). number_of a < number_of b) p rows old.rising;
  }

  -- a change that keeps each number
  pub ordered_map : (next : ℕ) (change : R → R) → ((row : R) → number_of (change row) ≡ number_of row) → (rows : List R)
      → AreInOrder number_of next rows → AreInOrder number_of next (map change rows)
  ordered_map next change same rows old = record {
    below = All-map (λ (r : R). number_of r < next) change rows (λ k d lt. let b = old.below k d lt in let e = same (get_or rows k d) in
        omega arith);
    rising = λ i j d lt within.
        let short : j < length rows = simp length-map at within in
        let shorter : i < length rows = omega arith in
        subst (λ (a : R). number_of a < number_of (get_or (map change rows) j d)) (sym (get_or-map change rows i d d shorter))
        (subst (λ (b : R). number_of (change (get_or rows i d)) < number_of b) (sym (get_or-map change rows j d d short))
        (let r = old.rising i j d lt short in let e = same (get_or rows i d) in let g = same (get_or rows j d) in omega arith));
  }

-- ## Services

pub rising_push : (next : ℕ) (rows : List Service) (row : Service) → AreByNumber next rows → row.number ≡ next
    → AreByNumber (next + 1) (rows ++ row ∷ [])
rising_push next rows row old new = ordered_push (λ (r : Service). r.number) next rows row old new

pub rising_filter : (next : ℕ) (p : Service → Bool) (rows : List Service) → AreByNumber next rows → AreByNumber next (filter p rows)
rising_filter next p rows old = ordered_filter (λ (r : Service). r.number) next p rows old

pub rising_map : (next : ℕ) (change : Service → Service) → ((row : Service) → (change row).number ≡ row.number) → (rows : List Service)
    → AreByNumber next rows → AreByNumber next (map change rows)
rising_map next change same rows old = ordered_map (λ (r : Service). r.number) next change same rows old

abbrev pub configured : Config → Service → Service
configured config row = record row { config = config; status = record row.status { kind = config.kind } }

pub configured_here : (n : ℕ) (config : Config) (row : Service) → row.number ≡ n → configured_if n config row ≡ configured config row
configured_here n config row is = rw (eq-eqb row.number n is) refl

pub configured_elsewhere : (n : ℕ) (config : Config) (row : Service) → row.number ≢ n → configured_if n config row ≡ row
configured_elsewhere n config row other = rw (ne_eqb row.number n other) refl

-- a change of a configuration keeps each number
pub configured_number : (number : ℕ) (config : Config) (row : Service) → (configured_if number config row).number ≡ row.number
configured_number number config row =
    elim (row.number == number) as (λ b. (cond b (record row { config = config; status = record row.status { kind = config.kind } })
    row).number ≡ row.number)
    [ true ↦ refl | false ↦ refl ]

-- ## A change of one service, by its number

or_false : (b : Bool) → (b || false) ≡ b
or_false b = elim b as (λ b. (b || false) ≡ b) [ true ↦ refl | false ↦ refl ]

or_true : (b : Bool) → (b || true) ≡ true
or_true b = elim b as (λ b. (b || true) ≡ true) [ true ↦ refl | false ↦ refl ]

pub marked_here : (n : ℕ) (row : Service) → row.number ≡ n → marked_if n row ≡ marked row
marked_here n row is = rw (eq-eqb row.number n is) (ap (λ (b : Bool). record row { marked = b }) (or_true row.marked))

pub marked_elsewhere : (n : ℕ) (row : Service) → row.number ≢ n → marked_if n row ≡ row
marked_elsewhere n row other = rw (ne_eqb row.number n other) (ap (λ (b : Bool). record row { marked = b }) (or_false row.marked))

pub started_here : (n process : ℕ) (row : Service) → row.number ≡ n → started_if n process row ≡ started process row
started_here n process row is = rw (eq-eqb row.number n is) refl

pub started_elsewhere : (n process : ℕ) (row : Service) → row.number ≢ n → started_if n process row ≡ row
started_elsewhere n process row other = rw (ne_eqb row.number n other) refl

pub counted_here : (n moment : ℕ) (row : Service) → row.number ≡ n → counted_if n moment row ≡ failure_counted moment row
counted_here n moment row is = rw (eq-eqb row.number n is) refl

pub counted_elsewhere : (n moment : ℕ) (row : Service) → row.number ≢ n → counted_if n moment row ≡ row
counted_elsewhere n moment row other = rw (ne_eqb row.number n other) refl
