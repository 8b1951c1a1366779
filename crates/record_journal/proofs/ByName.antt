-- Services that are found by the names of their configurations.
use Rattle.std.proofs.Common.{ℕ, zero, suc, ◌≡◌, ◌∙◌, ◌<◌, ◌+◌, ◌-◌, ◌==◌, ◌||◌, not, Bool, true, false, cond, List, [], ◌∷◌, ◌++◌, Option}
use Rattle.std.proofs.Common.{None, Some, is_some, filter, find, map, length, refl, sym, ap, subst, arith, inl, inr, eq-eqb, ne_eqb}
use Rattle.std.specs.Prelude.{All, AllPairs, option_map, slice_get}
use Rattle.std.specs.List.{AllByRecursion, list_any}
use Rattle.std.proofs.lemmas.Bool.{cases_Bool}
use Rattle.std.proofs.lemmas.List.{append-nil}
use Rattle.std.proofs.lemmas.List.Elements.{All-head, All-tail}
use Rattle.std.proofs.lemmas.Option.{same_Some}
use Rattle.scm_text.specs.Fold.{same_text}
use Rattle.scm_model.specs.declared.flat.Config.{Config}
use Rattle.scm_model.specs.declared.flat.Service.{Service}
use Rattle.row_slab.specs.Rowed.{AreRisingBy}
use Rattle.record_table.specs.Recorded.{first_with, has_number, is_displayed, is_named, number_of, service_at, without}
use Rattle.record_table.proofs.Finding.{first_row}
use Rattle.record_journal.specs.Entries.{has_name, shows_as}
use Rattle.record_journal.specs.Replay.{replaced_by}
use Rattle.record_journal.specs.Services.{configs_of}
use Rattle.record_journal.proofs.Begins.{HasOtherDisplay, HasOtherName, same_swap, same_with}

-- ## What is found

pub some_named : (name : List ℕ) (rows : List Service)
    → is_some (first_with (is_named name) rows) ≡ list_any (has_name name) (configs_of rows)
some_named name [] = refl
some_named name (row ∷ rows) =
    elim (is_named name row) as (λ b. is_some (option_map number_of (cond b (Some row) (find (is_named name) rows)))
    ≡ (b || list_any (has_name name) (configs_of rows)))
    [ true ↦ refl | false ↦ some_named name rows ]

-- the service whose number is the first that passes
pub record IsFirst (p : Service → Bool) (rows : List Service) (number : ℕ) : Type 0 where
  pub row : Service
  pub found : find p rows ≡ Some row
  pub at : find (has_number number) rows ≡ Some row
  pub has : row.number ≡ number

first_of : (p : Service → Bool) (rows : List Service) (number : ℕ) (o : Option Service) → find p rows ≡ o
    → Some number ≡ option_map number_of o → AreRisingBy number_of rows → IsFirst p rows number
first_of p rows number None found is rising = absurd (cc is)
first_of p rows number (Some row) found is rising =
    let has : row.number ≡ number = sym (same_Some number row.number is) in
    record {
      row = row;
      found = found;
      at = subst (λ n. find (has_number n) rows ≡ Some row) has
          (ap (λ (o : Option Service). service_at rows (option_map number_of o)) (sym found) ∙ first_row p rows rising ∙ found);
      has = has;
    }

pub is_first : (p : Service → Bool) (rows : List Service) (number : ℕ) → Some number ≡ first_with p rows → AreRisingBy number_of rows
    → IsFirst p rows number
is_first p rows number is rising = first_of p rows number (find p rows) refl is rising

found_has : (p : Service → Bool) (n : ℕ) (rows : List Service) (found : Service) → AllByRecursion (λ (row : Service). n < row.number) rows
    → find p rows ≡ Some found → n < found.number
found_has p n [] found all e = absurd (cc e)
found_has p n (row ∷ rows) found all e =
    elim (p row) as (λ b. cond b (Some row) (find p rows) ≡ Some found → n < found.number) [
      | true ↦ λ h. subst (λ (r : Service). n < r.number) (same_Some row found h) all.0
      | false ↦ λ h. found_has p n rows found all.1 h
    ] e

-- ## One service has a name

-- services that come after one with a name have other names
later : (row : Service) (name : List ℕ) → same_text row.config.name name ≡ true → (rows : List Service)
    → AllByRecursion (λ (other : Service). row.number < other.number) rows
    → All (HasOtherName row.config) (configs_of rows)
    → AllByRecursion (λ (other : Service). (other.number == row.number) ≡ same_text other.config.name name) rows
later row name is [] above apart = tt
later row name is (other ∷ rows) above apart =
    let differs : same_text row.config.name other.config.name ≡ false =
    All-head (HasOtherName row.config) other.config (configs_of rows) apart in (
      ne_eqb other.number row.number (omega (arith, above.0))
          ∙ sym (same_swap other.config.name name ∙ sym (same_with row.config.name name other.config.name is) ∙ differs),
      later row name is rows above.1 (All-tail (HasOtherName row.config) other.config (configs_of rows) apart),
    )

abbrev pub HasItsName : List ℕ → ℕ → Service → Type 0
HasItsName name number row = (row.number == number) ≡ same_text row.config.name name

-- the number of the service that is found by its name stands for the name
pub named_once : (name : List ℕ) (rows : List Service) (old : Service) → AreRisingBy number_of rows
    → AllPairs HasOtherName (configs_of rows) → find (is_named name) rows ≡ Some old → AllByRecursion (HasItsName name old.number) rows
named_once name [] old rising apart found = tt
named_once name (row ∷ rows) old rising apart found =
    elim (cases_Bool (is_named name row)) [
      | inl is ↦
          let here : row ≡ old = same_Some row old (sym (ap (λ b. cond b (Some row) (find (is_named name) rows)) is) ∙ found) in
          subst (λ (r : Service). AllByRecursion (HasItsName name r.number) (row ∷ rows)) here (
            eq-eqb row.number row.number refl ∙ sym is,
            later row name is rows rising.0
                (λ k d lt. apart 0 (suc k) d (omega arith) (omega (arith, lt))),
          )
      | inr other ↦
          let next : find (is_named name) rows ≡ Some old = sym (ap (λ b. cond b (Some row) (find (is_named name) rows)) other) ∙ found in
          let less : row.number < old.number = found_has (is_named name) row.number rows old rising.0 next in (
            ne_eqb row.number old.number (omega (arith, less)) ∙ sym other,
            named_once name rows old rising.1 (λ i j d lt within. apart (suc i) (suc j) d (omega (arith, lt)) (omega (arith, within))) next,
          )
    ]

-- ## A configuration in place of another, or out

pub replaced_configs : (n : ℕ) (config : Config) (change : Service → Service) → ((row : Service) → (change row).config ≡ config)
    → (rows : List Service) → AllByRecursion (HasItsName config.name n) rows
    → configs_of (map (λ (row : Service). cond (row.number == n) (change row) row) rows) ≡ map (replaced_by config) (configs_of rows)
replaced_configs n config change same [] all = refl
replaced_configs n config change same (row ∷ rows) all =
    let more : List Config = configs_of (map (λ (r : Service). cond (r.number == n) (change r) r) rows) in
    elim (row.number == n) as (λ b. b ≡ same_text row.config.name config.name
    → (cond b (change row) row).config ∷ more ≡ replaced_by config row.config ∷ map (replaced_by config) (configs_of rows)) [
      | true ↦ λ e. rw (sym e) (ap (λ (c : Config). c ∷ more) (same row)
          ∙ ap (λ (cs : List Config). config ∷ cs) (replaced_configs n config change same rows all.1))
      | false ↦ λ e. rw (sym e) (ap (λ (cs : List Config). row.config ∷ cs) (replaced_configs n config change same rows all.1))
    ] all.0

pub replaced_nowhere : (config : Config) (configs : List Config) → list_any (has_name config.name) configs ≡ false
    → map (replaced_by config) configs ≡ configs
replaced_nowhere config [] none = refl
replaced_nowhere config (c ∷ configs) none =
    elim (same_text c.name config.name) as (λ b. same_text c.name config.name ≡ b → map (replaced_by config) (c ∷ configs) ≡ c ∷ configs) [
      | true ↦ λ e. absurd cc
      | false ↦ λ e. rw e (ap (λ (cs : List Config). c ∷ cs) (replaced_nowhere config configs (rw e at none)))
    ] refl

pub removed_configs : (n : ℕ) (name : List ℕ) (rows : List Service) → AllByRecursion (HasItsName name n) rows
    → configs_of (without n rows) ≡ filter (λ (old : Config). not (same_text old.name name)) (configs_of rows)
removed_configs n name [] all = refl
removed_configs n name (row ∷ rows) all =
    elim (row.number == n) as (λ b. b ≡ same_text row.config.name name
    → configs_of (cond (not b) (row ∷ without n rows) (without n rows))
    ≡ filter (λ (old : Config). not (same_text old.name name)) (row.config ∷ configs_of rows)) [
      | true ↦ λ e. rw (sym e) (removed_configs n name rows all.1)
      | false ↦ λ e. rw (sym e) (ap (λ (cs : List Config). row.config ∷ cs) (removed_configs n name rows all.1))
    ] all.0

pub removed_nowhere : (name : List ℕ) (configs : List Config) → list_any (has_name name) configs ≡ false
    → configs ≡ filter (λ (old : Config). not (same_text old.name name)) configs
removed_nowhere name [] none = refl
removed_nowhere name (c ∷ configs) none =
    elim (same_text c.name name) as (λ b. same_text c.name name ≡ b
    → c ∷ configs ≡ filter (λ (old : Config). not (same_text old.name name)) (c ∷ configs)) [
      | true ↦ λ e. absurd cc
      | false ↦ λ e. rw e (ap (λ (cs : List Config). c ∷ cs) (removed_nowhere name configs (rw e at none)))
    ] refl

-- ## Display names

none_shows : (config : Config) (row : Service) → same_text row.config.display config.display ≡ true → (configs : List Config)
    → All (HasOtherDisplay row.config) configs → list_any (shows_as config) configs ≡ false
none_shows config row is [] apart = refl
none_shows config row is (c ∷ configs) apart =
    let differs : same_text row.config.display c.display ≡ false = All-head (HasOtherDisplay row.config) c configs apart in
    let other : same_text c.display config.display ≡ false =
    same_swap c.display config.display ∙ sym (same_with row.config.display config.display c.display is) ∙ differs in
    rw other (none_shows config row is configs (All-tail (HasOtherDisplay row.config) c configs apart))

-- whether a service that has a display name has another name than a configuration
abbrev pub is_other : Config → Option Service → Bool
is_other config None = false
is_other config (Some row) = not (same_text row.config.name config.name)

or_false : (b : Bool) → (b || false) ≡ b
or_false true = refl
or_false false = refl

pub shown_is : (config : Config) (rows : List Service) → AllPairs HasOtherDisplay (configs_of rows)
    → is_other config (find (is_displayed config.display) rows) ≡ list_any (shows_as config) (configs_of rows)
shown_is config [] apart = refl
shown_is config (row ∷ rows) apart =
    elim (cases_Bool (is_displayed config.display row)) [
      | inl is ↦
          let none = none_shows config row is (configs_of rows) (λ k d lt. apart 0 (suc k) d (omega arith) (omega (arith, lt))) in
          rw (is, none) (sym (or_false (not (same_text row.config.name config.name))))
      | inr other ↦ rw other (shown_is config rows (λ i j d lt within. apart (suc i) (suc j) d (omega (arith, lt)) (omega (arith, within))))
    ]

-- ## The first and the last service

above_last : (rows : List Service) (i n : ℕ) (last : Service) → AreRisingBy number_of rows → i + 1 ≡ length rows
    → slice_get rows i ≡ Some last → last.number < n → AllByRecursion (λ (row : Service). row.number < n) rows
above_last [] i n last rising long is lt = tt
above_last (row ∷ []) zero n last rising long is lt = (subst (λ (r : Service). r.number < n) (sym (same_Some row last is)) lt, tt)
above_last (row ∷ more ∷ rows) zero n last rising long is lt = absurd (omega (arith, long))
above_last (row ∷ rows) (suc i) n last rising long is lt =
    let rest = above_last rows i n last rising.1 (omega (arith, long)) is lt in
    (below rows i rising.0 rest is, rest)
  where
    below : (rs : List Service) (k : ℕ) → AllByRecursion (λ (other : Service). row.number < other.number) rs
        → AllByRecursion (λ (other : Service). other.number < n) rs → slice_get rs k ≡ Some last → row.number < n
    below [] k over under at = absurd (cc at)
    below (r ∷ rs) k over under at = omega (arith, over.0, under.0)

-- one more than the last number is above all numbers
pub next_above : (rows : List Service) (i n : ℕ) (last : Service) → AreRisingBy number_of rows → i ≡ length rows - 1
    → Some last ≡ slice_get rows i → last.number < n → AllByRecursion (λ (row : Service). row.number < n) rows
next_above [] i n last rising is at lt = tt
next_above (row ∷ rows) i n last rising is at lt = above_last (row ∷ rows) i n last rising (omega (arith, is)) (sym at) lt

pub none_above : (rows : List Service) (i n : ℕ) → i ≡ length rows - 1 → None ≡ slice_get rows i
    → AllByRecursion (λ (row : Service). row.number < n) rows
none_above [] i n is at = tt
none_above (row ∷ rows) i n is at = absurd (there (row ∷ rows) i (omega (arith, is)) at)
  where
    there : (rs : List Service) (k : ℕ) → k < length rs → None ≡ slice_get rs k → ⊥
    there [] k lt none = absurd (omega (arith, lt))
    there (r ∷ rs) zero lt none = absurd (cc none)
    there (r ∷ rs) (suc k) lt none = there rs k (omega (arith, lt)) none

others_stay : (n : ℕ) (rows : List Service) → AllByRecursion (λ (row : Service). n < row.number) rows → without n rows ≡ rows
others_stay n [] all = refl
others_stay n (row ∷ rows) all =
    rw (ne_eqb row.number n (omega (arith, all.0))) (ap (λ (rs : List Service). row ∷ rs) (others_stay n rows all.1))

-- what stands first is taken out by its number
pub first_out : (rows : List Service) (row found : Service) → AreRisingBy number_of rows → Some row ≡ slice_get rows 0
    → Some found ≡ find (has_number row.number) rows → found.config ∷ configs_of (without row.number rows) ≡ configs_of rows
first_out [] row found rising is at = absurd (cc is)
first_out (first ∷ rows) row found rising is at =
    let here : row ≡ first = same_Some row first is in
    let same : (first.number == row.number) ≡ true = eq-eqb first.number row.number (ap number_of (sym here)) in
    let it : found ≡ first = same_Some found first (at ∙ ap (λ b. cond b (Some first) (find (has_number row.number) rows)) same) in
    let rest : without row.number (first ∷ rows) ≡ rows =
    rw same (others_stay row.number rows (subst (λ n. AllByRecursion (λ (other : Service). n < other.number) rows)
    (ap number_of (sym here)) rising.0)) in
    ap (λ (c : Config). c ∷ configs_of (without row.number (first ∷ rows))) (ap (λ (r : Service). r.config) it)
    ∙ ap (λ (rs : List Service). first.config ∷ configs_of rs) rest

pub first_found : (rows : List Service) (row : Service) → Some row ≡ slice_get rows 0 → None ≡ find (has_number row.number) rows → ⊥
first_found [] row is none = absurd (cc is)
first_found (first ∷ rows) row is none =
    let same : (first.number == row.number) ≡ true = eq-eqb first.number row.number (ap number_of (sym (same_Some row first is))) in
    absurd (cc (none ∙ ap (λ b. cond b (Some first) (find (has_number row.number) rows)) same))

-- ## All are taken out

pub all_moved : (done left all : List Config) → done ++ left ≡ all → length left ≡ 0 → done ≡ all
all_moved done [] all moved none = sym (append-nil done) ∙ moved
all_moved done (c ∷ left) all moved none = absurd (omega (arith, none))
