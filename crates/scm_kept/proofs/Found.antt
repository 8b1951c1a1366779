-- The service that a number finds: no other has its name.
use Rattle.std.proofs.Common.{ℕ, zero, suc, ◌≡◌, ◌∙◌, ◌<◌, ◌==◌, ◌||◌, true, false, cond, not, List, [], ◌∷◌, Some, filter, find, get_or}
use Rattle.std.proofs.Common.{map, ap, sym, refl, subst, arith}
use Rattle.std.specs.Prelude.{All, AllPairs}
use Rattle.std.specs.List.{AllZip}
use Rattle.std.proofs.lemmas.Cmp.{lists_equiv, nat_eq_equiv, on_equiv}
use Rattle.std.proofs.lemmas.List.Elements.{All-cons, All-head, All-nil, All-tail}
use Rattle.scm_text.specs.Fold.{fold_unit, same_text}
use Rattle.scm_model.specs.declared.flat.Config.{Config}
use Rattle.scm_model.specs.declared.flat.Service.{Service}
use Rattle.scm_model.specs.Changes.{configured_if, marked_if}
use Rattle.scm_runs.proofs.Lists.{found_has, found_only, same_some}
use Rattle.scm_rules.proofs.Needed.{replaced}
use Rattle.scm_kept.specs.Replayed.{replaced_by, unmarked}
use Rattle.scm_kept.proofs.Rows.{IsBare, bare_unmarked, config_of, stays}

-- ## Names

pub same_itself : (x : List ℕ) → same_text x x ≡ true
same_itself = (lists_equiv (on_equiv fold_unit nat_eq_equiv)).refl

pub same_swap : (x y : List ℕ) → same_text x y ≡ same_text y x
same_swap = (lists_equiv (on_equiv fold_unit nat_eq_equiv)).symm

abbrev AreOther : Service → Service → Type 0
AreOther a b = same_text a.config.name b.config.name ≡ false

abbrev HasOther : ℕ → Service → Service → Type 0
HasOther number found row = (row.number == number) ≡ false → same_text row.config.name found.config.name ≡ false

first_pairs : (x : Service) (xs : List Service) → AllPairs AreOther (x ∷ xs) → All (AreOther x) xs
first_pairs x xs pairs k d lt = pairs zero (suc k) d (omega arith) (omega (arith, lt))

later_pairs : (x : Service) (xs : List Service) → AllPairs AreOther (x ∷ xs) → AllPairs AreOther xs
later_pairs x xs pairs i j d lt within = pairs (suc i) (suc j) d (omega (arith, lt)) (omega (arith, within))

all_other : (number : ℕ) (found : Service) (rows : List Service) → AllPairs AreOther rows
    → find (λ (row : Service). row.number == number) rows ≡ Some found → All (HasOther number found) rows
all_other number found [] pairs e = All-nil (HasOther number found)
all_other number found (x ∷ xs) pairs e =
    elim (x.number == number) as (λ b. (x.number == number) ≡ b → cond b (Some x)
    (find (λ (row : Service). row.number == number) xs) ≡ Some found → All (HasOther number found) (x ∷ xs)) [
      | true ↦ λ h is. All-cons (HasOther number found) x xs (λ other. absurd cc)
          (λ k d lt other. subst (λ (row : Service). same_text (get_or xs k d).config.name row.config.name ≡ false) (same_some x found is)
          (same_swap (get_or xs k d).config.name x.config.name ∙ first_pairs x xs pairs k d lt))
      | false ↦ λ h is. All-cons (HasOther number found) x xs (λ other. found_has (AreOther x)
          (λ (row : Service). row.number == number) found xs (first_pairs x xs pairs) is)
          (all_other number found xs (later_pairs x xs pairs) is)
    ] refl e

-- a service has the name exactly where it has the number
abbrev pub IsNamed : ℕ → List ℕ → Service → Type 0
IsNamed number name row = same_text row.config.name name ≡ (row.number == number)

pub all_named : (number : ℕ) (found : Service) (rows : List Service) → AllPairs AreOther rows
    → AllPairs (λ (a b : Service). a.number < b.number) rows → find (λ (row : Service). row.number == number) rows ≡ Some found
    → All (IsNamed number found.config.name) rows
all_named number found rows pairs rising e k d lt =
    let row = get_or rows k d in
    let only = found_only (λ (r : Service). r.number) number found rows rising e k d lt in
    let other = all_other number found rows pairs e k d lt in
    elim (row.number == number) as (λ b. (row.number == number) ≡ b → same_text row.config.name found.config.name ≡ b) [
      | true ↦ λ h. ap (λ (r : Service). same_text r.config.name found.config.name) (only h) ∙ same_itself found.config.name
      | false ↦ λ h. other h
    ] refl

-- ## A mark

pub marked_unmarked : (number : ℕ) (name : List ℕ) (rows : List Service) → All (IsNamed number name) rows
    → unmarked (map (marked_if number) rows) ≡ filter (λ (old : Config). not (same_text old.name name)) (unmarked rows)
marked_unmarked number name [] each = refl
marked_unmarked number name (row ∷ rows) each =
    let left = filter stays (map (marked_if number) rows) in
    let others = λ (configs : List Config). filter (λ (old : Config). not (same_text old.name name)) configs in
    let rest = marked_unmarked number name rows (All-tail (IsNamed number name) row rows each) in
    elim row.marked as (λ mark. map config_of (cond (not (mark || row.number == number))
    (record row { marked = mark || row.number == number } ∷ left) left)
    ≡ others (map config_of (cond (not mark) (row ∷ filter stays rows) (filter stays rows)))) [
      | true ↦ rest
      | false ↦ subst (λ t. map config_of (cond (not (row.number == number)) (record row { marked = row.number == number } ∷ left) left) ≡
          cond (not t) (row.config ∷ others (unmarked rows)) (others (unmarked rows)))
          (sym (All-head (IsNamed number name) row rows each))
          (elim (row.number == number) as (λ b. map config_of (cond (not b) (record row { marked = b } ∷ left) left) ≡ cond (not b)
          (row.config ∷ others (unmarked rows)) (others (unmarked rows)))
          [ true ↦ rest | false ↦ ap (λ configs. row.config ∷ configs) rest ])
    ]

-- ## Another configuration

pub mark_kept : (number : ℕ) (config : Config) (row : Service) → (configured_if number config row).marked ≡ row.marked
mark_kept number config row = elim (row.number == number) as (λ b. (cond b (replaced config row) row).marked ≡ row.marked) [
  | true ↦ refl
  | false ↦ refl
]

config_is : (number : ℕ) (config : Config) (row : Service) → (configured_if number config row).config ≡ cond
    (row.number == number) config row.config
config_is number config row = elim (row.number == number) as (λ b. (cond b (replaced config row) row).config ≡ cond b config row.config)
    [ true ↦ refl | false ↦ refl ]

pub configured_unmarked : (number : ℕ) (config : Config) (rows : List Service) → All (IsNamed number config.name) rows
    → unmarked (map (configured_if number config) rows) ≡ map (replaced_by config) (unmarked rows)
configured_unmarked number config [] each = refl
configured_unmarked number config (row ∷ rows) each =
    let new = configured_if number config row in
    let left = filter stays (map (configured_if number config) rows) in
    let rest = configured_unmarked number config rows (All-tail (IsNamed number config.name) row rows each) in
    let same : new.config ≡ replaced_by config row.config = config_is number config row
    ∙ sym (ap (λ b. cond b config row.config) (All-head (IsNamed number config.name) row rows each)) in
    ap (λ mark. map config_of (cond (not mark) (new ∷ left) left)) (mark_kept number config row)
    ∙ elim row.marked as (λ mark. map config_of (cond (not mark) (new ∷ left) left) ≡ map (replaced_by config)
    (map config_of (cond (not mark) (row ∷ filter stays rows) (filter stays rows))))
    [ true ↦ rest | false ↦ ap (λ c. c ∷ map config_of left) same ∙ ap (λ configs. replaced_by config row.config ∷ configs) rest ]

-- if it has the number, this is the configuration that it has
abbrev pub KeepsConfig : ℕ → Config → Service → Type 0
KeepsConfig number config row = (row.number == number) ≡ true → config ≡ row.config

config_kept : (number : ℕ) (config : Config) (row : Service) → KeepsConfig number config row
    → (configured_if number config row).config ≡ row.config
config_kept number config row same =
    elim (row.number == number) as (λ b. (row.number == number) ≡ b → (cond b (replaced config row) row).config ≡ row.config)
    [ true ↦ λ e. same e | false ↦ λ e. refl ] refl

all_bare : (number : ℕ) (config : Config) (rows : List Service) → All (KeepsConfig number config) rows
    → AllZip IsBare rows (map (configured_if number config) rows)
all_bare number config [] each = tt
all_bare number config (row ∷ rows) each = (
  record {
    mark = mark_kept number config row;
    config = config_kept number config row (All-head (KeepsConfig number config) row rows each);
  },
  all_bare number config rows (All-tail (KeepsConfig number config) row rows each),
)

pub unchanged_unmarked : (number : ℕ) (config : Config) (rows : List Service) → All (KeepsConfig number config) rows
    → unmarked (map (configured_if number config) rows) ≡ unmarked rows
unchanged_unmarked number config rows each = bare_unmarked rows (map (configured_if number config) rows) (all_bare number config rows each)
