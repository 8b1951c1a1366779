-- A change that leaves configurations which a manager can begin with can be replayed.
use Rattle.std.proofs.Common.{ℕ, zero, suc, ◌≡◌, ◌∙◌, ◌<◌, ◌+◌, ◌&&◌, ◌||◌, cond, not, true, false, List, [], ◌∷◌, ◌++◌, None, Some}
use Rattle.std.proofs.Common.{filter, get_or, length, map, ap, sym, refl, subst, arith}
use Rattle.std.specs.Prelude.{All, AllPairs}
use Rattle.std.specs.List.{AllZip, list_any}
use Rattle.std.proofs.lemmas.Bool.{and_from, and_left, and_right, eq-eqb, lt-ltb, not_from_false}
use Rattle.std.proofs.lemmas.List.{get_or-map, length-map}
use Rattle.std.proofs.lemmas.List.Elements.{All-cons, All-filter, All-head, All-map, All-nil, All-pop, All-tail, All-weaker}
use Rattle.std.proofs.lemmas.List.Folds.{list_any_none}
use Rattle.std.proofs.lemmas.List.Kept.{AllPairs-filter}
use Rattle.scm_text.specs.Fold.{same_text}
use Rattle.scm_model.specs.declared.flat.Config.{Config}
use Rattle.scm_model.specs.declared.flat.Flat.{Flat}
use Rattle.scm_model.specs.declared.flat.Service.{Service}
use Rattle.scm_model.specs.declared.steps.Change.{Change}
use Rattle.scm_model.specs.declared.steps.Change.TheVariants.{Created, Changed, Removed}
use Rattle.scm_model.specs.Needs.{needs_of}
use Rattle.scm_model.specs.Walks.{IsAcyclic}
use Rattle.dependency_index.proofs.Cycles.{acyclic_ends}
use Rattle.service_record.specs.Checks.{check_new}
use Rattle.scm_rules.specs.Opening.{services_from}
use Rattle.scm_rules.proofs.Needed.{HasNoCycle, fewer}
use Rattle.record_journal.specs.Entries.{can_replay, has_name, needs_in, shows_as}
use Rattle.record_journal.specs.Replay.{after_change, replaced_by}
use Rattle.record_journal.proofs.Renumbered.{renumbered}
use Rattle.scm_runs.proofs.Opened.{pairs_opened}
use Rattle.scm_runs.proofs.Sound.{Sound}
use Rattle.scm_kept.specs.Replayed.{unmarked}
use Rattle.scm_kept.proofs.Found.{same_swap}
use Rattle.scm_kept.proofs.Rows.{config_of, stays}

abbrev HasOtherName : Config → Config → Type 0
HasOtherName a b = same_text a.name b.name ≡ false

abbrev HasOtherDisplay : Config → Config → Type 0
HasOtherDisplay a b = same_text a.display b.display ≡ false

abbrev IsChecked : Config → Type 0
IsChecked config = check_new config None ≡ 0

-- configurations that a manager can begin with, however many
pub record AreFine (configs : List Config) : Type 0 where
  pub names : AllPairs HasOtherName configs
  pub displays : AllPairs HasOtherDisplay configs
  pub checked : All IsChecked configs
  pub acyclic : IsAcyclic (needs_of (needs_in configs))

-- a place for what is created, and what is changed or removed is there
abbrev pub HasPlace : List Config → Change → Type 0
HasPlace configs (Created config) = length configs < 1024
HasPlace configs (Changed config) = list_any (has_name config.name) configs ≡ true
HasPlace configs (Removed name) = list_any (has_name name) configs ≡ true

-- ## Pairs

first_pairs : {X : Type 0} (R : X → X → Type 0) (x : X) (xs : List X) → AllPairs R (x ∷ xs) → All (R x) xs
first_pairs R x xs pairs k d lt = pairs zero (suc k) d (omega arith) (omega (arith, lt))

later_pairs : {X : Type 0} (R : X → X → Type 0) (x : X) (xs : List X) → AllPairs R (x ∷ xs) → AllPairs R xs
later_pairs R x xs pairs i j d lt within = pairs (suc i) (suc j) d (omega (arith, lt)) (omega (arith, within))

pairs_of : {X Y : Type 0} (R : Y → Y → Type 0) (g : X → Y) (xs : List X) → AllPairs (λ a b. R (g a) (g b)) xs → AllPairs R (map g xs)
pairs_of R g [] pairs i j d lt within = absurd (omega (arith, within))
pairs_of R g (x ∷ xs) pairs i j d lt within =
    let long = length-map (x ∷ xs) g in
    let short : j < length (x ∷ xs) = omega (arith, within, long) in
    let shorter : i < length (x ∷ xs) = omega (arith, lt, short) in
    subst (λ a. R a (get_or (map g (x ∷ xs)) j d)) (sym (get_or-map g (x ∷ xs) i x d shorter))
    (subst (λ b. R (g (get_or (x ∷ xs) i x)) b) (sym (get_or-map g (x ∷ xs) j x d short)) (pairs i j x lt short))

the_last : {X : Type 0} (P : X → Type 0) (xs : List X) (y : X) → All P (xs ++ y ∷ []) → P y
the_last P xs y each = (All-pop P (xs ++ y ∷ []) xs (Some y) refl each).1

last_apart : {X : Type 0} (R : X → X → Type 0) (xs : List X) (y : X) → AllPairs R (xs ++ y ∷ []) → All (λ x. R x y) xs
last_apart R [] y pairs = All-nil (λ x. R x y)
last_apart R (x ∷ xs) y pairs =
    All-cons (λ z. R z y) x xs (the_last (R x) xs y (first_pairs R x (xs ++ y ∷ []) pairs))
    (last_apart R xs y (later_pairs R x (xs ++ y ∷ []) pairs))

-- ## What can be replayed

created_can : (configs : List Config) (config : Config) → AreFine (configs ++ config ∷ []) → length configs < 1024
    → can_replay configs (Created config) ≡ true
created_can configs config fine few =
    let fresh = list_any_none (has_name config.name) configs (last_apart HasOtherName configs config fine.names) in
    let apart = last_apart HasOtherDisplay configs config fine.displays in
    let alone = list_any_none (shows_as config) configs
    (All-weaker (λ (old : Config). HasOtherDisplay old config) (λ old. shows_as config old ≡ false)
    (λ old h. and_left _ _ h) configs apart) in
    let checked = eq-eqb (check_new config None) 0 (the_last IsChecked configs config fine.checked) in
    and_from _ _ (and_from _ _ (and_from _ _ (not_from_false _ fresh) (lt-ltb (length configs) 1024 few))
    (and_from _ _ checked (not_from_false _ alone)))
    (not_from_false _ (acyclic_ends (needs_in (configs ++ config ∷ [])) fine.acyclic))

-- what holds of each holds of the configuration that replaced one
replaced_has : (P : Config → Type 0) (config : Config) (configs : List Config) → list_any (has_name config.name) configs ≡ true
    → All P (map (replaced_by config) configs) → P config
replaced_has P config [] there each = absurd cc
replaced_has P config (old ∷ configs) there each =
    elim (same_text old.name config.name) as
    (λ t. All P (cond t config old ∷ map (replaced_by config) configs) → (t || list_any (has_name config.name) configs) ≡ true → P config) [
      | true ↦ λ all h. All-head P config (map (replaced_by config) configs) all
      | false ↦ λ all h. replaced_has P config configs h (All-tail P old (map (replaced_by config) configs) all)
    ] each there

-- it has another display name than each that it didn't replace
not_shown : (config old : Config) → HasOtherDisplay config (replaced_by config old) → shows_as config old ≡ false
not_shown config old other =
    elim (same_text old.name config.name) as
    (λ t. HasOtherDisplay config (cond t config old) → (same_text old.display config.display && not t) ≡ false) [
      | true ↦ λ h. and_right _ _ refl
      | false ↦ λ h. and_left _ _ (same_swap old.display config.display ∙ h)
    ] other

others_apart : (config : Config) (configs : List Config) → All (HasOtherDisplay config) (map (replaced_by config) configs)
    → All (λ (old : Config). shows_as config old ≡ false) configs
others_apart config [] each = All-nil (λ (old : Config). shows_as config old ≡ false)
others_apart config (old ∷ configs) each =
    All-cons (λ (c : Config). shows_as config c ≡ false) old configs
    (not_shown config old (All-head (HasOtherDisplay config) (replaced_by config old) (map (replaced_by config) configs) each))
    (others_apart config configs (All-tail (HasOtherDisplay config) (replaced_by config old) (map (replaced_by config) configs) each))

shown_by_none : (config : Config) (configs : List Config) → list_any (has_name config.name) configs ≡ true
    → AllPairs HasOtherDisplay (map (replaced_by config) configs)
    → All (λ (old : Config). shows_as config old ≡ false) configs
shown_by_none config [] there pairs = absurd cc
shown_by_none config (old ∷ configs) there pairs =
    let news = map (replaced_by config) configs in
    elim (same_text old.name config.name) as
    (λ t. same_text old.name config.name ≡ t → (t || list_any (has_name config.name) configs) ≡ true → AllPairs HasOtherDisplay
    (cond t config old ∷ news)
    → All (λ (c : Config). shows_as config c ≡ false) (old ∷ configs)) [
      | true ↦ λ e h apart.
          All-cons (λ (c : Config). shows_as config c ≡ false) old configs (and_right _ _ (ap not e))
          (others_apart config configs (first_pairs HasOtherDisplay config news apart))
      | false ↦ λ e h apart.
          All-cons (λ (c : Config). shows_as config c ≡ false) old configs
          (and_left _ _ (replaced_has (HasOtherDisplay old) config configs h (first_pairs HasOtherDisplay old news apart)))
          (shown_by_none config configs h (later_pairs HasOtherDisplay old news apart))
    ] refl there pairs

changed_can : (configs : List Config) (config : Config) → AreFine (map (replaced_by config) configs)
    → list_any (has_name config.name) configs ≡ true → can_replay configs (Changed config) ≡ true
changed_can configs config fine there =
    let alone = list_any_none (shows_as config) configs (shown_by_none config configs there fine.displays) in
    let checked = eq-eqb (check_new config None) 0 (replaced_has IsChecked config configs there fine.checked) in
    and_from _ _ (and_from _ _ there (and_from _ _ checked (not_from_false _ alone)))
    (not_from_false _ (acyclic_ends (needs_in (map (replaced_by config) configs)) fine.acyclic))

pub can : (configs : List Config) (change : Change) → AreFine (after_change configs change) → HasPlace configs change
    → can_replay configs change ≡ true
can configs (Created config) fine place = created_can configs config fine place
can configs (Changed config) fine place = changed_can configs config fine place
can configs (Removed name) fine place = place

-- ## The unmarked configurations of a state

same_configs : (first : ℕ) (rows : List Service)
    → AllZip (λ (y x : Service). y.config ≡ x.config) (services_from first (map config_of rows)) rows
same_configs first [] = tt
same_configs first (row ∷ rows) = (refl, same_configs (first + 1) rows)

still_free : (f : Flat) → Sound f → HasNoCycle (services_from 1 (unmarked f.services))
still_free f s =
    renumbered (services_from 1 (unmarked f.services)) (filter stays f.services) (same_configs 1 (filter stays f.services))
    (pairs_opened (λ (a b : Service). a.number < b.number) 1 (unmarked f.services) (λ i j d lt within. omega (arith, lt)))
    (AllPairs-filter (λ (a b : Service). a.number < b.number) stays f.services s.services.numbered.rising)
    (fewer stays f.services s.services.numbered.rising s.services.acyclic)

pub checked_unmarked : (f : Flat) → Sound f → All IsChecked (unmarked f.services)
checked_unmarked f s = All-map IsChecked config_of (filter stays f.services)
    (All-filter stays (λ (row : Service). IsChecked row.config) f.services s.services.configs)

pub fine_state : (f : Flat) → Sound f → AreFine (unmarked f.services)
fine_state f s = record {
  names = pairs_of HasOtherName config_of (filter stays f.services)
      (AllPairs-filter (λ (a b : Service). HasOtherName a.config b.config) stays f.services s.services.names);
  displays = pairs_of HasOtherDisplay config_of (filter stays f.services)
      (AllPairs-filter (λ (a b : Service). HasOtherDisplay a.config b.config) stays f.services s.services.displays);
  checked = checked_unmarked f s;
  acyclic = still_free f s;
}
