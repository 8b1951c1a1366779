-- Configurations that a manager can begin with can be created one after another.
use Rattle.std.proofs.Common.{ℕ, zero, suc, ◌≡◌, ◌∙◌, ◌<◌, ◌||◌, cond, not, true, false, Bool, List, [], ◌∷◌, ◌++◌, None, Some}
use Rattle.std.proofs.Common.{filter, length, map, append_assoc, ap, sym, refl, subst, arith, length-append}
use Rattle.std.specs.Prelude.{All, AllPairs}
use Rattle.std.specs.List.{list_any}
use Rattle.std.proofs.lemmas.Bool.{and_from, and_left, eq-eqb, lt-ltb, not_from_false}
use Rattle.std.proofs.lemmas.Cmp.{lists_equiv, nat_eq_equiv, on_equiv}
use Rattle.std.proofs.lemmas.List.{append-nil}
use Rattle.std.proofs.lemmas.List.Elements.{All-cons, All-head, All-nil, All-pop, All-tail, All-weaker, filter-append}
use Rattle.std.proofs.lemmas.List.Folds.{list_any-append, list_any_none}
use Rattle.scm_text.specs.Fold.{fold_unit, same_text}
use Rattle.scm_model.specs.declared.flat.Config.{Config}
use Rattle.scm_model.specs.declared.flat.Limits.{Limits}
use Rattle.scm_model.specs.declared.steps.Change.{Change}
use Rattle.scm_model.specs.declared.steps.Change.TheVariants.{Created, Removed}
use Rattle.dependency_index.proofs.Cycles.{acyclic_ends}
use Rattle.service_record.specs.Checks.{check_new}
use Rattle.scm_rules.specs.Opening.{CanOpen}
use Rattle.record_journal.specs.Entries.{can_replay, has_name, needs_in, shows_as}
use Rattle.record_journal.specs.Opening.{CanBegin}
use Rattle.record_journal.proofs.Begins.{HasOtherDisplay, HasOtherName, begins_with, displays_apart, names_apart, no_cycle}

same_itself : (x : List ℕ) → same_text x x ≡ true
same_itself = (lists_equiv (on_equiv fold_unit nat_eq_equiv)).refl

-- ## Pairs

first_pairs : {X : Type 0} (R : X → X → Type 0) (x : X) (xs : List X) → AllPairs R (x ∷ xs) → All (R x) xs
first_pairs R x xs pairs k d lt = pairs zero (suc k) d (omega arith) (omega (arith, lt))

later_pairs : {X : Type 0} (R : X → X → Type 0) (x : X) (xs : List X) → AllPairs R (x ∷ xs) → AllPairs R xs
later_pairs R x xs pairs i j d lt within = pairs (suc i) (suc j) d (omega (arith, lt)) (omega (arith, within))

the_last : {X : Type 0} (P : X → Type 0) (xs : List X) (y : X) → All P (xs ++ y ∷ []) → P y
the_last P xs y each = (All-pop P (xs ++ y ∷ []) xs (Some y) refl each).1

last_apart : {X : Type 0} (R : X → X → Type 0) (xs : List X) (y : X) → AllPairs R (xs ++ y ∷ []) → All (λ x. R x y) xs
last_apart R [] y pairs = All-nil (λ x. R x y)
last_apart R (x ∷ xs) y pairs =
    All-cons (λ z. R z y) x xs (the_last (R x) xs y (first_pairs R x (xs ++ y ∷ []) pairs))
    (last_apart R xs y (later_pairs R x (xs ++ y ∷ []) pairs))

-- ## The last one is created

abbrev places : Limits
places = record { services = 1024; handles = 0; registrations = 0; callers = 0; processes = 0; controls = 0; steps = 0; text = 0 }

-- what is created last could be
pub created_can : (configs : List Config) (config : Config) → CanBegin (configs ++ config ∷ []) → can_replay configs (Created config) ≡ true
created_can configs config begins =
    let all = configs ++ config ∷ [] in
    let open' = begins.under places (omega arith) in
    let long = length-append configs (config ∷ []) in
    let few = open'.few in
    let fresh = list_any_none (has_name config.name) configs (last_apart HasOtherName configs config (names_apart all begins)) in
    let alone = list_any_none (shows_as config) configs
    (All-weaker (λ (old : Config). HasOtherDisplay old config) (λ old. shows_as config old ≡ false) (λ old h. and_left _ _ h) configs
    (last_apart HasOtherDisplay configs config (displays_apart all begins))) in
    let checked = eq-eqb (check_new config None) 0
    (the_last (λ (c : Config). check_new c None ≡ 0) configs config open'.checked) in
    and_from _ _ (and_from _ _ (and_from _ _ (not_from_false _ fresh) (lt-ltb (length configs) 1024 (omega (arith, few, long))))
    (and_from _ _ checked (not_from_false _ alone)))
    (not_from_false _ (acyclic_ends (needs_in all) (no_cycle all begins)))

-- ## Without the last one

abbrev stays : Config → Config → Bool
stays config old = not (same_text old.name config.name)

all_kept : (p : Config → Bool) (xs : List Config) → All (λ x. p x ≡ true) xs → filter p xs ≡ xs
all_kept p [] each = refl
all_kept p (x ∷ xs) each =
    ap (λ (b : Bool). cond b (x ∷ filter p xs) (filter p xs)) (All-head (λ c. p c ≡ true) x xs each)
    ∙ ap (λ (ys : List Config). x ∷ ys) (all_kept p xs (All-tail (λ c. p c ≡ true) x xs each))

last_removed : (configs : List Config) (config : Config) → All (λ (old : Config). HasOtherName old config) configs
    → filter (stays config) (configs ++ config ∷ []) ≡ configs
last_removed configs config others =
    filter-append (stays config) configs (config ∷ [])
    ∙ ap (λ (b : Bool). filter (stays config) configs ++ cond (not b) (config ∷ []) []) (same_itself config.name)
    ∙ append-nil (filter (stays config) configs)
    ∙ all_kept (stays config) configs
    (All-weaker (λ (old : Config). HasOtherName old config) (λ old. stays config old ≡ true) (λ old h. not_from_false _ h) configs others)

is_there : (configs : List Config) (config : Config) → list_any (has_name config.name) (configs ++ config ∷ []) ≡ true
is_there configs config =
    list_any-append (has_name config.name) configs (config ∷ [])
    ∙ ap (λ (b : Bool). list_any (has_name config.name) configs || (b || false)) (same_itself config.name)
    ∙ elim (list_any (has_name config.name) configs) as (λ b. (b || (true || false)) ≡ true) [ true ↦ refl | false ↦ refl ]

without_last : (configs : List Config) (config : Config) → CanBegin (configs ++ config ∷ []) → CanBegin configs
without_last configs config begins =
    let all = configs ++ config ∷ [] in
    subst CanBegin (last_removed configs config (last_apart HasOtherName configs config (names_apart all begins)))
    (begins_with all (Removed config.name) begins (is_there configs config))

pub begins_front : (front configs : List Config) → CanBegin (front ++ configs) → CanBegin front
begins_front front [] begins = subst CanBegin (append-nil front) begins
begins_front front (config ∷ configs) begins =
    without_last front config
    (begins_front (front ++ config ∷ []) configs (subst CanBegin (sym (append_assoc front (config ∷ []) configs)) begins))
