-- What can be replayed leaves configurations that a manager can begin with.
use Rattle.std.proofs.Common.{ℕ, zero, suc, ◌≡◌, ◌∙◌, ◌<◌, ◌≤◌, ◌==◌, ◌&&◌, ◌||◌, not, Bool, true, false, cond, List, [], ◌∷◌, ◌++◌, None}
use Rattle.std.proofs.Common.{filter, map, get_or, length, length-append, refl, sym, ap, subst, arith, eqb-true, ltb-true, nat_lt}
use Rattle.std.specs.Prelude.{All, AllPairs}
use Rattle.std.specs.List.{list_any}
use Rattle.std.proofs.lemmas.Bool.{and_parts}
use Rattle.std.proofs.lemmas.Cmp.{lists_equiv, nat_eq_equiv, on_equiv}
use Rattle.std.proofs.lemmas.List.{get_or-map, length-map}
use Rattle.std.proofs.lemmas.List.Elements.{All-filter, All-map, All-push}
use Rattle.std.proofs.lemmas.List.Kept.{AllPairs-filter}
use Rattle.std.proofs.lemmas.List.Quantifiers.{all_pairs_push}
use Rattle.scm_text.specs.Fold.{fold_unit, same_text}
use Rattle.scm_model.specs.declared.flat.Config.{Config}
use Rattle.scm_model.specs.declared.flat.Limits.{Limits}
use Rattle.scm_model.specs.declared.steps.Change.{Change}
use Rattle.scm_model.specs.declared.steps.Change.TheVariants.{Created, Changed, Removed}
use Rattle.scm_model.specs.Needs.{needs_of}
use Rattle.scm_model.specs.Order.{is_cyclic}
use Rattle.scm_model.specs.Walks.{IsAcyclic}
use Rattle.dependency_index.proofs.Cycles.{ends_acyclic}
use Rattle.service_record.specs.Checks.{check_new}
use Rattle.scm_rules.specs.Opening.{CanOpen}
use Rattle.record_journal.specs.Entries.{can_replay, has_name, is_fit, needs_in, shows_as, stays_acyclic}
use Rattle.record_journal.specs.Opening.{CanBegin}
use Rattle.record_journal.specs.Replay.{after_change, replaced_by}
use Rattle.record_journal.proofs.Renumbered.{fewer_configs}

-- ## Texts

pub same_swap : (x y : List ℕ) → same_text x y ≡ same_text y x
same_swap = (lists_equiv (on_equiv fold_unit nat_eq_equiv)).symm

pub same_with : (x y z : List ℕ) → same_text x y ≡ true → same_text x z ≡ same_text y z
same_with = (lists_equiv (on_equiv fold_unit nat_eq_equiv)).congr

-- ## Configurations that a manager with 1,024 places can begin with

abbrev places : Limits
places = record { services = 1024; handles = 0; registrations = 0; callers = 0; processes = 0; controls = 0; steps = 0; text = 0 }

opened : (configs : List Config) → CanBegin configs → CanOpen places configs
opened configs begins = begins.under places (omega arith)

abbrev pub HasOtherName : Config → Config → Type 0
HasOtherName a b = same_text a.name b.name ≡ false

abbrev pub HasOtherDisplay : Config → Config → Type 0
HasOtherDisplay a b = same_text a.display b.display ≡ false

pub names_apart : (configs : List Config) → CanBegin configs → AllPairs HasOtherName configs
names_apart configs begins = (opened configs begins).names

pub displays_apart : (configs : List Config) → CanBegin configs → AllPairs HasOtherDisplay configs
displays_apart configs begins = (opened configs begins).displays

or_none : (a b : Bool) → (a || b) ≡ false → (a ≡ false) × (b ≡ false)
or_none true b h = absurd cc
or_none false b h = (refl, h)

pub no_cycle : (configs : List Config) → CanBegin configs → IsAcyclic (needs_of (needs_in configs))
no_cycle configs begins = (opened configs begins).acyclic

-- where no element passes a test, each fails it
none_passes : {A : Type 0} (p : A → Bool) (xs : List A) → list_any p xs ≡ false → All (λ x. p x ≡ false) xs
none_passes p [] none k d lt = absurd (omega (arith, lt))
none_passes p (x ∷ xs) none zero d lt = (or_none (p x) (list_any p xs) none).0
none_passes p (x ∷ xs) none (suc n) d lt = none_passes p xs (or_none (p x) (list_any p xs) none).1 n d (omega (arith, lt))

not_true : (b : Bool) → not b ≡ true → b ≡ false
not_true true h = absurd cc
not_true false h = refl

-- ## A configuration is accepted

record Fits (configs : List Config) (config : Config) : Type 0 where
  checked : check_new config None ≡ 0
  shown : All (λ (old : Config). shows_as config old ≡ false) configs

fits : (configs : List Config) (config : Config) → is_fit configs config ≡ true → Fits configs config
fits configs config fit =
    let p = and_parts (check_new config None == 0) (not (list_any (shows_as config) configs)) fit in
    record { checked = eqb-true (check_new config None) 0 p.0; shown = none_passes (shows_as config) configs (not_true _ p.1) }

-- a display name that no other service has, under another name
other_display : (config old : Config) → shows_as config old ≡ false → same_text old.name config.name ≡ false
    → same_text old.display config.display ≡ false
other_display config old unshown other =
    elim (same_text old.display config.display) as (λ b. (b && not (same_text old.name config.name)) ≡ false → b ≡ false) [
      | true ↦ λ h. absurd (let t = ap not other in cc)
      | false ↦ λ h. refl
    ] unshown

free : (configs : List Config) (change : Change) → stays_acyclic configs change ≡ true
    → is_cyclic (needs_in (after_change configs change)) ≡ false
free configs change h = not_true _ h

-- ## Created

created : (configs : List Config) (config : Config) → CanBegin configs → can_replay configs (Created config) ≡ true
    → CanBegin (configs ++ config ∷ [])
created configs config begins can = record {
  under = λ l many.
      let whole = and_parts _ (stays_acyclic configs (Created config)) can in
      let fit = and_parts _ (is_fit configs config) whole.0 in
      let place = and_parts (not (list_any (has_name config.name) configs)) (nat_lt (length configs) 1024) fit.0 in
      let ok = fits configs config fit.1 in
      let others = none_passes (has_name config.name) configs (not_true _ place.0) in
      let old = begins.under l many in
      record {
        few = let long = length-append configs (config ∷ []) in let lt = ltb-true (length configs) 1024 place.1 in
            omega (arith, long, lt, many);
        names = all_pairs_push HasOtherName configs config old.names (λ k d lt. others k d lt);
        displays = all_pairs_push HasOtherDisplay configs config old.displays
            (λ k d lt. other_display config (get_or configs k d) (ok.shown k d lt) (others k d lt));
        checked = All-push (λ (c : Config). check_new c None ≡ 0) configs config old.checked ok.checked;
        acyclic = ends_acyclic (needs_in (configs ++ config ∷ [])) (free configs (Created config) whole.1);
      };
}

-- ## Changed

-- a fact of two configurations, each of which may have been replaced
abbrev AreOther : (Config → List ℕ) → Config → Bool → Config → Bool → Config → Type 0
AreOther text config s a t b = same_text (text (cond s config a)) (text (cond t config b)) ≡ false

both_replaced : (config a b : Config) → same_text a.name config.name ≡ true → same_text b.name config.name ≡ true → HasOtherName a b → ⊥
both_replaced config a b left right other =
    let same : same_text a.name b.name ≡ true = same_with a.name config.name b.name left ∙ same_swap config.name b.name ∙ right in cc

apart : (text : Config → List ℕ) (config a b : Config) → HasOtherName a b → same_text (text a) (text b) ≡ false
    → (same_text a.name config.name ≡ false → same_text (text a) (text config) ≡ false)
    → (same_text b.name config.name ≡ false → same_text (text b) (text config) ≡ false)
    → same_text (text (replaced_by config a)) (text (replaced_by config b)) ≡ false
apart text config a b names other left right =
    elim (same_text a.name config.name) as (λ s. same_text a.name config.name ≡ s
    → AreOther text config s a (same_text b.name config.name) b) [
      | true ↦ λ is. elim (same_text b.name config.name) as (λ t. same_text b.name config.name ≡ t → AreOther text config true a t b) [
        | true ↦ λ too. absurd (both_replaced config a b is too names)
        | false ↦ λ differs. same_swap (text config) (text b) ∙ right differs
      ] refl
      | false ↦ λ is. elim (same_text b.name config.name) as (λ t. same_text b.name config.name ≡ t → AreOther text config false a t b) [
        | true ↦ λ too. left is
        | false ↦ λ differs. other
      ] refl
    ] refl

pairs_replaced : (text : Config → List ℕ) (config : Config) (configs : List Config) → AllPairs HasOtherName configs
    → AllPairs (λ a b. same_text (text a) (text b) ≡ false) configs
    → All (λ (a : Config). same_text a.name config.name ≡ false → same_text (text a) (text config) ≡ false) configs
    → AllPairs (λ a b. same_text (text a) (text b) ≡ false) (map (replaced_by config) configs)
pairs_replaced text config configs names others each i j d lt within =
    let short : j < length configs = simp length-map at within in
    let shorter : i < length configs = omega (arith, lt, short) in
    subst (λ (a : Config). same_text (text a) (text (get_or (map (replaced_by config) configs) j d)) ≡ false)
    (sym (get_or-map (replaced_by config) configs i d d shorter))
    (subst (λ (b : Config). same_text (text (replaced_by config (get_or configs i d))) (text b) ≡ false)
    (sym (get_or-map (replaced_by config) configs j d d short))
    (apart text config (get_or configs i d) (get_or configs j d) (names i j d lt short) (others i j d lt short) (each i d shorter)
    (each j d short)))

changed : (configs : List Config) (config : Config) → CanBegin configs → can_replay configs (Changed config) ≡ true
    → CanBegin (map (replaced_by config) configs)
changed configs config begins can = record {
  under = λ l many.
      let whole = and_parts _ (stays_acyclic configs (Changed config)) can in
      let fit = and_parts (list_any (has_name config.name) configs) (is_fit configs config) whole.0 in
      let ok = fits configs config fit.1 in
      let old = begins.under l many in
      record {
        few = let long = length-map configs (replaced_by config) in let few = old.few in omega (arith, long, few);
        names = pairs_replaced (λ c. c.name) config configs old.names old.names (λ k d lt h. h);
        displays = pairs_replaced (λ c. c.display) config configs old.names old.displays
            (λ k d lt h. other_display config (get_or configs k d) (ok.shown k d lt) h);
        checked = All-map (λ (c : Config). check_new c None ≡ 0) (replaced_by config) configs
            (λ k d lt. elim (same_text (get_or configs k d).name config.name) as (λ s. check_new
            (cond s config (get_or configs k d)) None ≡ 0) [ true ↦ ok.checked | false ↦ old.checked k d lt ]);
        acyclic = ends_acyclic (needs_in (map (replaced_by config) configs)) (free configs (Changed config) whole.1);
      };
}

-- ## Removed

shorter : (p : Config → Bool) (configs : List Config) → length (filter p configs) ≤ length configs
shorter p [] = omega arith
shorter p (c ∷ configs) =
    let rest = shorter p configs in
    elim (p c) as (λ b. length (cond b (c ∷ filter p configs) (filter p configs)) ≤ suc (length configs)) [
      | true ↦ omega (arith, rest)
      | false ↦ omega (arith, rest)
    ]

removed : (configs : List Config) (name : List ℕ) → CanBegin configs → CanBegin
    (filter (λ (old : Config). not (same_text old.name name)) configs)
removed configs name begins = record {
  under = λ l many.
      let p = λ (old : Config). not (same_text old.name name) in
      let old = begins.under l many in
      record {
        few = let less = shorter p configs in let few = old.few in omega (arith, less, few);
        names = AllPairs-filter HasOtherName p configs old.names;
        displays = AllPairs-filter HasOtherDisplay p configs old.displays;
        checked = All-filter p (λ (c : Config). check_new c None ≡ 0) configs old.checked;
        acyclic = fewer_configs p configs old.acyclic;
      };
}

pub begins_with : (configs : List Config) (change : Change) → CanBegin configs → can_replay configs change ≡ true
    → CanBegin (after_change configs change)
begins_with configs (Created config) begins can = created configs config begins can
begins_with configs (Changed config) begins can = changed configs config begins can
begins_with configs (Removed name) begins can = removed configs name begins

-- nothing is there
pub begins_empty : CanBegin []
begins_empty = record {
  under = λ l many. record {
    few = omega arith;
    names = λ i j d lt within. absurd (omega (arith, within));
    displays = λ i j d lt within. absurd (omega (arith, within));
    checked = λ k d lt. absurd (omega (arith, lt));
    acyclic = ends_acyclic [] refl;
  };
}
