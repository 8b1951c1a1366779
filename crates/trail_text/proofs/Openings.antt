-- Configurations that a manager can begin with, one more and fewer.
use Rattle.std.proofs.Common.{◌≡◌, ◌≤◌, ◌&&◌, Bool, true, false, not, cond, List, [], ◌∷◌, ◌++◌, None, filter, length, get_or}
use Rattle.std.proofs.Common.{refl, sym, ap, ◌∙◌, subst, arith, append-nil, append_assoc, length-append, ltb-true, nat_lt}
use Rattle.std.specs.Prelude.{All, AllPairs}
use Rattle.std.proofs.lemmas.Bool.{and_parts, eq-eqb, lt-ltb}
use Rattle.std.proofs.lemmas.Cmp.{lists_equiv, nat_eq_equiv, on_equiv}
use Rattle.std.proofs.lemmas.List.{get_or_append_left}
use Rattle.std.proofs.lemmas.List.Elements.{All-head, All-tail, filter-append}
use Rattle.std.proofs.lemmas.List.Folds.{list_any_none}
use Rattle.std.proofs.Math.Seq.{get_or-append_seam}
use Rattle.scm_text.specs.Fold.{fold_unit, same_text}
use Rattle.scm_model.specs.declared.flat.Config.{Config}
use Rattle.scm_model.specs.declared.flat.Limits.{Limits}
use Rattle.scm_model.specs.declared.steps.Change.TheVariants.{Created}
use Rattle.scm_model.specs.Needs.{needs_of}
use Rattle.scm_model.specs.Walks.{IsAcyclic}
use Rattle.dependency_index.proofs.Cycles.{acyclic_ends}
use Rattle.service_record.specs.Checks.{check_new}
use Rattle.scm_rules.specs.Opening.{CanOpen}
use Rattle.record_journal.specs.Entries.{can_replay, has_name, needs_in, shows_as}
use Rattle.record_journal.specs.Opening.{CanBegin}
use Rattle.record_journal.proofs.Begins.{begins_with}
use Rattle.record_journal.proofs.Renumbered.{fewer_configs}

-- ## Lists

pairs_front : {X : Type 0} (R : X → X → Type 0) (xs : List X) (y : X) → AllPairs R (xs ++ y ∷ []) → AllPairs R xs
pairs_front R xs y pairs i j d lt within =
    subst (λ b. R (get_or xs i d) b) (get_or_append_left xs (y ∷ []) d j within)
    (subst (λ a. R a (get_or (xs ++ y ∷ []) j d)) (get_or_append_left xs (y ∷ []) d i (omega (arith, lt, within)))
    (pairs i j d lt (let long = length-append xs (y ∷ []) in omega (arith, within, long))))

pairs_last : {X : Type 0} (R : X → X → Type 0) (xs : List X) (y : X) → AllPairs R (xs ++ y ∷ []) → All (λ x. R x y) xs
pairs_last R xs y pairs k d lt =
    subst (λ b. R (get_or xs k d) b) (get_or-append_seam xs y [] d)
    (subst (λ a. R a (get_or (xs ++ y ∷ []) (length xs) d)) (get_or_append_left xs (y ∷ []) d k lt)
    (pairs k (length xs) d lt (let long = length-append xs (y ∷ []) in omega (arith, long))))

all_front : {X : Type 0} (P : X → Type 0) (xs : List X) (y : X) → All P (xs ++ y ∷ []) → All P xs
all_front P xs y all k d lt =
    subst P (get_or_append_left xs (y ∷ []) d k lt) (all k d (let long = length-append xs (y ∷ []) in omega (arith, lt, long)))

all_last : {X : Type 0} (P : X → Type 0) (xs : List X) (y : X) → All P (xs ++ y ∷ []) → P y
all_last P xs y all =
    subst P (get_or-append_seam xs y [] y) (all (length xs) y (let long = length-append xs (y ∷ []) in omega (arith, long)))

filter_whole : {X : Type 0} (p : X → Bool) (xs : List X) → All (λ x. p x ≡ true) xs → filter p xs ≡ xs
filter_whole p [] all = refl
filter_whole p (x ∷ xs) all =
    ap (λ b. cond b (x ∷ filter p xs) (filter p xs)) (All-head (λ x. p x ≡ true) x xs all)
    ∙ ap (λ ys. x ∷ ys) (filter_whole p xs (All-tail (λ x. p x ≡ true) x xs all))

-- ## One fewer

abbrev HasOtherName : Config → Config → Type 0
HasOtherName a b = same_text a.name b.name ≡ false

abbrev HasOtherDisplay : Config → Config → Type 0
HasOtherDisplay a b = same_text a.display b.display ≡ false

abbrev isnt_named : Config → Config → Bool
isnt_named c x = not (same_text x.name c.name)

without_last : (xs : List Config) (c : Config) → AllPairs HasOtherName (xs ++ c ∷ []) → filter (isnt_named c) (xs ++ c ∷ []) ≡ xs
without_last xs c names =
    let others = pairs_last HasOtherName xs c names in
    let own : same_text c.name c.name ≡ true = (lists_equiv (on_equiv fold_unit nat_eq_equiv)).refl c.name in
    filter-append (isnt_named c) xs (c ∷ [])
    ∙ ap (λ ys. ys ++ filter (isnt_named c) (c ∷ [])) (filter_whole (isnt_named c) xs (λ k d lt. ap not (others k d lt)))
    ∙ ap (λ b. xs ++ cond (not b) (c ∷ []) []) own ∙ append-nil xs

one_fewer : (l : Limits) (xs : List Config) (c : Config) → CanOpen l (xs ++ c ∷ []) → CanOpen l xs
one_fewer l xs c can = record {
  few = let long = length-append xs (c ∷ []) in omega (arith, can.few, long);
  names = pairs_front HasOtherName xs c can.names;
  displays = pairs_front HasOtherDisplay xs c can.displays;
  checked = all_front (λ (config : Config). check_new config None ≡ 0) xs c can.checked;
  acyclic = subst (λ configs. IsAcyclic (needs_of (needs_in configs))) (without_last xs c can.names)
      (fewer_configs (isnt_named c) (xs ++ c ∷ []) can.acyclic);
}

-- a front of configurations that a manager can begin with
pub can_open_front : (l : Limits) (xs ys : List Config) → CanOpen l (xs ++ ys) → CanOpen l xs
can_open_front l xs [] can = subst (CanOpen l) (append-nil xs) can
can_open_front l xs (y ∷ ys) can =
    one_fewer l xs y (can_open_front l (xs ++ y ∷ []) ys (subst (CanOpen l) (sym (append_assoc xs (y ∷ []) ys)) can))

-- ## One more

-- a service more that a manager can begin with
abbrev pub adds : Limits → List Config → Config → Bool
adds l xs c = can_replay xs (Created c) && nat_lt (length xs) l.services

both : (a b : Bool) → a ≡ true → b ≡ true → (a && b) ≡ true
both true true h k = refl
both true false h k = absurd cc
both false b h k = absurd cc

unshown : (c old : Config) → same_text old.display c.display ≡ false → shows_as c old ≡ false
unshown c old other = ap (λ b. b && not (same_text old.name c.name)) other

pub adds_last : (l : Limits) (xs : List Config) (c : Config) → l.services ≤ 1024 → CanOpen l (xs ++ c ∷ []) → adds l xs c ≡ true
adds_last l xs c small can =
    let long = length-append xs (c ∷ []) in
    let new = ap not (list_any_none (has_name c.name) xs (pairs_last HasOtherName xs c can.names)) in
    let place = lt-ltb (length xs) 1024 (omega (arith, can.few, long, small)) in
    let good = eq-eqb (check_new c None) 0 (all_last (λ (config : Config). check_new config None ≡ 0) xs c can.checked) in
    let shown = ap not (list_any_none (shows_as c) xs
    (λ k d lt. unshown c (get_or xs k d) (pairs_last HasOtherDisplay xs c can.displays k d lt))) in
    let free = ap not (acyclic_ends (needs_in (xs ++ c ∷ [])) can.acyclic) in
    both _ _ (both _ _ (both _ _ (both _ _ new place) (both _ _ good shown)) free)
    (lt-ltb (length xs) l.services (omega (arith, can.few, long)))

-- configurations that a manager can begin with under small limits can be replayed onto
pub begins : (l : Limits) (xs : List Config) → l.services ≤ 1024 → CanOpen l xs → CanBegin xs
begins l xs small can = record {
  under = λ k many. record {
    few = omega (arith, can.few, small, many);
    names = can.names;
    displays = can.displays;
    checked = can.checked;
    acyclic = can.acyclic;
  };
}

abbrev places : Limits
places = record { services = 1024; handles = 0; registrations = 0; callers = 0; processes = 0; controls = 0; steps = 0; text = 0 }

pub one_more : (l : Limits) (xs : List Config) (c : Config) → l.services ≤ 1024 → CanOpen l xs → adds l xs c ≡ true
    → CanOpen l (xs ++ c ∷ [])
one_more l xs c small can passes =
    let parts = and_parts (can_replay xs (Created c)) _ passes in
    let more = (begins_with xs (Created c) (begins l xs small can) parts.0).under places (omega arith) in
    let long = length-append xs (c ∷ []) in
    let room = ltb-true (length xs) l.services parts.1 in
    record {
      few = omega (arith, long, room);
      names = more.names;
      displays = more.displays;
      checked = more.checked;
      acyclic = more.acyclic;
    }
