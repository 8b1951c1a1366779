-- A change that a call makes has an entry, and a place among the unmarked configurations.
use Rattle.std.proofs.Common.{ℕ, ◌≡◌, ◌∙◌, ◌<◌, ◌≤◌, ◌==◌, ◌||◌, Bool, true, false, cond, not, List, [], ◌∷◌, Option, None, Some, eqb-true}
use Rattle.std.proofs.Common.{filter, find, length, map, sym, refl, subst, ap, arith}
use Rattle.std.specs.Prelude.{IfSome, nat_le, option_and_then, option_map}
use Rattle.std.specs.List.{AllByRecursion, list_any}
use Rattle.std.proofs.lemmas.Bool.{leb-false, not-false, or_left, or_parts, or_right}
use Rattle.std.proofs.lemmas.List.{length-map}
use Rattle.scm_text.specs.Fold.{same_text}
use Rattle.scm_model.specs.declared.flat.Config.{Config}
use Rattle.scm_model.specs.declared.flat.Flat.{Flat}
use Rattle.scm_model.specs.declared.flat.Limits.{Limits}
use Rattle.scm_model.specs.declared.flat.Service.{Service}
use Rattle.scm_model.specs.declared.calls.ChangeService.{ChangeService}
use Rattle.scm_model.specs.declared.calls.Info.{Info}
use Rattle.scm_model.specs.declared.calls.NewService.{NewService}
use Rattle.scm_model.specs.declared.calls.Request.{Request}
use Rattle.scm_model.specs.declared.calls.Request.TheVariants as request
use Rattle.scm_model.specs.declared.steps.Change.{Change}
use Rattle.scm_model.specs.declared.steps.Change.TheVariants.{Created, Changed, Removed}
use Rattle.scm_model.specs.declared.steps.Kept.TheVariants as appended
use Rattle.scm_model.specs.Rows.{held_by, held_service}
use Rattle.service_record.specs.Checks.{check_new, has_bad_lists, has_bad_names, has_bad_numbers, has_bad_texts, is_bad_account}
use Rattle.record_journal.specs.Entries.{has_name}
use Rattle.record_journal.specs.Format.{HasEntry}
use Rattle.scm_rules.specs.Change.{change_change, change_refusals, change_verdict, changed_from, checked, config_alike, new_config}
use Rattle.scm_rules.specs.Change.{tags_no_group}
use Rattle.scm_rules.specs.Change2.{change2_change, change2_refusals, change2_verdict, has_bad_trigger, is_refused, level_config}
use Rattle.scm_rules.specs.Create.{create_refusals, create_verdict, created_config, tags_nothing}
use Rattle.scm_rules.specs.Delete.{delete_refusals, delete_verdict, is_marked, removal_of}
use Rattle.scm_rules.specs.Needs.{are_unreadable}
use Rattle.scm_rules.specs.Verdicts.{change_of_call, unless_refused}
use Rattle.scm_rules.proofs.Held.{held_is}
use Rattle.scm_runs.proofs.Calls.{all_pass}
use Rattle.scm_runs.proofs.Founds.{found_all}
use Rattle.scm_runs.proofs.Levels.{name_left}
use Rattle.scm_runs.proofs.Lists.{filter_short, found_has, same_some}
use Rattle.scm_runs.proofs.Sound.{Sound}
use Rattle.scm_kept.specs.Replayed.{unmarked}
use Rattle.scm_kept.specs.Fitting.{FitsChange, FitsCreation, FitsLevel, FitsRequest}
use Rattle.scm_kept.proofs.Accepted.{config_fits, is_small, spelling_long, text_long}
use Rattle.scm_kept.proofs.Fine.{HasPlace}
use Rattle.scm_kept.proofs.Found.{same_itself}
use Rattle.scm_kept.proofs.Given.{HasUnits, changed_units, created_units, level_units}
use Rattle.scm_kept.proofs.Rows.{config_of, stays}
use Rattle.scm_kept.proofs.UnitsKept.{HaveUnits}

pub record IsPlaced (f : Flat) (change : Change) : Type 0 where
  pub entry : HasEntry change
  pub place : HasPlace (unmarked f.services) change

-- ## Configurations

created_entry : (config : Config) → check_new config None ≡ 0 → HasUnits config → HasEntry (Created config)
created_entry config checked units = let small = is_small config checked in
    record { body = config_fits config small units; length = spelling_long config small units }

changed_entry : (config : Config) → check_new config None ≡ 0 → HasUnits config → HasEntry (Changed config)
changed_entry config checked units = let small = is_small config checked in
    record { body = config_fits config small units; length = spelling_long config small units }

removed_entry : (config : Config) → check_new config None ≡ 0 → HasUnits config → HasEntry (Removed config.name)
removed_entry config checked units =
    let small = is_small config checked in
    let short = small.name in
    let long = text_long config.name 256 short in
    record { body = (omega (arith, short), units.name); length = omega (arith, long) }

checked_by : (a b c : Bool) → (cond a 123 (cond b 87 (cond c 1057 0)) == 123) ≡ false
    → (cond a 123 (cond b 87 (cond c 1057 0)) == 87) ≡ false → ◌≡◌ {A = ℕ} (cond a 123 (cond b 87 0)) 0
checked_by true b c x y = absurd cc
checked_by false true c x y = absurd cc
checked_by false false c x y = refl

-- what is refused for its account alone is accepted without one
checked_alone : (config : Config) (account : Option (List ℕ)) → (check_new config account == 123) ≡ false
    → (check_new config account == 87) ≡ false → check_new config None ≡ 0
unfolding check_new
checked_alone config account x y = checked_by (has_bad_names config)
    (has_bad_numbers config || has_bad_texts config || has_bad_lists config) (is_bad_account account) x y

-- ## The service that was found

-- what holds of each unmarked configuration holds of that of an unmarked service that is found
found_config : (P : Config → Type 0) (number : ℕ) (row : Service) (rows : List Service)
    → find (λ (r : Service). r.number == number) rows ≡ Some row → row.marked ≡ false
    → AllByRecursion P (unmarked rows) → P row.config
found_config P number row [] is stands each = absurd cc
found_config P number row (first ∷ rows) is stands each =
    elim (first.number == number) as (λ b. cond b (Some first)
    (find (λ (r : Service). r.number == number) rows) ≡ Some row → P row.config) [
      | true ↦ λ g.
          let same = same_some first row g in
          let here : first.marked ≡ false = ap (λ (r : Service). r.marked) same ∙ stands in
          subst (λ (r : Service). P r.config) same
          (subst (λ mark. AllByRecursion P (map config_of (cond (not mark) (first ∷ filter stays rows) (filter stays rows)))) here each).0
      | false ↦ λ g. found_config P number row rows g stands
          (elim first.marked as (λ mark. AllByRecursion P
          (map config_of (cond (not mark) (first ∷ filter stays rows) (filter stays rows))) → AllByRecursion P (unmarked rows))
          [ true ↦ λ h. h | false ↦ λ h. h.1 ] each)
    ] is

found_named : (number : ℕ) (row : Service) (rows : List Service) → find (λ (r : Service). r.number == number) rows ≡ Some row
    → row.marked ≡ false
    → list_any (has_name row.config.name) (unmarked rows) ≡ true
found_named number row [] is stands = absurd cc
found_named number row (first ∷ rows) is stands =
    elim (first.number == number) as (λ b. cond b (Some first) (find (λ (r : Service). r.number == number) rows) ≡ Some row
    → list_any (has_name row.config.name) (unmarked (first ∷ rows)) ≡ true) [
      | true ↦ λ g.
          let same = same_some first row g in
          let here : first.marked ≡ false = ap (λ (r : Service). r.marked) same ∙ stands in
          subst (λ mark. list_any (has_name row.config.name)
          (map config_of (cond (not mark) (first ∷ filter stays rows) (filter stays rows))) ≡ true) (sym here)
          (or_left (same_text first.config.name row.config.name) _
          (subst (λ (r : Service). same_text first.config.name r.config.name ≡ true) same (same_itself first.config.name)))
      | false ↦ λ g.
          let rest = found_named number row rows g stands in
          elim first.marked as (λ mark. list_any (has_name row.config.name)
          (map config_of (cond (not mark) (first ∷ filter stays rows) (filter stays rows))) ≡ true)
          [ true ↦ rest | false ↦ or_right (same_text first.config.name row.config.name) _ rest ]
    ] is

stands_so : (f : Flat) (caller handle : ℕ) (row : Service) → held_service f caller handle ≡ Some row
    → is_marked (held_service f caller handle) ≡ false → row.marked ≡ false
stands_so f caller handle row is unmarked = subst (λ (found : Option Service). is_marked found ≡ false) is unmarked

-- ## Calls

not_refused : (f : Flat) (code : ℕ) (change : Option Change) → (code ≡ 0 → IfSome change (IsPlaced f))
    → IfSome (unless_refused code change) (IsPlaced f)
not_refused f code change passes =
    elim (code == 0) as (λ b. (code == 0) ≡ b → IfSome (cond b change None) (IsPlaced f)) [
      | true ↦ λ e. passes
          (eqb-true code 0 e)
      | false ↦ λ e. tt
    ] refl

few_unmarked : (rows : List Service) (n : ℕ) → length rows < n → n ≤ 1024 → length (unmarked rows) < 1024
few_unmarked rows n few small =
    let first = length-map (filter stays rows) config_of in
    let second = filter_short stays rows in
    omega (arith, first, second, few, small)

creation : (l : Limits) (f : Flat) (caller : ℕ) (new : NewService) → l.services ≤ 1024 → FitsCreation new
    → IfSome (change_of_call l f caller (request.Create new)) (IsPlaced f)
creation l f caller new few fits =
    not_refused f (create_verdict l f caller new appended.Kept) (Some (Created (created_config f new))) (λ e.
    let p = all_pass (create_refusals l f caller new appended.Kept)
    (refl, (refl, (refl, (refl, (refl, (refl, (refl, (refl, (refl, (refl, (refl, tt))))))))))) e in
    let checked = checked_alone (created_config f new) new.account p.1.1.0
    (or_parts _ _ (or_parts (check_new (created_config f new) new.account == 87 || tags_nothing new)
    (are_unreadable new.needs) p.1.1.1.0).0).0 in
    let room = or_parts (nat_le l.services (length f.services)) (nat_le l.handles (held_by f caller)) p.1.1.1.1.1.1.1.1.1.0 in
    record {
      entry = created_entry (created_config f new) checked (created_units f new fits);
      place = few_unmarked f.services l.services (leb-false l.services (length f.services) room.0) few;
    })

deletion : (l : Limits) (f : Flat) (caller handle : ℕ) → Sound f → HaveUnits f.services
    → IfSome (change_of_call l f caller (request.Delete handle)) (IsPlaced f)
deletion l f caller handle s each =
    not_refused f (delete_verdict f caller handle appended.Kept) (option_map removal_of (held_service f caller handle)) (λ e.
    let p = all_pass (delete_refusals f caller handle appended.Kept) (refl, (refl, (refl, (refl, tt)))) e in
    found_all (λ (found : Option Service). IfSome (option_map removal_of found) (IsPlaced f)) (held_service f caller handle) tt (λ row is.
    let stands = stands_so f caller handle row is p.1.1.0 in
    let found = held_is f caller handle row is in
    record {
      entry = removed_entry row.config (found_has (λ (r : Service). check_new r.config None ≡ 0)
          (λ (r : Service). r.number == row.number) row f.services s.services.configs found)
          (found_config HasUnits row.number row f.services found stands each);
      place = found_named row.number row f.services found stands;
    }))

-- a configuration that isn't equal to the old one is kept
kept_other : (f : Flat) (old new : Config) → IsPlaced f (Changed new) → IfSome (changed_from old new) (IsPlaced f)
kept_other f old new placed = elim (config_alike old new) as
    (λ b. IfSome (cond b None (Some (Changed new))) (IsPlaced f)) [ true ↦ tt | false ↦ placed ]

placed_by : (f : Flat) (row : Service) (new : Config) → new.name ≡ row.config.name → row.marked ≡ false
    → find (λ (r : Service). r.number == row.number) f.services ≡ Some row
    → check_new new None ≡ 0 → HasUnits new → IsPlaced f (Changed new)
placed_by f row new named stands found checked units = record {
  entry = changed_entry new checked units;
  place = subst (λ name. list_any (has_name name) (unmarked f.services) ≡ true) (sym named)
      (found_named row.number row f.services found stands);
}

reconfiguration : (l : Limits) (f : Flat) (caller : ℕ) (asked : ChangeService) → FitsChange asked → HaveUnits f.services
    → IfSome (change_of_call l f caller (request.Change asked)) (IsPlaced f)
reconfiguration l f caller asked fits each =
    not_refused f (change_verdict f caller asked appended.Kept) (change_change f caller asked) (λ e.
    let p = all_pass (change_refusals f caller asked appended.Kept)
    (refl, (refl, (refl, (refl, (refl, (refl, (refl, (refl, (refl, tt))))))))) e in
    let service = held_service f caller asked.handle in
    let other = (or_parts _ _ (or_parts (checked f asked service == 87 || tags_no_group asked service)
    (are_unreadable asked.needs) p.1.1.1.1.0).0).0 in
    found_all (λ (found : Option Service). IfSome
    (option_and_then (λ (row : Service). changed_from row.config (new_config f asked row)) found) (IsPlaced f)) service tt (λ row is.
    let stands = stands_so f caller asked.handle row is p.1.1.0 in
    let found = held_is f caller asked.handle row is in
    let new = new_config f asked row in
    let accepted = checked_alone new asked.account (subst (λ (o : Option Service). (checked f asked o == 123) ≡ false) is p.1.1.1.0)
    (subst (λ (o : Option Service). (checked f asked o == 87) ≡ false) is other) in
    kept_other f row.config new (placed_by f row new refl stands found accepted
    (changed_units f asked row.config fits (found_config HasUnits row.number row f.services found stands each)))))

level : (l : Limits) (f : Flat) (caller handle : ℕ) (asked : Info) → FitsLevel asked → HaveUnits f.services
    → IfSome (change_of_call l f caller (request.Change2 handle asked)) (IsPlaced f)
level l f caller handle asked fits each =
    not_refused f (change2_verdict f caller handle asked appended.Kept) (change2_change f caller handle asked) (λ e.
    let p = all_pass (change2_refusals f caller handle asked appended.Kept) (refl, (refl, (refl, (refl, (refl, (refl, tt)))))) e in
    let service = held_service f caller handle in
    let fine = (or_parts (has_bad_trigger asked) (is_refused asked service) p.1.1.1.1.0).1 in
    found_all (λ (found : Option Service). IfSome
    (option_and_then (λ (row : Service). changed_from row.config (level_config asked row)) found) (IsPlaced f)) service tt (λ row is.
    let stands = stands_so f caller handle row is p.1.1.0 in
    let found = held_is f caller handle row is in
    let new = level_config asked row in
    let accepted = eqb-true (check_new new None) 0 (not-false _ (subst (λ (o : Option Service). is_refused asked o ≡ false) is fine)) in
    kept_other f row.config new (placed_by f row new (name_left asked row) stands found accepted
    (level_units asked row.config fits (found_config HasUnits row.number row f.services found stands each)))))

pub call_placed : (l : Limits) (f : Flat) (caller : ℕ) (asked : Request) → l.services ≤ 1024 → Sound f → FitsRequest asked
    → HaveUnits f.services
    → IfSome (change_of_call l f caller asked) (IsPlaced f)
call_placed l f caller (request.Create new) few s fits each = creation l f caller new few fits
call_placed l f caller (request.Delete handle) few s fits each = deletion l f caller handle s each
call_placed l f caller (request.Change asked) few s fits each = reconfiguration l f caller asked fits each
call_placed l f caller (request.Change2 handle asked) few s fits each = level l f caller handle asked fits each
call_placed l f caller asked few s fits each = tt
