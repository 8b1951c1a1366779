-- What the calls that change configurations make of them, and what is kept of that.
use Rattle.std.proofs.Common.{ℕ, ◌≡◌, ◌∙◌, ◌==◌, true, false, cond, not, IsTrue, List, Option, None, Some, filter, map, ap, sym, refl}
use Rattle.std.proofs.Common.{subst, eq-eqb}
use Rattle.std.specs.Prelude.{All, IfSome, is_some, option_and_then, option_map}
use Rattle.std.proofs.lemmas.List.{map-append}
use Rattle.std.proofs.lemmas.List.Elements.{All-weaker, filter-append}
use Rattle.scm_model.specs.declared.flat.Config.{Config}
use Rattle.scm_model.specs.declared.flat.Flat.{Flat}
use Rattle.scm_model.specs.declared.flat.Limits.{Limits}
use Rattle.scm_model.specs.declared.flat.Service.{Service}
use Rattle.scm_model.specs.declared.calls.ChangeService.{ChangeService}
use Rattle.scm_model.specs.declared.calls.Info.{Info}
use Rattle.scm_model.specs.declared.calls.NewService.{NewService}
use Rattle.scm_model.specs.declared.calls.Reply.{Reply}
use Rattle.scm_model.specs.declared.calls.Request.TheVariants as request
use Rattle.scm_model.specs.declared.steps.Change.{Change}
use Rattle.scm_model.specs.declared.steps.Change.TheVariants.{Changed}
use Rattle.scm_model.specs.declared.steps.Kept.{Kept}
use Rattle.scm_model.specs.declared.steps.Kept.TheVariants as appended
use Rattle.scm_model.specs.declared.steps.Step.TheVariants.{Call}
use Rattle.scm_model.specs.Changes.{configured_if, with_moment}
use Rattle.scm_model.specs.Outcomes.{CallResult}
use Rattle.scm_model.specs.Refused.{answered}
use Rattle.scm_model.specs.Rows.{held_service, service_of}
use Rattle.scm_rules.specs.Change.{change_change, change_done, change_refusals, change_verdict, changed_from, config_alike, configured_in}
use Rattle.scm_rules.specs.Change.{new_config}
use Rattle.scm_rules.specs.Change2.{change2_change, change2_done, change2_refusals, change2_verdict, level_config}
use Rattle.scm_rules.specs.Create.{create_change, create_done, create_refusals, create_verdict}
use Rattle.scm_rules.specs.Delete.{delete_change, delete_done, delete_refusals, delete_verdict, marked_in, removal_of}
use Rattle.scm_rules.specs.Verdicts.{call_of, change_of_call, tells_right, told_refused, unless_refused}
use Rattle.scm_history.specs.Kept.{kept_change, one_or_none}
use Rattle.scm_runs.proofs.Calls.{all_pass, by_verdict}
use Rattle.scm_runs.proofs.Founds.{if_some}
use Rattle.scm_rules.proofs.Held.{held_is}
use Rattle.scm_runs.proofs.Levels.{name_left}
use Rattle.scm_runs.proofs.Lists.{found_only}
use Rattle.scm_runs.proofs.Sound.{Sound}
use Rattle.scm_kept.specs.Replayed.{replayed, unmarked}
use Rattle.scm_kept.proofs.Found.{IsNamed, KeepsConfig, all_named, configured_unmarked, marked_unmarked, unchanged_unmarked}
use Rattle.scm_kept.proofs.Rows.{config_of, stays}
use Rattle.scm_kept.proofs.Same.{alike_same}

-- the unmarked configurations of some services are those of others after a change, if there is one
abbrev pub KeptBy : List Service → Option Change → List Service → Type 0
KeptBy olds change news = unmarked news ≡ replayed (unmarked olds) (one_or_none change)

-- ## What is kept of a call

kept_at : (code : ℕ) (change : Option Change) → code ≡ 0 → unless_refused code change ≡ change
kept_at code change e = rw (eq-eqb code 0 e) refl

none_at : (code : ℕ) (change : Option Change) → (code == 0) ≡ false → unless_refused code change ≡ None
none_at code change e = rw e refl

-- its change was kept
of_kept : (code : ℕ) (told : Reply) (g : Flat) (done : CallResult) (change : Option Change) → KeptBy g.services change done.flat.services
    → KeptBy g.services (unless_refused code change) (answered code told g done).flat.services
of_kept code told g done change by =
    by_verdict (λ r. KeptBy g.services (unless_refused code change) r.flat.services) code told g done
    (λ e. subst (λ c. KeptBy g.services c done.flat.services) (sym (kept_at code change e)) by)
    (λ e. subst (λ c. KeptBy g.services c g.services) (sym (none_at code change e)) refl)

no_change : (olds news : List Service) (change : Option Change) → KeptBy olds change news → not (is_some change) ≡ true
    → KeptBy olds None news
no_change olds news None by none = by
no_change olds news (Some change) by none = absurd cc

-- it has no change
of_unasked : (code : ℕ) (told : Reply) (g : Flat) (done : CallResult) (change : Option Change) → KeptBy g.services change done.flat.services
    → not (is_some (unless_refused code change)) ≡ true → KeptBy g.services None (answered code told g done).flat.services
of_unasked code told g done change by none =
    by_verdict (λ r. KeptBy g.services None r.flat.services) code told g done
    (λ e. no_change g.services done.flat.services change by (ap (λ c. not (is_some c)) (sym (kept_at code change e)) ∙ none))
    (λ e. refl)

-- its change could not be kept
of_failed : (code : ℕ) (told : Reply) (g : Flat) (done : CallResult) → (code ≡ 0 → ⊥)
    → KeptBy g.services None (answered code told g done).flat.services
of_failed code told g done refused = by_verdict (λ r. KeptBy g.services None r.flat.services) code told g done (λ e. absurd (refused e))
    (λ e. refl)

-- the service that a handle is of is the one with its number
held_row : (f : Flat) (caller handle : ℕ) → IfSome (held_service f caller handle) (λ row. service_of f row.number ≡ Some row)
held_row f caller handle = if_some (λ row. service_of f row.number ≡ Some row) (held_service f caller handle) (held_is f caller handle)

-- ## Create

one_added : (f : Flat) (moment caller : ℕ) (new : NewService) → KeptBy f.services (create_change f new)
    (create_done (with_moment f moment) caller new).flat.services
one_added f moment caller new = ap (map config_of) (filter-append stays f.services _) ∙ map-append config_of (filter stays f.services) _

create_failed : (l : Limits) (f : Flat) (caller : ℕ) (new : NewService) → create_verdict l f caller new appended.Failed ≡ 0 → ⊥
create_failed l f caller new e =
    let p = all_pass (create_refusals l f caller new appended.Failed) (
      refl,
      (refl, (refl, (refl, (refl, (refl, (refl, (refl, (refl, (refl, (refl, tt)))))))))),
    ) e in
    let is = p.1.1.1.1.1.1.1.1.1.1.0 in cc

pub created : (l : Limits) (f : Flat) (moment caller : ℕ) (new : NewService) (append : Kept)
    → IsTrue (tells_right (is_some (change_of_call l f caller (request.Create new))) append)
    → KeptBy f.services (kept_change l f (Call caller (request.Create new) append))
    (call_of l (with_moment f moment) caller (request.Create new) append).flat.services
created l f moment caller new appended.Kept right =
    let g = with_moment f moment in
    let code = create_verdict l g caller new appended.Kept in
    of_kept code (told_refused g caller (request.Create new) code) g (create_done g caller new) (create_change f new)
    (one_added f moment caller new)
created l f moment caller new appended.NotAsked right =
    let g = with_moment f moment in
    let code = create_verdict l g caller new appended.NotAsked in
    of_unasked code (told_refused g caller (request.Create new) code) g (create_done g caller new) (create_change f new)
    (one_added f moment caller new) right
created l f moment caller new appended.Failed right =
    let g = with_moment f moment in
    let code = create_verdict l g caller new appended.Failed in
    of_failed code (told_refused g caller (request.Create new) code) g (create_done g caller new) (create_failed l g caller new)

-- ## Delete

one_marked : (f : Flat) (found : Option Service) → Sound f → IfSome found (λ row. service_of f row.number ≡ Some row)
    → KeptBy f.services (option_map removal_of found) (marked_in found f.services)
one_marked f None s is = refl
one_marked f (Some row) s is = marked_unmarked row.number row.config.name f.services
    (all_named row.number row f.services s.services.names s.services.numbered.rising is)

delete_failed : (f : Flat) (caller handle : ℕ) → delete_verdict f caller handle appended.Failed ≡ 0 → ⊥
delete_failed f caller handle e =
    let p = all_pass (delete_refusals f caller handle appended.Failed) (refl, (refl, (refl, (refl, tt)))) e in
    let is = p.1.1.1.0 in cc

pub deleted : (l : Limits) (f : Flat) (moment caller handle : ℕ) (append : Kept) → Sound f
    → IsTrue (tells_right (is_some (change_of_call l f caller (request.Delete handle))) append)
    → KeptBy f.services (kept_change l f (Call caller (request.Delete handle) append))
    (call_of l (with_moment f moment) caller (request.Delete handle) append).flat.services
deleted l f moment caller handle appended.Kept s right =
    let g = with_moment f moment in
    let code = delete_verdict g caller handle appended.Kept in
    of_kept code (told_refused g caller (request.Delete handle) code) g (delete_done g caller handle) (delete_change f caller handle)
    (one_marked f (held_service f caller handle) s (held_row f caller handle))
deleted l f moment caller handle appended.NotAsked s right =
    let g = with_moment f moment in
    let code = delete_verdict g caller handle appended.NotAsked in
    of_unasked code (told_refused g caller (request.Delete handle) code) g (delete_done g caller handle) (delete_change f caller handle)
    (one_marked f (held_service f caller handle) s (held_row f caller handle)) right
deleted l f moment caller handle appended.Failed s right =
    let g = with_moment f moment in
    let code = delete_verdict g caller handle appended.Failed in
    of_failed code (told_refused g caller (request.Delete handle) code) g (delete_done g caller handle) (delete_failed g caller handle)

-- ## Another configuration

one_configured : (f : Flat) (new : Service → Config) (found : Option Service) → ((row : Service) → (new row).name ≡ row.config.name)
    → Sound f → IfSome found (λ row. service_of f row.number ≡ Some row)
    → KeptBy f.services (option_and_then (λ row. changed_from row.config (new row)) found) (configured_in new found f.services)
one_configured f new None named s is = refl
one_configured f new (Some row) named s is =
    let config = new row in
    elim (config_alike row.config config) as (λ b. config_alike row.config config ≡ b
    → KeptBy f.services (cond b None (Some (Changed config))) (map (configured_if row.number config) f.services)) [
      | true ↦ λ alike. unchanged_unmarked row.number config f.services
          (All-weaker (λ (r : Service). (r.number == row.number) ≡ true → r ≡ row) (KeepsConfig row.number config)
          (λ r only same. sym (ap config_of (only same) ∙ alike_same row.config config alike)) f.services
          (found_only (λ (r : Service). r.number) row.number row f.services s.services.numbered.rising is))
      | false ↦ λ other. configured_unmarked row.number config f.services
          (subst (λ name. All (IsNamed row.number name) f.services) (sym (named row))
          (all_named row.number row f.services s.services.names s.services.numbered.rising is))
    ] refl

-- ## Change

change_failed : (f : Flat) (caller : ℕ) (change : ChangeService) → change_verdict f caller change appended.Failed ≡ 0 → ⊥
change_failed f caller change e =
    let p = all_pass (change_refusals f caller change appended.Failed) (
      refl,
      (refl, (refl, (refl, (refl, (refl, (refl, (refl, (refl, tt)))))))),
    ) e in
    let is = p.1.1.1.1.1.1.1.1.0 in cc

pub changed : (l : Limits) (f : Flat) (moment caller : ℕ) (change : ChangeService) (append : Kept) → Sound f
    → IsTrue (tells_right (is_some (change_of_call l f caller (request.Change change))) append)
    → KeptBy f.services (kept_change l f (Call caller (request.Change change) append))
    (call_of l (with_moment f moment) caller (request.Change change) append).flat.services
changed l f moment caller change appended.Kept s right =
    let g = with_moment f moment in
    let code = change_verdict g caller change appended.Kept in
    of_kept code (told_refused g caller (request.Change change) code) g (change_done g caller change) (change_change f caller change)
    (one_configured f (new_config f change) (held_service f caller change.handle) (λ row. refl) s (held_row f caller change.handle))
changed l f moment caller change appended.NotAsked s right =
    let g = with_moment f moment in
    let code = change_verdict g caller change appended.NotAsked in
    of_unasked code (told_refused g caller (request.Change change) code) g (change_done g caller change) (change_change f caller change)
    (one_configured f (new_config f change) (held_service f caller change.handle) (λ row. refl) s (held_row f caller change.handle)) right
changed l f moment caller change appended.Failed s right =
    let g = with_moment f moment in
    let code = change_verdict g caller change appended.Failed in
    of_failed code (told_refused g caller (request.Change change) code) g (change_done g caller change) (change_failed g caller change)

-- ## Change2

level_failed : (f : Flat) (caller handle : ℕ) (asked : Info) → change2_verdict f caller handle asked appended.Failed ≡ 0 → ⊥
level_failed f caller handle asked e =
    let p = all_pass (change2_refusals f caller handle asked appended.Failed) (refl, (refl, (refl, (refl, (refl, (refl, tt)))))) e in
    let is = p.1.1.1.1.1.0 in cc

pub level_changed : (l : Limits) (f : Flat) (moment caller handle : ℕ) (asked : Info) (append : Kept) → Sound f
    → IsTrue (tells_right (is_some (change_of_call l f caller (request.Change2 handle asked))) append)
    → KeptBy f.services (kept_change l f (Call caller (request.Change2 handle asked) append))
    (call_of l (with_moment f moment) caller (request.Change2 handle asked) append).flat.services
level_changed l f moment caller handle asked appended.Kept s right =
    let g = with_moment f moment in
    let code = change2_verdict g caller handle asked appended.Kept in
    of_kept code (told_refused g caller (request.Change2 handle asked) code) g (change2_done g caller handle asked)
    (change2_change f caller handle asked)
    (one_configured f (level_config asked) (held_service f caller handle) (name_left asked) s (held_row f caller handle))
level_changed l f moment caller handle asked appended.NotAsked s right =
    let g = with_moment f moment in
    let code = change2_verdict g caller handle asked appended.NotAsked in
    of_unasked code (told_refused g caller (request.Change2 handle asked) code) g (change2_done g caller handle asked)
    (change2_change f caller handle asked)
    (one_configured f (level_config asked) (held_service f caller handle) (name_left asked) s (held_row f caller handle)) right
level_changed l f moment caller handle asked appended.Failed s right =
    let g = with_moment f moment in
    let code = change2_verdict g caller handle asked appended.Failed in
    of_failed code (told_refused g caller (request.Change2 handle asked) code) g (change2_done g caller handle asked)
    (level_failed g caller handle asked)
