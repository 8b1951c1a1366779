-- The numbers and units of every state's unmarked configurations are those of their types.
use Rattle.std.proofs.Common.{ℕ, ◌≡◌, ◌∙◌, ◌==◌, ◌||◌, true, false, cond, not, IsTrue, List, [], ◌∷◌, ◌++◌, filter, map, ap, sym, refl}
use Rattle.std.proofs.Common.{subst}
use Rattle.std.specs.Prelude.{All}
use Rattle.std.specs.List.{AllByRecursion}
use Rattle.std.proofs.lemmas.List.{map-append}
use Rattle.std.proofs.lemmas.List.Elements.{All-from_recursion, All-head, All-push, All-tail, All-weaker, filter-append, recursion_from_All}
use Rattle.scm_model.specs.declared.flat.Config.{Config}
use Rattle.scm_model.specs.declared.flat.Flat.{Flat}
use Rattle.scm_model.specs.declared.flat.Limits.{Limits}
use Rattle.scm_model.specs.declared.flat.Service.{Service}
use Rattle.scm_model.specs.declared.calls.Request.{Request}
use Rattle.scm_model.specs.declared.calls.Request.TheVariants as request
use Rattle.scm_model.specs.declared.steps.Kept.{Kept}
use Rattle.scm_model.specs.declared.steps.Step.{Step}
use Rattle.scm_model.specs.declared.steps.Step.TheVariants.{Call}
use Rattle.scm_model.specs.Changes.{configured_if, marked_if, with_moment}
use Rattle.scm_model.specs.Rows.{held_service}
use Rattle.scm_model.proofs.Found.{found_keeps}
use Rattle.scm_rules.specs.Change.{change_done, change_verdict, configured_in, new_config}
use Rattle.scm_rules.specs.Change2.{change2_done, change2_verdict, level_config}
use Rattle.scm_rules.specs.Create.{create_done, create_verdict}
use Rattle.scm_rules.specs.Delete.{delete_done, delete_verdict}
use Rattle.scm_rules.specs.Steps.{may, step_of}
use Rattle.scm_rules.specs.Verdicts.{told_refused}
use Rattle.scm_rules.proofs.Held.{held_is}
use Rattle.scm_rules.proofs.Needed.{replaced}
use Rattle.scm_runs.proofs.Calls.{by_verdict}
use Rattle.scm_runs.proofs.Lists.{found_only}
use Rattle.scm_runs.proofs.Sound.{Sound}
use Rattle.scm_kept.specs.Replayed.{unmarked}
use Rattle.scm_kept.specs.Fitting.{FitsRequest, FitsStep}
use Rattle.scm_kept.proofs.Found.{mark_kept}
use Rattle.scm_kept.proofs.Given.{HasUnits, changed_units, created_units, level_units}
use Rattle.scm_kept.proofs.Rows.{config_of, stays}
use Rattle.scm_kept.proofs.Runs.{of_effect, unchanged_by}

abbrev pub HaveUnits : List Service → Type 0
HaveUnits rows = AllByRecursion HasUnits (unmarked rows)

-- ## Rows

units_added : (rows : List Service) (row : Service) → row.marked ≡ false → HasUnits row.config → HaveUnits rows
    → HaveUnits (rows ++ row ∷ [])
units_added rows row stands one each =
    subst (AllByRecursion HasUnits) (sym
    (ap (map config_of) (filter-append stays rows (row ∷ []) ∙ rw stands refl) ∙ map-append config_of (filter stays rows) (row ∷ [])))
    (recursion_from_All HasUnits (unmarked rows ++ row.config ∷ [])
    (All-push HasUnits (unmarked rows) row.config (All-from_recursion HasUnits (unmarked rows) each) one))

marked_units : (number : ℕ) (rows : List Service) → HaveUnits rows → HaveUnits (map (marked_if number) rows)
marked_units number [] each = tt
marked_units number (row ∷ rows) each =
    let left = filter stays (map (marked_if number) rows) in
    elim row.marked as (λ mark. AllByRecursion HasUnits (map config_of (cond (not mark) (row ∷ filter stays rows) (filter stays rows)))
    → AllByRecursion HasUnits (map config_of (cond (not (mark || row.number == number))
    (record row { marked = mark || row.number == number } ∷ left) left))) [
      | true ↦ λ h. marked_units number rows h
      | false ↦ λ h. elim (row.number == number) as
          (λ b. AllByRecursion HasUnits (map config_of (cond (not b) (record row { marked = b } ∷ left) left)))
          [ true ↦ marked_units number rows h.1 | false ↦ (h.0, marked_units number rows h.1) ]
    ] each

-- the configuration of the service with the number has its units where the old one has
abbrev Gets : ℕ → Config → Service → Type 0
Gets number config row = (row.number == number) ≡ true → HasUnits row.config → HasUnits config

one_configured : (number : ℕ) (config : Config) (row : Service) → Gets number config row → HasUnits row.config
    → HasUnits (configured_if number config row).config
one_configured number config row gets one =
    elim (row.number == number) as (λ b. (row.number == number) ≡ b → HasUnits
    (cond b (replaced config row) row).config) [ true ↦ λ e. gets e one | false ↦ λ e. one ] refl

configured_units : (number : ℕ) (config : Config) (rows : List Service) → All (Gets number config) rows → HaveUnits rows
    → HaveUnits (map (configured_if number config) rows)
configured_units number config [] gets each = tt
configured_units number config (row ∷ rows) gets each =
    let new = configured_if number config row in
    let left = filter stays (map (configured_if number config) rows) in
    let rest = configured_units number config rows (All-tail (Gets number config) row rows gets) in
    subst (λ mark. AllByRecursion HasUnits (map config_of (cond (not mark) (new ∷ left) left))) (sym (mark_kept number config row))
    (elim row.marked as (λ mark. AllByRecursion HasUnits (map config_of (cond (not mark) (row ∷ filter stays rows) (filter stays rows)))
    → AllByRecursion HasUnits (map config_of (cond (not mark) (new ∷ left) left))) [
      | true ↦ λ h. rest h
      | false ↦ λ h. (one_configured number config row (All-head (Gets number config) row rows gets) h.0, rest h.1)
    ] each)

-- ## Calls

another : (f : Flat) (caller handle : ℕ) (new : Service → Config) → Sound f → ((row : Service) → HasUnits row.config → HasUnits (new row))
    → HaveUnits f.services
    → HaveUnits (configured_in new (held_service f caller handle) f.services)
another f caller handle new s gives each =
    found_keeps HaveUnits (λ (row : Service). map (configured_if row.number (new row))) (held_service f caller handle) f.services each
    (λ row is. configured_units row.number (new row) f.services
    (All-weaker (λ (r : Service). (r.number == row.number) ≡ true → r ≡ row) (Gets row.number (new row))
    (λ r only same one. gives row (subst (λ (old : Service). HasUnits old.config) (only same) one)) f.services
    (found_only (λ (r : Service). r.number) row.number row f.services s.services.numbered.rising (held_is f caller handle row is))) each)

of_call : (l : Limits) (f : Flat) (moment caller : ℕ) (asked : Request) (append : Kept) → Sound f
    → IsTrue (may l f moment (Call caller asked append)) → FitsRequest asked
    → HaveUnits f.services → HaveUnits (step_of l f moment (Call caller asked append)).flat.services
of_call l f moment caller (request.Create new) append s ok fits each =
    let g = with_moment f moment in
    let code = create_verdict l g caller new append in
    subst (AllByRecursion HasUnits) (sym (of_effect l f moment (Call caller (request.Create new) append) s ok))
    (by_verdict (λ r. HaveUnits r.flat.services) code (told_refused g caller (request.Create new) code) g (create_done g caller new)
    (λ e. units_added f.services _ refl (created_units g new fits) each) (λ e. each))
of_call l f moment caller (request.Delete handle) append s ok fits each =
    let g = with_moment f moment in
    let code = delete_verdict g caller handle append in
    subst (AllByRecursion HasUnits) (sym (of_effect l f moment (Call caller (request.Delete handle) append) s ok))
    (by_verdict (λ r. HaveUnits r.flat.services) code (told_refused g caller (request.Delete handle) code) g (delete_done g caller handle)
    (λ e. found_keeps HaveUnits (λ (row : Service). map (marked_if row.number)) (held_service f caller handle) f.services each
    (λ row is. marked_units row.number f.services each)) (λ e. each))
of_call l f moment caller (request.Change change) append s ok fits each =
    let g = with_moment f moment in
    let code = change_verdict g caller change append in
    subst (AllByRecursion HasUnits) (sym (of_effect l f moment (Call caller (request.Change change) append) s ok))
    (by_verdict (λ r. HaveUnits r.flat.services) code (told_refused g caller (request.Change change) code) g (change_done g caller change)
    (λ e. another f caller change.handle (new_config g change) s (λ row one. changed_units g change row.config fits one) each) (λ e. each))
of_call l f moment caller (request.Change2 handle asked) append s ok fits each =
    let g = with_moment f moment in
    let code = change2_verdict g caller handle asked append in
    subst (AllByRecursion HasUnits) (sym (of_effect l f moment (Call caller (request.Change2 handle asked) append) s ok))
    (by_verdict (λ r. HaveUnits r.flat.services) code (told_refused g caller (request.Change2 handle asked) code) g
    (change2_done g caller handle asked)
    (λ e. another f caller handle (level_config asked) s (λ row one. level_units asked row.config fits one) each) (λ e. each))
of_call l f moment caller asked append s ok fits each =
    subst (AllByRecursion HasUnits) (sym
    (unchanged_by l f (moment, Call caller asked append) s ok refl (λ number. refl) (λ number. refl))) each

pub units_kept : (l : Limits) (f : Flat) (moment : ℕ) (step : Step) → Sound f → IsTrue (may l f moment step) → FitsStep step
    → HaveUnits f.services
    → HaveUnits (step_of l f moment step).flat.services
units_kept l f moment (Call caller asked append) s ok fits each = of_call l f moment caller asked append s ok fits each
units_kept l f moment step s ok fits each = subst (AllByRecursion HasUnits)
    (sym (unchanged_by l f (moment, step) s ok refl (λ number. refl) (λ number. refl))) each
