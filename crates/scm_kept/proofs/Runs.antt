-- The unmarked configurations are what the kept changes come to.
use Rattle.std.proofs.Common.{ℕ, ◌≡◌, ◌∙◌, ◌≤◌, ◌||◌, Bool, true, false, IsTrue, List, [], ◌∷◌, ◌++◌, None, length, ap, sym, refl, subst}
use Rattle.std.proofs.Common.{arith}
use Rattle.std.specs.List.{AllZip}
use Rattle.std.proofs.lemmas.List.{append-nil, length-map, take_all}
use Rattle.scm_model.specs.declared.flat.Config.{Config}
use Rattle.scm_model.specs.declared.flat.Flat.{Flat}
use Rattle.scm_model.specs.declared.flat.Limits.{Limits}
use Rattle.scm_model.specs.declared.flat.Service.{Service}
use Rattle.scm_model.specs.declared.calls.Request.{Request}
use Rattle.scm_model.specs.declared.calls.Request.TheVariants as request
use Rattle.scm_model.specs.declared.steps.Answer.{Answer}
use Rattle.scm_model.specs.declared.steps.Kept.{Kept}
use Rattle.scm_model.specs.declared.steps.Kept.TheVariants as appended
use Rattle.scm_model.specs.declared.steps.Step.{Step}
use Rattle.scm_model.specs.declared.steps.Step.TheVariants.{Call}
use Rattle.scm_model.specs.Entries.{Entry}
use Rattle.start_plan.specs.Settle.{settled}
use Rattle.scm_rules.specs.Histories.{state}
use Rattle.scm_rules.specs.Runs.{IsLegal, run_state}
use Rattle.scm_rules.specs.Steps.{at_moment, effect_of, finished_step, may, step_of}
use Rattle.scm_rules.specs.Verdicts.{change_of_call}
use Rattle.scm_history.specs.Kept.{kept_change, kept_changes, one_or_none}
use Rattle.scm_runs.specs.Leaving.{IsSameService, before_leaving, configures, created, marks, numbers}
use Rattle.scm_runs.proofs.Calls.{keeps}
use Rattle.scm_runs.proofs.Effects.{step_settled}
use Rattle.scm_runs.proofs.Frames.{finished_keeps}
use Rattle.scm_runs.proofs.Leaving.{gives as gives_leaving}
use Rattle.scm_runs.proofs.Sound.{Sound}
use Rattle.scm_kept.specs.Replayed.{UnmarkedAreKept, replayed, unmarked}
use Rattle.scm_kept.proofs.Alike.{replay_append}
use Rattle.scm_kept.proofs.Calls.{KeptBy, changed, created as kept_created, deleted, level_changed}
use Rattle.scm_kept.proofs.Rows.{IsBare, bare_unmarked, purged_unmarked, settled_unmarked}
use Rattle.std.proofs.lemmas.Bool.{and_parts}

-- ## After an effect

-- settling, the answer of a start and the purge leave the unmarked configurations
pub of_effect : (l : Limits) (f : Flat) (moment : ℕ) (step : Step) → Sound f → IsTrue (may l f moment step)
    → unmarked (step_of l f moment step).flat.services ≡ unmarked (effect_of l (at_moment f moment step) step).flat.services
of_effect l f moment step s ok =
    let done = effect_of l (at_moment f moment step) step in
    let before = (finished_step l f moment step).flat in
    purged_unmarked before.handles before.services
    ∙ finished_keeps (λ (g : Flat). unmarked g.services ≡ unmarked done.flat.services) (λ g plans same. same)
    (settled l done.flat) done.answer
    (settled_unmarked f.next.process f.next.service done.flat.processes done.flat.services (settled l done.flat).services
    (step_settled l f moment step s ok))

by_effect : (l : Limits) (f : Flat) (moment : ℕ) (step : Step) → Sound f → IsTrue (may l f moment step)
    → KeptBy f.services (kept_change l f step) (effect_of l (at_moment f moment step) step).flat.services
    → KeptBy f.services (kept_change l f step) (step_of l f moment step).flat.services
by_effect l f moment step s ok by = of_effect l f moment step s ok ∙ by

-- ## Steps that change no configuration

same_mark : (a b : Bool) → b ≡ false → (a || b) ≡ a
same_mark true b e = refl
same_mark false b e = e

one_bare : (f : Flat) (step : Step) (told : Answer) (old new : Service) → marks f step told old.number ≡ false
    → configures f step told old.number ≡ false → IsSameService f step told old new → IsBare old new
one_bare f step told old new unmarks unchanged same = record {
  mark = ap (λ (row : Service). row.marked) same.row ∙ same_mark old.marked _ unmarks;
  config = (same.config unchanged).0;
}

all_bare : (f : Flat) (step : Step) (told : Answer) (olds news : List Service) → ((number : ℕ) → marks f step told number ≡ false)
    → ((number : ℕ) → configures f step told number ≡ false)
    → AllZip (IsSameService f step told) olds news → AllZip IsBare olds news
all_bare f step told [] [] unmarks unchanged each = tt
all_bare f step told [] (new ∷ news) unmarks unchanged each = absurd each
all_bare f step told (old ∷ olds) [] unmarks unchanged each = absurd each
all_bare f step told (old ∷ olds) (new ∷ news) unmarks unchanged each = (
  one_bare f step told old new (unmarks old.number) (unchanged old.number) each.0,
  all_bare f step told olds news unmarks unchanged each.1,
)

-- it adds, marks and configures none
pub unchanged_by : (l : Limits) (f : Flat) (e : Entry) → Sound f → IsTrue (may l f e.0 e.1)
    → created f e.1 (step_of l f e.0 e.1).answer ≡ [] → ((number : ℕ) → marks f e.1 (step_of l f e.0 e.1).answer number ≡ false)
    → ((number : ℕ) → configures f e.1 (step_of l f e.0 e.1).answer number ≡ false)
    → unmarked (step_of l f e.0 e.1).flat.services ≡ unmarked f.services
unchanged_by l f e s ok none unmarks unchanged =
    let law = gives_leaving l f e s ok in
    let told = (step_of l f e.0 e.1).answer in
    let before = before_leaving l f e in
    let same : numbers before.services ≡ numbers f.services = law.stood ∙ ap (λ more. numbers f.services ++ more) none
    ∙ append-nil (numbers f.services) in
    let long : length before.services ≤ length f.services =
    (let a = length-map before.services (λ (row : Service). row.number) in let b = length-map f.services (λ (row : Service). row.number) in
    let c = ap length same in omega (arith, a, b, c)) in
    purged_unmarked before.handles before.services
    ∙ bare_unmarked f.services before.services
    (all_bare f e.1 told f.services before.services unmarks unchanged (subst (AllZip (IsSameService f e.1 told) f.services)
    (take_all (length f.services) before.services long) law.rows))

none_kept : (l : Limits) (f : Flat) (caller : ℕ) (asked : Request) (append : Kept) → change_of_call l f caller asked ≡ None
    → kept_change l f (Call caller asked append) ≡ None
none_kept l f caller asked appended.Kept none = none
none_kept l f caller asked appended.NotAsked none = refl
none_kept l f caller asked appended.Failed none = refl

quiet : (l : Limits) (f : Flat) (moment : ℕ) (step : Step) → kept_change l f step ≡ None
    → unmarked (step_of l f moment step).flat.services ≡ unmarked f.services
    → KeptBy f.services (kept_change l f step) (step_of l f moment step).flat.services
quiet l f moment step none same = subst (λ change. KeptBy f.services change (step_of l f moment step).flat.services) (sym none) same

-- ## Steps

of_call : (l : Limits) (f : Flat) (moment caller : ℕ) (asked : Request) (append : Kept) → Sound f
    → IsTrue (may l f moment (Call caller asked append))
    → KeptBy f.services (kept_change l f (Call caller asked append)) (step_of l f moment (Call caller asked append)).flat.services
of_call l f moment caller (request.Create new) append s ok =
    by_effect l f moment (Call caller (request.Create new) append) s ok (kept_created l f moment caller new append (and_parts _ _ ok).1)
of_call l f moment caller (request.Delete handle) append s ok =
    by_effect l f moment (Call caller (request.Delete handle) append) s ok (deleted l f moment caller handle append s (and_parts _ _ ok).1)
of_call l f moment caller (request.Change change) append s ok =
    by_effect l f moment (Call caller (request.Change change) append) s ok (changed l f moment caller change append s (and_parts _ _ ok).1)
of_call l f moment caller (request.Change2 handle level) append s ok =
    by_effect l f moment (Call caller (request.Change2 handle level) append) s ok
    (level_changed l f moment caller handle level append s (and_parts _ _ ok).1)
of_call l f moment caller asked append s ok =
    quiet l f moment (Call caller asked append) (none_kept l f caller asked append refl)
    (unchanged_by l f (moment, Call caller asked append) s ok refl (λ number. refl) (λ number. refl))

pub of_step : (l : Limits) (f : Flat) (moment : ℕ) (step : Step) → Sound f → IsTrue (may l f moment step)
    → KeptBy f.services (kept_change l f step) (step_of l f moment step).flat.services
of_step l f moment (Call caller asked append) s ok = of_call l f moment caller asked append s ok
of_step l f moment step s ok = quiet l f moment step refl (unchanged_by l f (moment, step) s ok refl (λ number. refl) (λ number. refl))

-- ## Runs

of_run : (l : Limits) (f : Flat) (es : List Entry) → Sound f → IsLegal l f es
    → unmarked (run_state l f es).services ≡ replayed (unmarked f.services) (kept_changes l f es)
unfolding kept_changes
of_run l f [] s legal = refl
of_run l f (e ∷ es) s legal =
    let g = (step_of l f e.0 e.1).flat in
    let one = one_or_none (kept_change l f e.1) in
    let rest = of_run l g es (keeps l f e s legal.0) legal.1 in
    let here = of_step l f e.0 e.1 s legal.0 in
    rest ∙ ap (λ (configs : List Config). replayed configs (kept_changes l g es)) here
    ∙ sym (replay_append (unmarked f.services) one (kept_changes l g es))

pub unmarked_kept : (l : Limits) (f : Flat) (es : List Entry) → Sound f → IsLegal l f es → UnmarkedAreKept l f es
unfolding state
unmarked_kept l f es s legal = of_run l f es s legal
