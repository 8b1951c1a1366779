-- The kept changes of a legal history can be replayed, one after another.
use Rattle.std.proofs.Common.{ℕ, ◌≡◌, ◌≤◌, true, IsTrue, List, [], ◌∷◌, ◌++◌, Option, None, Some, sym, refl, subst}
use Rattle.std.specs.Prelude.{IfSome, is_some}
use Rattle.std.proofs.lemmas.Bool.{and_from, and_parts}
use Rattle.scm_model.specs.declared.flat.Config.{Config}
use Rattle.scm_model.specs.declared.flat.Flat.{Flat}
use Rattle.scm_model.specs.declared.flat.Limits.{Limits}
use Rattle.scm_model.specs.declared.steps.Change.{Change}
use Rattle.scm_model.specs.declared.steps.Kept.TheVariants as appended
use Rattle.scm_model.specs.declared.steps.Step.{Step}
use Rattle.scm_model.specs.declared.steps.Step.TheVariants.{Call}
use Rattle.scm_model.specs.Entries.{Entry}
use Rattle.record_journal.specs.Entries.{can_replay}
use Rattle.record_journal.specs.Format.{HasEntry}
use Rattle.record_journal.specs.ReadBack.{AreReplayable}
use Rattle.scm_rules.specs.Runs.{IsLegal, run_state}
use Rattle.scm_rules.specs.Steps.{may, step_of}
use Rattle.scm_rules.specs.Verdicts.{change_of, change_of_call, tells_right}
use Rattle.scm_history.specs.Kept.{kept_change, kept_changes, one_or_none}
use Rattle.scm_runs.proofs.Calls.{keeps}
use Rattle.scm_runs.proofs.Founds.{found_all}
use Rattle.scm_runs.proofs.Sound.{Sound}
use Rattle.scm_kept.specs.Replayed.{replayed, unmarked}
use Rattle.scm_kept.specs.Fitting.{AllFit, FitsStep}
use Rattle.scm_kept.proofs.Fine.{AreFine, can, fine_state}
use Rattle.scm_kept.proofs.Places.{IsPlaced, call_placed}
use Rattle.scm_kept.proofs.Runs.{of_step}
use Rattle.scm_kept.proofs.UnitsKept.{HaveUnits, units_kept}

-- it has an entry, and can be replayed over these
abbrev pub IsReplayable : List Config → Change → Type 0
IsReplayable configs change = HasEntry change × (can_replay configs change ≡ true)

pub if_weaker : {A : Type 0} (P Q : A → Type 0) (found : Option A) → ((x : A) → P x → Q x) → IfSome found P → IfSome found Q
if_weaker P Q None weaker h = tt
if_weaker P Q (Some x) weaker h = weaker x h

-- ## One step

kept_placed : (l : Limits) (f : Flat) (step : Step) → l.services ≤ 1024 → Sound f → FitsStep step → HaveUnits f.services
    → IfSome (kept_change l f step) (IsPlaced f)
kept_placed l f (Call caller asked appended.Kept) few s fits each = call_placed l f caller asked few s fits each
kept_placed l f (Call caller asked appended.NotAsked) few s fits each = tt
kept_placed l f (Call caller asked appended.Failed) few s fits each = tt
kept_placed l f step few s fits each = tt

one_can : (f : Flat) (now : List Config) (change : Option Change) → now ≡ replayed (unmarked f.services) (one_or_none change)
    → AreFine now
    → IfSome change (IsPlaced f) → IfSome change (IsReplayable (unmarked f.services))
one_can f now None is fine placed = tt
one_can f now (Some change) is fine placed = (placed.entry, can (unmarked f.services) change (subst AreFine is fine) placed.place)

step_can : (l : Limits) (f : Flat) (moment : ℕ) (step : Step) → l.services ≤ 1024 → Sound f → IsTrue (may l f moment step) → FitsStep step
    → HaveUnits f.services
    → IfSome (kept_change l f step) (IsReplayable (unmarked f.services))
step_can l f moment step few s ok fits each =
    let after = (step_of l f moment step).flat in
    one_can f (unmarked after.services) (kept_change l f step) (of_step l f moment step s ok)
    (fine_state after (keeps l f (moment, step) s ok)) (kept_placed l f step few s fits each)

-- whatever became of its append, the change of a step that may be made can be replayed
pub next_can : (l : Limits) (f : Flat) (moment : ℕ) (step : Step) → l.services ≤ 1024 → Sound f → IsTrue (may l f moment step)
    → FitsStep step → HaveUnits f.services
    → IfSome (change_of l f step) (IsReplayable (unmarked f.services))
next_can l f moment (Call caller asked append) few s ok fits each =
    let change = change_of_call l f caller asked in
    found_all (λ (found : Option Change). IfSome found (IsReplayable (unmarked f.services))) change tt (λ one is.
    let tells : tells_right (is_some change) appended.Kept ≡ true = subst
    (λ (o : Option Change). tells_right (is_some o) appended.Kept ≡ true) (sym is) refl in
    let kept = step_can l f moment (Call caller asked appended.Kept) few s (and_from _ _ (and_parts _ _ ok).0 tells) fits each in
    subst (λ (o : Option Change). IfSome o (IsReplayable (unmarked f.services))) is kept)
next_can l f moment step few s ok fits each = tt

-- ## A run

behind : (configs : List Config) (change : Option Change) (changes : List Change) → IfSome change (IsReplayable configs)
    → AreReplayable (replayed configs (one_or_none change)) changes
    → AreReplayable configs (one_or_none change ++ changes)
behind configs None changes one rest = rest
behind configs (Some change) changes one rest = (one.0, one.1, rest)

pub run_can : (l : Limits) (f : Flat) (es : List Entry) → l.services ≤ 1024 → Sound f → IsLegal l f es → AllFit es → HaveUnits f.services
    → AreReplayable (unmarked f.services) (kept_changes l f es)
unfolding kept_changes
run_can l f [] few s legal fits each = tt
run_can l f (e ∷ es) few s legal fits each =
    let after = (step_of l f e.0 e.1).flat in
    let rest = run_can l after es few (keeps l f e s legal.0) legal.1 fits.1 (units_kept l f e.0 e.1 s legal.0 fits.0 each) in
    behind (unmarked f.services) (kept_change l f e.1) (kept_changes l after es) (step_can l f e.0 e.1 few s legal.0 fits.0 each)
    (subst (λ (configs : List Config). AreReplayable configs (kept_changes l after es)) (of_step l f e.0 e.1 s legal.0) rest)

-- the state that a run ends in
pub record HasEnded (l : Limits) (f : Flat) (es : List Entry) : Type 0 where
  pub sound : Sound (run_state l f es)
  pub units : HaveUnits (run_state l f es).services

pub run_ends : (l : Limits) (f : Flat) (es : List Entry) → Sound f → IsLegal l f es → AllFit es → HaveUnits f.services → HasEnded l f es
run_ends l f [] s legal fits each = record { sound = s; units = each }
run_ends l f (e ∷ es) s legal fits each =
    let rest = run_ends l (step_of l f e.0 e.1).flat es (keeps l f e s legal.0) legal.1 fits.1
    (units_kept l f e.0 e.1 s legal.0 fits.0 each) in
    record { sound = rest.sound; units = rest.units }
