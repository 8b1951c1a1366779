-- What the step of a line needs to be made, and what making it keeps.
use Rattle.std.proofs.Common.{ℕ, ◌≡◌, ◌&&◌, Bool, true, false, refl, subst, sym}
use Rattle.std.specs.Prelude.{is_some}
use Rattle.scm_model.specs.Ranges.{in_range}
use Rattle.scm_model.specs.Rows.{is_caller}
use Rattle.scm_model.specs.declared.flat.Flat.{Flat}
use Rattle.scm_model.specs.declared.flat.Limits.{Limits}
use Rattle.scm_model.specs.declared.steps.Kept.{Kept}
use Rattle.scm_model.specs.declared.steps.Step.{Step}
use Rattle.scm_model.specs.declared.steps.Step.TheVariants.{Joined, Call, EndStart, LaunchTaken, Launched, LaunchFailed, Report, Ended}
use Rattle.scm_model.specs.declared.steps.Step.TheVariants.{ControlTaken, Tick, Raised, Gone, NoMemory}
use Rattle.scm_rules.specs.Steps.{may, may_come}
use Rattle.scm_model.specs.Texts.{text_of}
use Rattle.scm_rules.specs.Verdicts.{change_of, change_of_call, tells_right}
use Rattle.scm_replay.specs.Outcomes.{kept_as}
use Rattle.scm_model.specs.Entries.{with_kept}

both : (a b : Bool) → a ≡ true → b ≡ true → (a && b) ≡ true
both true b h e = e
both false b h e = absurd cc

told_rightly : (changes fails : Bool) → tells_right changes (kept_as changes fails) ≡ true
told_rightly false fails = refl
told_rightly true false = refl
told_rightly true true = refl

-- a step that may come may be made once it tells what became of its change
pub may_made : (l : Limits) (f : Flat) (moment : ℕ) (step : Step) (fails : Bool) → may_come l f moment step ≡ true
    → may l f moment (with_kept step (kept_as (is_some (change_of l f step)) fails)) ≡ true
may_made l f moment (Call caller asked append) fails h = both (is_caller f caller && in_range asked) _ h
    (told_rightly (is_some (change_of_call l f caller asked)) fails)
may_made l f moment (Joined principal) fails h = both _ true h refl
may_made l f moment (EndStart caller plan) fails h = both _ true h refl
may_made l f moment LaunchTaken fails h = both _ true h refl
may_made l f moment (Launched process pid) fails h = both _ true h refl
may_made l f moment (LaunchFailed process code) fails h = both _ true h refl
may_made l f moment (Report process service status) fails h = both _ true h refl
may_made l f moment (Ended process) fails h = both _ true h refl
may_made l f moment (ControlTaken process) fails h = both _ true h refl
may_made l f moment Tick fails h = both _ true h refl
may_made l f moment (Raised caller subtype) fails h = both _ true h refl
may_made l f moment (Gone caller) fails h = both _ true h refl
may_made l f moment (NoMemory caller) fails h = both _ true h refl

-- so it is in a manager that only made room
pub may_at : (l k : Limits) (f g : Flat) (moment : ℕ) (step : Step) (fails : Bool) → k ≡ l → g ≡ f → may_come l f moment step ≡ true
    → may k g moment (with_kept step (kept_as (is_some (change_of k g step)) fails)) ≡ true
may_at l k f g moment step fails limits flat h =
    may_made k g moment step fails
    (subst (λ m. may_come m g moment step ≡ true) (sym limits) (subst (λ x. may_come l x moment step ≡ true) (sym flat) h))

-- what became of a change has no text
pub same_text : (step : Step) (append : Kept) → text_of (with_kept step append) ≡ text_of step
same_text (Call caller asked told) append = refl
same_text (Joined principal) append = refl
same_text (EndStart caller plan) append = refl
same_text LaunchTaken append = refl
same_text (Launched process pid) append = refl
same_text (LaunchFailed process code) append = refl
same_text (Report process service status) append = refl
same_text (Ended process) append = refl
same_text (ControlTaken process) append = refl
same_text Tick append = refl
same_text (Raised caller subtype) append = refl
same_text (Gone caller) append = refl
same_text (NoMemory caller) append = refl
