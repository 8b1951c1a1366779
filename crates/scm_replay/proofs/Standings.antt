-- Where a manager stands behind a step that it made over the room for it.
use Rattle.std.proofs.Common.{ℕ, ◌≡◌, ◌+◌, ◌∙◌, Bool, true, false, not, if◌then◌else◌, ap, refl}
use Rattle.std.specs.Prelude.{is_some}
use Rattle.scm_model.specs.Entries.{with_kept}
use Rattle.scm_model.specs.Outcomes.{StepResult}
use Rattle.scm_model.specs.Texts.{text_of}
use Rattle.scm_model.specs.declared.flat.Flat.{Flat}
use Rattle.scm_model.specs.declared.flat.Limits.{Limits}
use Rattle.scm_model.specs.declared.steps.Kept.{Kept}
use Rattle.scm_model.specs.declared.steps.Step.{Step}
use Rattle.scm_rules.specs.Steps.{may_come, step_of}
use Rattle.scm_rules.specs.Verdicts.{change_of}
use Rattle.scm_replay.specs.Outcomes.{Standing, finds_room, kept_as, outcome_made, step_in, step_made, unmet}
use Rattle.scm_lines.specs.declared.line.Line.{Line}
use Rattle.scm_replay.specs.declared.outcome.Outcome.TheVariants.{Full}

chosen : {A : Type 0} (x y z : A) (a b : Bool) → a ≡ true → b ≡ true → (if not a then x else if not b then y else z) ≡ z
chosen x y z true true may room = refl
chosen x y z true false may room = absurd cc
chosen x y z false b may room = absurd cc

-- what a line's step comes to that may come and finds room
pub made_there : (l : Limits) (s : Standing) (line : Line) → may_come l s.flat line.moment line.step ≡ true
    → finds_room l s line.step ≡ true
    → outcome_made l s line ≡ step_made s line.step (step_of l s.flat line.moment (step_in l s.flat line))
unfolding outcome_made
made_there l s line may room =
    chosen (unmet line.step, s) (Full, s) (step_made s line.step (step_of l s.flat line.moment (step_in l s.flat line)))
    (may_come l s.flat line.moment line.step) (finds_room l s line.step) may room

-- a step is told the same where only room was made before it
pub told_over : (l k : Limits) (f g : Flat) (line : Line) (changes : Bool) (append : Kept) (step : Step) → k ≡ l → g ≡ f
    → changes ≡ is_some (change_of k g line.step) → append ≡ kept_as changes line.fails → step ≡ with_kept line.step append
    → step_of k g line.moment step ≡ step_of l f line.moment (step_in l f line)
told_over l k f g line changes append step limits flat changed kept is =
    let same : step ≡ step_in k g line = is ∙ ap (with_kept line.step) (kept ∙ ap (λ b. kept_as b line.fails) changed) in
    ap (step_of k g line.moment) same
    ∙ ap (λ (x : Limits). step_of x g line.moment (step_in x g line)) limits
    ∙ ap (λ (x : Flat). step_of l x line.moment (step_in l x line)) flat

-- a manager that has the state, the number and the text of a step stands where the step leaves it
pub stands_behind : (s t : Standing) (step : Step) (told : StepResult) → t.flat ≡ told.flat → t.steps ≡ s.steps + 1 → t.text ≡ s.text
    + text_of step
    → t ≡ (step_made s step told).1
stands_behind s t step told flat steps text =
    ap (λ (x : Flat). record { flat = x; steps = t.steps; text = t.text }) flat
    ∙ ap (λ (n : ℕ). record { flat = told.flat; steps = n; text = t.text }) steps
    ∙ ap (λ (n : ℕ). record { flat = told.flat; steps = s.steps + 1; text = n }) text
