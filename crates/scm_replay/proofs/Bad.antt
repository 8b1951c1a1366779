-- A bad line changes nothing.
use Rattle.std.proofs.Common.{ℕ, ◌≡◌, List, Bool, true, false, cond, None, Some, refl}
use Rattle.std.specs.Prelude.{Option, not}
use Rattle.scm_model.specs.declared.flat.Limits.{Limits}
use Rattle.scm_model.specs.declared.steps.Answer.{Answer}
use Rattle.scm_model.specs.declared.steps.Answer.TheVariants as answers
use Rattle.scm_rules.specs.Steps.{may_come, step_of}
use Rattle.scm_lines.specs.declared.line.Line.{Line}
use Rattle.scm_replay.specs.declared.missed.Missed.{Missed}
use Rattle.scm_replay.specs.declared.outcome.Outcome.{Outcome}
use Rattle.scm_replay.specs.declared.outcome.Outcome.TheVariants.{Full}
use Rattle.scm_lines.specs.Lines.{line_at}
use Rattle.scm_replay.specs.Outcomes.{Standing, step_made, finds_room, goes_on, is_shared_by, outcome_by, outcome_made, outcome_at}
use Rattle.scm_replay.specs.Outcomes.{outcome_of, step_in, unless_missed, unmet}

either : (may finds : Bool) (s : Standing) (first second : Outcome) (made : Outcome × Standing) → goes_on made.0 ≡ true
    → goes_on (cond may (first, s) (cond finds (second, s) made)).0 ≡ false → (cond may (first, s) (cond finds (second, s) made)).1 ≡ s
either true finds s first second made good bad = refl
either false true s first second made good bad = refl
either false false s first second made good bad = absurd cc

-- a step that was made makes no line bad
made_good : (shared : Bool) (answer : Answer) → goes_on (outcome_by shared answer) ≡ true
made_good shared (answers.Control order) = refl
made_good shared answer = refl

bad_made : (l : Limits) (s : Standing) (line : Line) → goes_on (outcome_made l s line).0 ≡ false → (outcome_made l s line).1 ≡ s
unfolding outcome_made
bad_made l s line bad =
    either (not (may_come l s.flat line.moment line.step)) (not (finds_room l s line.step)) s (unmet line.step) Full
    (step_made s line.step (step_of l s.flat line.moment (step_in l s.flat line)))
    (made_good (is_shared_by s.flat line.step) (step_of l s.flat line.moment (step_in l s.flat line)).answer) bad

bad_found : (missed : Option Missed) (s : Standing) (made : Outcome × Standing) → (goes_on made.0 ≡ false → made.1 ≡ s)
    → goes_on (unless_missed s missed made).0 ≡ false → (unless_missed s missed made).1 ≡ s
bad_found None s made h bad = h bad
bad_found (Some missed) s made h bad = refl

bad_of : (l : Limits) (s : Standing) (line : Option Line) → goes_on (outcome_of l s line).0 ≡ false → (outcome_of l s line).1 ≡ s
bad_of l s None bad = refl
bad_of l s (Some line) bad = bad_found _ s (outcome_made l s line) (bad_made l s line) bad

pub bad_at : (l : Limits) (s : Standing) (text : List ℕ) → goes_on (outcome_at l s text).0 ≡ false → (outcome_at l s text).1 ≡ s
bad_at l s text bad = bad_of l s (line_at text) bad
