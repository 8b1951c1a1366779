-- The state in which a replay leaves a manager is one of a run.
use Rattle.std.proofs.Common.{inl, inr, ℕ, ◌≡◌, Bool, true, false, not, if◌then◌else◌, List, [], ◌∷◌, refl, subst, sym}
use Rattle.std.specs.Prelude.{◌⊎◌, Option, None, Some}
use Rattle.scm_model.specs.declared.flat.Limits.{Limits}
use Rattle.scm_rules.specs.Opening.{IsOpening}
use Rattle.scm_rules.specs.Steps.{may_come, step_of}
use Rattle.scm_rules.specs.Valid.{IsValid}
use Rattle.scm_runs.proofs.Clear.{Clear, clear_begun, clear_keeps, is_valid_clear}
use Rattle.scm_lines.specs.declared.line.Line.{Line}
use Rattle.scm_replay.specs.declared.missed.Missed.{Missed}
use Rattle.scm_replay.specs.declared.outcome.Outcome.{Outcome}
use Rattle.scm_replay.specs.declared.outcome.Outcome.TheVariants.{Full}
use Rattle.scm_replay.specs.declared.replayed.Replayed.{Replayed}
use Rattle.scm_replay.specs.declared.replayed.Replayed.TheVariants as ended
use Rattle.scm_replay.specs.Outcomes.{Standing, finds_room, goes_on, outcome_at, outcome_made, outcome_of, step_in, step_made}
use Rattle.scm_replay.specs.Outcomes.{unless_missed, unmet}
use Rattle.scm_replay.proofs.Admitted.{may_made}
use Rattle.scm_replay.specs.Replay.{IsReplayed, ReachedLine, Told, replay_told, replayed_from, told_from}

-- one of three, of which the last needs both
one_of : (l : Limits) (x y z : Outcome × Standing) (a b : Bool) → Clear l x.1.flat → Clear l y.1.flat → (a ≡ true → Clear l z.1.flat)
    → Clear l (if not a then x else if not b then y else z).1.flat
one_of l x y z true true first second third = third refl
one_of l x y z true false first second third = second
one_of l x y z false b first second third = first

-- the step of a line that isn't a look in vain
of_made : (l : Limits) (s : Standing) (line : Line) → Clear l s.flat → Clear l (outcome_made l s line).1.flat
unfolding outcome_made
of_made l s line clear =
    one_of l (unmet line.step, s) (Full, s) (step_made s line.step (step_of l s.flat line.moment (step_in l s.flat line)))
    (may_come l s.flat line.moment line.step) (finds_room l s line.step) clear clear
    (λ may. clear_keeps l s.flat (line.moment, step_in l s.flat line) clear (may_made l s.flat line.moment line.step line.fails may))

of_look : (l : Limits) (s : Standing) (missed : Option Missed) (made : Outcome × Standing) → Clear l s.flat → Clear l made.1.flat
    → Clear l (unless_missed s missed made).1.flat
of_look l s None made before after = after
of_look l s (Some missed) made before after = before

of_line : (l : Limits) (s : Standing) (line : Option Line) → Clear l s.flat → Clear l (outcome_of l s line).1.flat
of_line l s None clear = clear
of_line l s (Some line) clear = of_look l s _ _ clear (of_made l s line clear)

either : (l : Limits) (b : Bool) (x y : Told) → Clear l x.at.flat → Clear l y.at.flat → Clear l (if b then x else y).at.flat
either l true x y first second = first
either l false x y first second = second

of_lines : (l : Limits) (s : Standing) (number : ℕ) (lines : List (List ℕ)) → Clear l s.flat → Clear l (told_from l s number lines).at.flat
unfolding told_from
of_lines l s number [] clear = clear
of_lines l s number (rest ∷ []) clear = clear
of_lines l s number (line ∷ next ∷ more) clear =
    let made = of_line l s _ clear in
    either l (goes_on (outcome_at l s line).0) _ _ (of_lines l (outcome_at l s line).1 _ (next ∷ more) made) made

of_text : (l : Limits) (s : Standing) (input : List ℕ) → Clear l s.flat → Clear l (replay_told l s input).at.flat
unfolding replayed_from
of_text l s input clear = of_lines l s 1 _ clear

-- where a line is left, its step was made or not
left_at : (l : Limits) (s now : Standing) (before after : List ℕ) → Clear l s.flat
    → (now ≡ (replay_told l s before).at) ⊎ (now ≡ (replay_told l s after).at) → Clear l now.flat
left_at l s now before after clear (inl is) = subst (λ (x : Standing). Clear l x.flat) (sym is) (of_text l s before clear)
left_at l s now before after clear (inr is) = subst (λ (x : Standing). Clear l x.flat) (sym is) (of_text l s after clear)

-- wherever it ends
of_end : (l : Limits) (s now : Standing) (how : Replayed) (read : List ℕ) (left : Option (List ℕ)) (written : List ℕ) → Clear l s.flat
    → ReachedLine l s now how read left written → Clear l now.flat
of_end l s now ended.Ended read left written clear reached = subst (λ (t : Told). Clear l t.at.flat) reached.2 (of_text l s read clear)
of_end l s now ended.Truncated read left written clear reached = subst (λ (t : Told). Clear l t.at.flat) reached.2 (of_text l s read clear)
of_end l s now ended.BadLine read left written clear bad =
    subst (λ (x : Standing). Clear l x.flat) (sym bad.as_before) (of_text l s bad.answered clear)
of_end l s now ended.ReadFault read left written clear reached =
    subst (λ (x : Standing). Clear l x.flat) (sym reached.1.at) (of_text l s read clear)
of_end l s now ended.Worn read left written clear reached =
    subst (λ (x : Standing). Clear l x.flat) (sym reached.1.at) (of_text l s read clear)
of_end l s now ended.WriteFault read left written clear cut =
    subst (λ (x : Standing). Clear l x.flat) (sym cut.at) (of_text l s _ clear)
of_end l s now ended.OutOfMemory read left written clear over =
    left_at l s now _ _ clear over.at

-- a manager that began with an opening
pub replayed_validly : (l : Limits) (s now : Standing) (left left_now held held_now : Option (List ℕ)) (how : Replayed) → IsOpening l s.flat
    → IsReplayed l s now left left_now held held_now how → IsValid l now.flat
replayed_validly l s now left left_now held held_now how begins replayed =
    is_valid_clear l now.flat (of_end l s now how replayed.read left_now replayed.written (clear_begun l s.flat begins) replayed.reached)
