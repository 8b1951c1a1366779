-- What a line results in at the point where a manager stands.
use Rattle.std.specs.Prelude.{ℕ, Bool, true, false, not, ◌&&◌, ◌||◌, ◌==◌, ◌+◌, is_none, is_some, max, List, Option, None, Some}
use Rattle.std.specs.Prelude.{if◌then◌else◌}
use Rattle.std.specs.List.{list_any}
use Rattle.scm_model.specs.declared.flat.Flat.{Flat}
use Rattle.scm_model.specs.declared.flat.Limits.{Limits}
use Rattle.scm_model.specs.declared.steps.Answer.{Answer}
use Rattle.scm_model.specs.declared.steps.Answer.TheVariants as answers
use Rattle.scm_model.specs.declared.steps.Kept.{Kept}
use Rattle.scm_model.specs.declared.steps.Kept.TheVariants as appended
use Rattle.scm_model.specs.declared.steps.Step.{Step}
use Rattle.scm_model.specs.declared.steps.Step.TheVariants.{Joined, EndStart, LaunchTaken, ControlTaken, Tick}
use Rattle.scm_model.specs.Entries.{with_kept}
use Rattle.scm_model.specs.Outcomes.{StepResult}
use Rattle.scm_model.specs.Processes.{is_shared, process_of}
use Rattle.scm_model.specs.Texts.{text_of}
use Rattle.start_plan.specs.Decided.{plan_caller, code_of}
use Rattle.scm_rules.specs.Controls.{waiting}
use Rattle.scm_rules.specs.Room.{has_room, is_owed}
use Rattle.scm_rules.specs.Due.{is_due}
use Rattle.scm_rules.specs.Steps.{wants_launch, may_come, step_of}
use Rattle.scm_rules.specs.Verdicts.{change_of}
use Rattle.scm_core.specs.Managed.{Managed}
use Rattle.scm_lines.specs.declared.line.Line.{Line}
use Rattle.scm_replay.specs.declared.missed.Missed.{Missed}
use Rattle.scm_replay.specs.declared.missed.Missed.TheVariants.{Again, Empty, Over, Idle}
use Rattle.scm_replay.specs.declared.outcome.Outcome.{Outcome}
use Rattle.scm_replay.specs.declared.outcome.Outcome.TheVariants.{Answered, Handed, InVain, TooMany, Full, Bad}
use Rattle.scm_lines.specs.Lines.{line_at}

-- where a manager stands: its state, how many steps were made, and how much text they had
pub record Standing : Type 0 where
  pub flat : Flat
  pub steps : ℕ
  pub text : ℕ

abbrev pub standing : Managed → Standing
standing m = record { flat = m.flat; steps = m.steps; text = m.text }

-- ## Looks

-- a plan is there and undecided, whichever caller looks
abbrev pub is_awaited : Flat → ℕ → Bool
is_awaited f plan = is_some (plan_caller f.plans plan) && is_none (code_of f.plans plan)

abbrev pub when : Bool → Missed → Option Missed
when lacking missed = if lacking then Some missed else None

-- nothing is taken of a process that isn't listed, or to which nothing is sent
abbrev pub missed_control : Option ℕ → Option Missed
missed_control None = Some Over
missed_control (Some most) = when (most == 0) Empty

-- what a step that only looks doesn't find; a tick looks at the greater of the two moments
abbrev pub missed_by : Flat → ℕ → Step → Option Missed
missed_by f moment (EndStart caller plan) = when (is_awaited f plan) Again
missed_by f moment LaunchTaken = when (not (wants_launch f.wanted)) Empty
missed_by f moment (ControlTaken process) = missed_control (waiting f process)
missed_by f moment Tick = when (not (list_any (is_due (max f.moment moment)) f.dues)) Idle
missed_by f moment step = None

-- ## Steps

-- what becomes of a change, where there is one: it is kept unless its append fails
abbrev pub kept_as : (changes fails : Bool) → Kept
kept_as false fails = appended.NotAsked
kept_as true false = appended.Kept
kept_as true true = appended.Failed

-- the step that a line makes in a state
abbrev pub step_in : Limits → Flat → Line → Step
step_in l f line = with_kept line.step (kept_as (is_some (change_of l f line.step)) line.fails)

-- A step that may not come makes the line bad, but for a join: there are as many callers as may be.
abbrev pub unmet : Step → Outcome
unmet (Joined principal) = TooMany
unmet step = Bad

-- a step that is owed was counted before; each other one has to find room
abbrev pub finds_room : Limits → Standing → Step → Bool
finds_room l s step = is_owed step || has_room l s.flat s.steps s.text step

-- whether the process whose order a step takes is shared
abbrev pub is_shared_by : Flat → Step → Bool
is_shared_by f (ControlTaken process) = is_shared (process_of f process)
is_shared_by f step = false

-- an order comes with whether its process is shared
abbrev pub outcome_by : Bool → Answer → Outcome
outcome_by shared (answers.Control order) = Handed order shared
outcome_by shared answer = Answered answer

-- the step was made
abbrev pub step_made : Standing → Step → StepResult → Outcome × Standing
step_made s step done = (
  outcome_by (is_shared_by s.flat step) done.answer,
  record { flat = done.flat; steps = s.steps + 1; text = s.text + text_of step },
)

-- what the step of a line results in that isn't a look in vain, and where the manager stands after it
unfoldable pub outcome_made : Limits → Standing → Line → Outcome × Standing
outcome_made l s line =
    if not (may_come l s.flat line.moment line.step) then (unmet line.step, s)
    else if not (finds_room l s line.step) then (Full, s)
    else step_made s line.step (step_of l s.flat line.moment (step_in l s.flat line))

-- a look in vain makes no step, and leaves the state and its moment
abbrev pub unless_missed : Standing → Option Missed → Outcome × Standing → Outcome × Standing
unless_missed s None made = made
unless_missed s (Some missed) made = (InVain missed, s)

-- ## Lines

-- what a line that was read results in, and where the manager stands after it
abbrev pub outcome_in : Limits → Standing → Line → Outcome × Standing
outcome_in l s line = unless_missed s (missed_by s.flat line.moment line.step) (outcome_made l s line)

-- what a line results in, or a text that is none
abbrev pub outcome_of : Limits → Standing → Option Line → Outcome × Standing
outcome_of l s None = (Bad, s)
outcome_of l s (Some line) = outcome_in l s line

abbrev pub outcome_at : Limits → Standing → List ℕ → Outcome × Standing
outcome_at l s text = outcome_of l s (line_at text)

-- a bad line ends it all
abbrev pub goes_on : Outcome → Bool
goes_on Bad = false
goes_on other = true
