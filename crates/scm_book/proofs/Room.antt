-- What the room of a step comes to, and what doesn't hang on what it tells of its change.
use Rattle.std.proofs.Common.{ℕ, ◌≡◌, ◌+◌, ◌≤◌, ◌&&◌, Bool, true, false, not, Option, None, Some, refl, ap}
use Rattle.std.specs.Prelude.{is_some}
use Rattle.std.proofs.lemmas.Bool.{and_parts, leb-true}
use Rattle.scm_model.specs.declared.flat.Flat.{Flat}
use Rattle.scm_model.specs.declared.flat.Limits.{Limits}
use Rattle.scm_model.specs.declared.steps.Change.{Change}
use Rattle.scm_model.specs.declared.steps.Kept.{Kept}
use Rattle.scm_model.specs.declared.steps.Kept.TheVariants as appended
use Rattle.scm_model.specs.declared.steps.Step.{Step}
use Rattle.scm_model.specs.declared.steps.Step.TheVariants.{Joined, Call, Raised, Tick}
use Rattle.scm_model.specs.Entries.{unkept, with_kept}
use Rattle.scm_model.specs.Texts.{text_of}
use Rattle.scm_rules.specs.Owed.{owed}
use Rattle.scm_rules.specs.Room.{has_room, is_owed, need}
use Rattle.scm_rules.specs.Steps.{keeps_right, may_come}
use Rattle.scm_rules.specs.Verdicts.{change_of}
use Rattle.scm_core.specs.Managed.{WasMadeFor}
use Rattle.scm_trail.specs.Notes.{is_brief}
use Rattle.scm_book.specs.declared.held.Owed.{Owed}
use Rattle.scm_book.specs.declared.held.Owed.TheVariants as owes
use Rattle.scm_history.specs.Outcomes.{no_outcome, outcome_in}
use Rattle.scm_book.specs.Holds.{one_failed}
use Rattle.scm_book.specs.Naming.{all_names}
use Rattle.scm_book.specs.Steps.{owed_step}

pub room_steps : (l : Limits) (f : Flat) (steps text : ℕ) (step : Step) → has_room l f steps text step ≡ true → steps + owed f
    + need f step ≤ l.steps
room_steps l f steps text step has = leb-true (steps + owed f + need f step) l.steps (and_parts _ _ has).0

pub room_text : (l : Limits) (f : Flat) (steps text : ℕ) (step : Step) → has_room l f steps text step ≡ true → text + text_of step ≤ l.text
room_text l f steps text step has = leb-true (text + text_of step) l.text (and_parts _ _ has).1

pub and_both : (a b : Bool) → a ≡ true → b ≡ true → (a && b) ≡ true
and_both true b is there = there
and_both false b is there = absurd cc

-- ## With what became of its change

pub text_kept : (step : Step) (now : Kept) → text_of (with_kept step now) ≡ text_of step
text_kept (Call caller asked append) now = refl
text_kept step now = refl

pub come_kept : (l : Limits) (f : Flat) (moment : ℕ) (step : Step) (now : Kept)
    → may_come l f moment (with_kept step now) ≡ may_come l f moment step
come_kept l f moment (Call caller asked append) now = refl
come_kept l f moment step now = refl

pub has_kept : (l : Limits) (f : Flat) (steps text : ℕ) (step : Step) (now : Kept)
    → has_room l f steps text (with_kept step now) ≡ has_room l f steps text step
has_kept l f steps text (Call caller asked append) now = refl
has_kept l f steps text step now = refl

pub named_kept : (step : Step) (now : Kept) → all_names (with_kept step now) ≡ all_names step
named_kept (Call caller asked append) now = refl
named_kept step now = refl

pub made_kept : (room : Option Step) (step : Step) (now : Kept) → WasMadeFor room step → WasMadeFor room (with_kept step now)
made_kept room (Call caller asked append) now made = made
made_kept room (Joined principal) now made = made
made_kept room Tick now made = made
made_kept room (Raised caller subtype) now made = made
made_kept room step now made = tt

pub prepared_for : (room : Option Step) (step : Step) → room ≡ Some (unkept step) → WasMadeFor room step
prepared_for room (Call caller asked append) is = is
prepared_for room (Joined principal) is = is
prepared_for room Tick is = is
prepared_for room (Raised caller subtype) is = is
prepared_for room step is = tt

-- a step that makes no change tells of none
pub right_none : (l : Limits) (f : Flat) (step : Step) → change_of l f step ≡ None
    → keeps_right l f (with_kept step appended.NotAsked) ≡ true
right_none l f (Call caller asked append) none = ap (λ (change : Option Change). not (is_some change)) none
right_none l f step none = refl

-- and one that makes one tells what became of it
pub right_kept : (l : Limits) (f : Flat) (step : Step) (change : Change) → change_of l f step ≡ Some change
    → keeps_right l f (with_kept step appended.Kept) ≡ true
right_kept l f (Call caller asked append) change is = ap (λ (change : Option Change). is_some change) is
right_kept l f step change is = absurd cc

pub right_failed : (l : Limits) (f : Flat) (step : Step) (change : Change) → change_of l f step ≡ Some change
    → keeps_right l f (with_kept step appended.Failed) ≡ true
right_failed l f (Call caller asked append) change is = ap (λ (change : Option Change). is_some change) is
right_failed l f step change is = absurd cc

-- ## Owed steps

pub owed_text : (o : Owed) → text_of (owed_step o) ≡ 0
owed_text (owes.EndStart caller plan) = refl
owed_text owes.LaunchTaken = refl
owed_text (owes.Launched process pid) = refl
owed_text (owes.LaunchFailed process code) = refl
owed_text (owes.Ended process) = refl
owed_text (owes.Gone caller) = refl

pub owed_brief : (o : Owed) → is_brief (owed_step o) ≡ true
owed_brief (owes.EndStart caller plan) = refl
owed_brief owes.LaunchTaken = refl
owed_brief (owes.Launched process pid) = refl
owed_brief (owes.LaunchFailed process code) = refl
owed_brief (owes.Ended process) = refl
owed_brief (owes.Gone caller) = refl

pub owed_right : (l : Limits) (f : Flat) (o : Owed) → keeps_right l f (owed_step o) ≡ true
owed_right l f (owes.EndStart caller plan) = refl
owed_right l f owes.LaunchTaken = refl
owed_right l f (owes.Launched process pid) = refl
owed_right l f (owes.LaunchFailed process code) = refl
owed_right l f (owes.Ended process) = refl
owed_right l f (owes.Gone caller) = refl

pub owed_made : (room : Option Step) (o : Owed) → WasMadeFor room (owed_step o)
owed_made room (owes.EndStart caller plan) = tt
owed_made room owes.LaunchTaken = tt
owed_made room (owes.Launched process pid) = tt
owed_made room (owes.LaunchFailed process code) = tt
owed_made room (owes.Ended process) = tt
owed_made room (owes.Gone caller) = tt

pub owed_is : (o : Owed) → is_owed (owed_step o) ≡ true
owed_is (owes.EndStart caller plan) = refl
owed_is owes.LaunchTaken = refl
owed_is (owes.Launched process pid) = refl
owed_is (owes.LaunchFailed process code) = refl
owed_is (owes.Ended process) = refl
owed_is (owes.Gone caller) = refl

pub owed_faults : (o : Owed) → one_failed (owed_step o) ≡ 0
owed_faults (owes.EndStart caller plan) = refl
owed_faults owes.LaunchTaken = refl
owed_faults (owes.Launched process pid) = refl
owed_faults (owes.LaunchFailed process code) = refl
owed_faults (owes.Ended process) = refl
owed_faults (owes.Gone caller) = refl

pub owed_changes : (l : Limits) (f : Flat) (o : Owed) → outcome_in l f (owed_step o) ≡ no_outcome
owed_changes l f (owes.EndStart caller plan) = refl
owed_changes l f owes.LaunchTaken = refl
owed_changes l f (owes.Launched process pid) = refl
owed_changes l f (owes.LaunchFailed process code) = refl
owed_changes l f (owes.Ended process) = refl
owed_changes l f (owes.Gone caller) = refl
