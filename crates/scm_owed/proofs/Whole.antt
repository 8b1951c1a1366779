-- A whole step, and a whole history.
use Rattle.std.proofs.Common.{ℕ, ◌≡◌, ◌≤◌, ◌+◌, ◌⊎◌, IsTrue, true, false, not, List, [], ◌∷◌, Option, None, Some, length, inl, inr, refl}
use Rattle.std.proofs.Common.{ap, arith}
use Rattle.scm_model.specs.declared.flat.Flat.{Flat}
use Rattle.scm_model.specs.declared.flat.Limits.{Limits}
use Rattle.scm_model.specs.declared.flat.Plan.{Plan}
use Rattle.scm_model.specs.declared.steps.Answer.{Answer}
use Rattle.scm_model.specs.declared.steps.Answer.TheVariants as answer
use Rattle.scm_model.specs.declared.steps.Step.{Step}
use Rattle.scm_model.specs.declared.steps.Step.TheVariants.{Joined, Call, EndStart, LaunchTaken, Launched, LaunchFailed, Report, Ended}
use Rattle.scm_model.specs.declared.steps.Step.TheVariants.{ControlTaken, Tick, Raised, Gone, NoMemory}
use Rattle.start_plan.specs.Decided.{code_of, is_numbered}
use Rattle.start_plan.specs.Settle.{settled}
use Rattle.scm_rules.specs.Runs.{IsLegal, run_state}
use Rattle.scm_model.specs.Entries.{Entry}
use Rattle.scm_rules.specs.Steps.{at_moment, effect_of, finished, left_by, may, step_of}
use Rattle.scm_model.specs.Texts.{text_of}
use Rattle.scm_runs.proofs.Along.{Gives}
use Rattle.scm_runs.proofs.Sound.{Sound}
use Rattle.scm_rules.specs.Owed.{owed}
use Rattle.scm_owed.specs.Paying.{FoundRoom, LawOfOwed}
use Rattle.scm_rules.specs.Room.{debt, has_room, is_owed, need}
use Rattle.scm_rules.specs.Opening.{IsOpening}
use Rattle.std.proofs.lemmas.Bool.{leb-true, and_parts}
use Rattle.scm_owed.proofs.Effects.{debt_most, debt_owed, effects_owe}
use Rattle.scm_owed.proofs.Payments.{owed_steps_pay}
use Rattle.scm_owed.proofs.Settling.{kept_owes, settles_owed}
use Rattle.scm_runs.proofs.Clear.{Clear, clear_keeps}

left_owes : (f : Flat) (plan : ℕ) (code : Option ℕ) → owed (left_by f plan code) ≤ owed f
left_owes f plan None = omega arith
left_owes f plan (Some code) = let kept = kept_owes (λ (row : Plan). not (is_numbered plan row)) f.plans in omega (arith, kept)

finished_owes : (f : Flat) (told : Answer) → owed (finished f told).flat ≤ owed f
finished_owes f (answer.Begun plan) = left_owes f plan (code_of f.plans plan)
finished_owes f (answer.Caller number) = omega arith
finished_owes f (answer.Reply told) = omega arith
finished_owes f (answer.Launch process) = omega arith
finished_owes f (answer.Control code) = omega arith
finished_owes f (answer.Refused code) = omega arith
finished_owes f answer.Stale = omega arith
finished_owes f answer.Done = omega arith

-- what comes behind the effect makes nothing owed
after_effect : (l : Limits) (f : Flat) (moment : ℕ) (step : Step) → owed (step_of l f moment step).flat ≤ owed
    (effect_of l (at_moment f moment step) step).flat
after_effect l f moment step =
    let done = effect_of l (at_moment f moment step) step in
    let settles = settles_owed l done.flat in
    let finishes = finished_owes (settled l done.flat) done.answer in
    omega (arith, settles, finishes)

-- the moment is not counted
same_at : (f : Flat) (moment : ℕ) (step : Step) → (owed (at_moment f moment step) ≡ owed f)
    × (debt (at_moment f moment step) step ≡ debt f step)
same_at f moment (NoMemory caller) = (refl, refl)
same_at f moment (Joined principal) = (refl, refl)
same_at f moment (Call caller asked append) = (refl, refl)
same_at f moment (EndStart caller plan) = (refl, refl)
same_at f moment LaunchTaken = (refl, refl)
same_at f moment (Launched process pid) = (refl, refl)
same_at f moment (LaunchFailed process code) = (refl, refl)
same_at f moment (Report process service status) = (refl, refl)
same_at f moment (Ended process) = (refl, refl)
same_at f moment (ControlTaken process) = (refl, refl)
same_at f moment Tick = (refl, refl)
same_at f moment (Raised caller subtype) = (refl, refl)
same_at f moment (Gone caller) = (refl, refl)

pub step_pays : (l : Limits) (f : Flat) (moment : ℕ) (step : Step) → Sound f → may l f moment step ≡ true
    → owed (step_of l f moment step).flat + 1 ≤ owed f + debt f step
step_pays l f moment step s ok =
    let rest = after_effect l f moment step in
    let same = same_at f moment step in
    elim (is_owed step) as (λ b. is_owed step ≡ b → owed (step_of l f moment step).flat + 1 ≤ owed f + debt f step) [
      | true ↦ λ e. let pays = owed_steps_pay l f moment step s ok e in omega (arith, rest, pays)
      | false ↦ λ e. let owes = effects_owe l (at_moment f moment step) step e in let a = same.0 in let b = same.1 in
          omega (arith, rest, owes, a, b)
    ] refl

pub gives : (l : Limits) → Gives (Clear l) LawOfOwed l
gives l f e c ok = record { pays = step_pays l f e.0 e.1 c.sound ok; fits = λ asked. debt_most f e.1 c.bounded.once }

-- nothing is owed in the beginning
pub opened_owes : (l : Limits) (f : Flat) → IsOpening l f → owed f ≡ 0
opened_owes l f o = ap owed o.is

-- where an entry that is owed comes, or one that finds room, the limit has room for it and all that is owed then
pub fits_more : (l : Limits) (f : Flat) (steps text : ℕ) (e : Entry) → Clear l f → IsTrue (may l f e.0 e.1) → steps + owed f ≤ l.steps
    → (is_owed e.1 ≡ true) ⊎ IsTrue (has_room l f steps text e.1) → (steps + 1) + owed (step_of l f e.0 e.1).flat ≤ l.steps
fits_more l f steps text e c ok fits (inl paid) = let pays = step_pays l f e.0 e.1 c.sound ok in let none = debt_owed f e.1 paid in
    omega (arith, pays, none, fits)
fits_more l f steps text e c ok fits (inr has) =
    let pays = step_pays l f e.0 e.1 c.sound ok in
    let most = debt_most f e.1 c.bounded.once in
    let counted = leb-true (steps + owed f + need f e.1) l.steps (and_parts _ _ has).0 in
    omega (arith, pays, most, counted)

pub room_kept : (l : Limits) (f : Flat) (steps text : ℕ) (es : List Entry) → Clear l f → steps + owed f ≤ l.steps → IsLegal l f es
    → FoundRoom l f steps text es
    → steps + length es + owed (run_state l f es) ≤ l.steps
room_kept l f steps text [] c fits legal room = omega (arith, fits)
room_kept l f steps text (e ∷ es) c fits legal room =
    let now = fits_more l f steps text e c legal.0 fits room.0 in
    let rest = room_kept l (step_of l f e.0 e.1).flat (steps + 1) (text + text_of e.1) es
    (clear_keeps l f e c legal.0) now legal.1 room.1 in
    omega (arith, rest)
