-- A launch that is taken leaves no words behind.
use Rattle.std.proofs.Common.{ℕ, ◌≡◌, ◌∙◌, ◌+◌, Option, None, List, [], ◌∷◌, refl, ap, eq-eqb, true, Some}
use Rattle.scm_model.specs.declared.flat.Flat.{Flat}
use Rattle.scm_model.specs.declared.flat.Limits.{Limits}
use Rattle.scm_model.specs.declared.flat.Wanted.{Wanted}
use Rattle.scm_model.specs.declared.steps.Step.{Step}
use Rattle.scm_model.specs.declared.steps.Step.TheVariants.{LaunchTaken}
use Rattle.scm_model.specs.Changes.{with_moment}
use Rattle.scm_model.specs.Purge.{purged}
use Rattle.scm_rules.specs.Launches.{first_wanted, launch_taken, wanted_of_others}
use Rattle.scm_rules.specs.Steps.{wants_launch, step_of, finished}
use Rattle.start_plan.specs.Settle.{settled}
use Rattle.scm_tables.specs.Listed.{without_words}
use Rattle.scm_core.specs.Managed.{Managed}
use Rattle.scm_model.specs.Found.{if_found}
use Rattle.scm_model.specs.Outcomes.{StepResult}

-- the state without the words of the launch that is wanted first
abbrev pub emptied : Flat → Flat
emptied f = record f { wanted = without_words f.wanted }

pub still_wanted : (rows : List Wanted) → wants_launch (without_words rows) ≡ wants_launch rows
still_wanted [] = refl
still_wanted (row ∷ rows) = refl

same_first : (rows : List Wanted) → first_wanted (without_words rows) ≡ first_wanted rows
same_first [] = refl
same_first (row ∷ rows) = refl

-- whoever is first is wanted
pub is_first : (rows : List Wanted) (process : ℕ) → first_wanted rows ≡ Some process → wants_launch rows ≡ true
is_first [] process e = absurd cc
is_first (row ∷ rows) process e = refl

same_others : (rows : List Wanted) → if_found wanted_of_others (first_wanted rows) (without_words rows) ≡ if_found wanted_of_others
    (first_wanted rows) rows
same_others [] = refl
same_others (row ∷ rows) = rw (eq-eqb row.process row.process refl) refl

same_taken : (f : Flat) → launch_taken (emptied f) ≡ launch_taken f
same_taken f =
    rw (same_first f.wanted) (ap (λ (ws : List Wanted). record {
      answer = (launch_taken f).answer;
      flat = record (launch_taken f).flat { wanted = ws };
    }) (same_others f.wanted))

pub same_step : (l : Limits) (f : Flat) (moment : ℕ) → (step_of l (emptied f) moment LaunchTaken).flat ≡
    (step_of l f moment LaunchTaken).flat
same_step l f moment = ap (λ (done : StepResult). purged (finished (settled l done.flat) done.answer).flat)
    (same_taken (with_moment f moment))

-- ## The manager

same_managed : (m : Managed) (f : Flat) (l : Limits) (s t : ℕ) (r : Option Step) → m.flat ≡ f → m.limits ≡ l → m.steps ≡ s → m.text ≡ t
    → m.room ≡ r
    → m ≡ record { flat = f; limits = l; steps = s; text = t; room = r }
same_managed m f l s t r a b c d e = rw (← a, ← b, ← c, ← d, ← e) refl

-- a step from the state without these words is one from the state with them
pub taken_whole : (old new : Managed) (moment : ℕ) (l : Limits) (g : Flat) → l ≡ old.limits → g ≡ emptied old.flat
    → new.flat ≡ (step_of l g moment LaunchTaken).flat
    → new.limits ≡ l → new.steps ≡ old.steps + 1 → new.text ≡ old.text → new.room ≡ None
    → new ≡ record old { flat = (step_of old.limits old.flat moment LaunchTaken).flat; steps = old.steps + 1; room = None }
taken_whole old new moment l g limits before flat limits_now steps text room =
    same_managed new _ _ _ _ _
    (flat ∙ ap (λ (x : Limits). (step_of x g moment LaunchTaken).flat) limits
    ∙ ap (λ (x : Flat). (step_of old.limits x moment LaunchTaken).flat) before ∙ same_step old.limits old.flat moment)
    (limits_now ∙ limits) steps text room
