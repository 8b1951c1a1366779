-- What one step more makes of what the holder of the turn has.
use Rattle.std.specs.Prelude.{ℕ, ◌≡◌, ◌≤◌, ◌+◌, Bool, true, false, IsTrue, [], ◌∷◌, Option, Some, option_map}
use Rattle.scm_model.specs.declared.steps.Answer.{Answer}
use Rattle.scm_model.specs.declared.steps.Kept.{Kept}
use Rattle.scm_model.specs.declared.steps.Step.{Step}
use Rattle.scm_model.specs.declared.steps.Step.TheVariants.{EndStart, LaunchTaken, Launched, LaunchFailed, Ended, Gone}
use Rattle.scm_model.specs.Entries.{with_kept}
use Rattle.scm_model.specs.Texts.{text_of}
use Rattle.scm_trail.specs.Trailed.{Extends, Stays}
use Rattle.record_journal.specs.Bearing.{Bears, Stands, Stood}
use Rattle.record_journal.specs.Keepers.{SettledSince}
use Rattle.scm_rules.specs.Histories.{answer, state}
use Rattle.scm_rules.specs.Owed.{owed}
use Rattle.scm_rules.specs.Room.{debt, has_room}
use Rattle.scm_rules.specs.Steps.{keeps_right, may, may_come}
use Rattle.scm_core.specs.Managed.{WasMadeFor}
use Rattle.scm_history.specs.Outcomes.{Outcome, outcome_in}
use Rattle.journal_lasting.specs.Lasting.{TurnLeaves, with_outcome}
use Rattle.scm_book.specs.Ghosts.{Ghosts}
use Rattle.scm_book.specs.declared.fault.MakeFault.{MakeFault}
use Rattle.scm_book.specs.declared.fault.MakeFault.TheVariants.{Full, OutOfMemory}
use Rattle.scm_book.specs.declared.held.Held.{Held}
use Rattle.scm_book.specs.declared.held.Owed.{Owed}
use Rattle.scm_book.specs.declared.held.Owed.TheVariants as owes
use Rattle.scm_book.specs.Holds.{RoseBy, one_failed}

-- the step that is owed
abbrev pub owed_step : Owed → Step
owed_step (owes.EndStart caller plan) = EndStart caller plan
owed_step owes.LaunchTaken = LaunchTaken
owed_step (owes.Launched process pid) = Launched process pid
owed_step (owes.LaunchFailed process code) = LaunchFailed process code
owed_step (owes.Ended process) = Ended process
owed_step (owes.Gone caller) = Gone caller

module _ {K : Type 0} where
  -- the limits have room for a step
  abbrev pub has_room_in : Held K → Step → Bool
  has_room_in h step = has_room h.manager.limits h.manager.flat h.manager.steps h.manager.text step

  -- whether a step may come at a moment, and whether it may be done
  abbrev pub may_come_in : Held K → ℕ → Step → Bool
  may_come_in h moment step = may_come h.manager.limits h.manager.flat moment step

  abbrev pub may_in : Held K → ℕ → Step → Bool
  may_in h moment step = may h.manager.limits h.manager.flat moment step

  -- the step tells right what became of its change
  abbrev pub TellsRight : Held K → Step → Kept → Type 0
  TellsRight h step append = IsTrue (keeps_right h.manager.limits h.manager.flat (with_kept step append))

  -- there is memory for what was owed, and for what a step may add and leave owed
  abbrev pub HasMemory : Held K → Step → Held K → Type 0
  HasMemory h step h' = owed h.manager.flat + debt h.manager.flat step ≤ h'.trail.room

  -- what became of the change of a step that tells it
  abbrev pub outcome_at : Held K → Step → Outcome
  outcome_at h step = outcome_in h.manager.limits h.manager.flat step

  -- the manager made the step at this moment, and was told this, and the trail has it as its last entry
  pub record Grows (h h' : Held K) (moment : ℕ) (step : Step) (told : Answer) : Type 0 where
    pub may : IsTrue (may h.manager.limits h.manager.flat moment step)
    pub trail : Extends h.trail h'.trail (moment, step)
    pub recorder : h'.recorder ≡ h.recorder
    pub flat : h'.manager.flat ≡ state h.manager.limits h.manager.flat ((moment, step) ∷ [])
    pub answer : answer h.manager.limits h.manager.flat ((moment, step) ∷ []) 0 ≡ Some told
    pub limits : h'.manager.limits ≡ h.manager.limits
    pub steps : h'.manager.steps ≡ h.manager.steps + 1
    pub text : h'.manager.text ≡ h.manager.text + text_of step

  -- an owed step was made, with the memory that was there for it
  pub record Adds (h h' : Held K) (moment : ℕ) (step : Step) (told : Answer) : Type 0 where
    pub grows : Grows h h' moment step told
    pub journal : h'.journal ≡ h.journal
    pub keeper : h'.keeper ≡ h.keeper
    pub room : h.trail.room ≤ h'.trail.room + 1

  -- no step was made
  pub record MakesNone (h h' : Held K) : Type 0 where
    pub trail : Stays h.trail h'.trail
    pub recorder : h'.recorder ≡ h.recorder
    pub flat : h'.manager.flat ≡ h.manager.flat
    pub limits : h'.manager.limits ≡ h.manager.limits
    pub steps : h'.manager.steps ≡ h.manager.steps
    pub text : h'.manager.text ≡ h.manager.text

  -- no step was made; there may be more memory
  pub record IsAsItWas (h h' : Held K) : Type 0 where
    pub none : MakesNone h h'
    pub journal : h'.journal ≡ h.journal
    pub keeper : h'.keeper ≡ h.keeper
    pub room : h.trail.room ≤ h'.trail.room
    pub text_room : h.trail.text_room ≤ h'.trail.text_room

  -- why a step wasn't made
  abbrev pub Why : Held K → Step → MakeFault → Type 0
  Why h step Full = has_room_in h step ≡ false
  Why h step OutOfMemory = has_room_in h step ≡ true

  module _ (ghosts : Ghosts K) where
    -- what the keeper bore it bears with what became of the step's change; if that wasn't kept, the keeper failed
    pub record Keeps (h h' : Held K) (step : Step) : Type 0 where
      pub bears : (good : Option Stood) → Bears good h.journal (ghosts.held h.keeper)
          → Bears (option_map (λ s. with_outcome s (outcome_at h step)) good) h'.journal (ghosts.held h'.keeper)
      -- so it is with what a crash leaves, at each moment of the append
      pub turn : (s : Stood) → Bears (Some s) h.journal (ghosts.held h.keeper) → Stands s (ghosts.crashes h.keeper)
          → TurnLeaves s (outcome_at h step) (ghosts.crashes h.keeper) (ghosts.crashes h'.keeper)
      pub faults : RoseBy (one_failed step) (ghosts.faults h.keeper) (ghosts.faults h'.keeper)
      -- it is settled if it was, unless it failed
      pub settled : ghosts.settled h.keeper → SettledSince (ghosts.faults h.keeper) (ghosts.faults h'.keeper) (ghosts.settled h'.keeper)
      pub asked : ghosts.asked h'.keeper ≡ ghosts.asked h.keeper

    -- the same of a step with what became of its change
    abbrev pub KeepsAs : Held K → Held K → Step → Kept → Type 0
    KeepsAs h h' step append = Keeps h h' (with_kept step append)

    -- all is there that a step can use, and its change was appended, with what became of that
    pub record IsPrepared (h h' : Held K) (step : Step) (append : Kept) : Type 0 where
      pub free : has_room_in h step ≡ true
      pub none : MakesNone h h'
      pub keeps : Keeps h h' (with_kept step append)
      pub right : IsTrue (keeps_right h.manager.limits h.manager.flat (with_kept step append))
      pub made : WasMadeFor h'.manager.room step
      pub room : owed h.manager.flat + debt h.manager.flat step ≤ h'.trail.room
      pub one : 1 ≤ h'.trail.room
      pub text_room : text_of step ≤ h'.trail.text_room

    -- a step was made that isn't owed, for which there was room, with what became of its change; there is memory for what it left owed
    pub record Makes (h h' : Held K) (moment : ℕ) (step : Step) (told : Answer) : Type 0 where
      pub append : Kept
      pub free : has_room_in h step ≡ true
      pub grows : Grows h h' moment (with_kept step append) told
      pub keeps : Keeps h h' (with_kept step append)
      pub room : owed h.manager.flat + debt h.manager.flat step ≤ h'.trail.room + 1
