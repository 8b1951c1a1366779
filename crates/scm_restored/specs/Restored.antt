-- A manager over what a keeper has.
use Rattle.std.specs.Prelude.{ℕ, ◌≡◌, Bool, List, Option, Result, Ok, Err, IfSome}
use Rattle.scm_model.specs.declared.flat.Limits.{Limits}
use Rattle.scm_rules.specs.Opening.{opening}
use Rattle.scm_core.specs.Managed.{Managed}
use Rattle.record_journal.specs.Opening.{Restores, LeavesAt, content_under}
use Rattle.record_journal.specs.declared.opening.JournalFault.{JournalFault}
use Rattle.record_journal.specs.declared.opening.JournalFault.TheVariants as faults
use Rattle.record_journal.specs.declared.opening.Restored.{Restored}
use Rattle.scm_restored.specs.declared.Opened.{Opened}

-- it stands under these limits, and made no step
pub record IsUnmoved (limits : Limits) (m : Managed) : Type 0 where
  pub limits_are : m.limits ≡ limits
  pub steps : m.steps ≡ 0
  pub text : m.text ≡ 0

-- a manager opens with the configurations of a journal that was read, of which a copy is returned if any is, unless there was no memory
-- for it; if the journal was not read, its fault is returned
abbrev pub Manages : Limits → (groups : List (List ℕ)) (moment : ℕ) → Result Restored JournalFault → Result Opened JournalFault → Type 0
Manages limits groups moment (Ok journal) (Ok opened) =
    (opened.manager.flat ≡ opening limits groups journal.configs moment) × (opened.journal ≡ journal.journal)
    × IfSome opened.configs (λ configs. configs ≡ journal.configs)
Manages limits groups moment (Ok journal) (Err faults.OutOfMemory) = Unit {0}
Manages limits groups moment (Ok journal) (Err fault) = ⊥
Manages limits groups moment (Err fault) (Ok opened) = ⊥
Manages limits groups moment (Err fault) (Err told) = told ≡ fault

-- the journal of the bytes that stood is opened, and a manager with the configurations that it results in
pub record Comes (limits : Limits) (groups : List (List ℕ)) (moment : ℕ) (path : Bool) (old now : Option (List ℕ))
    (result : Result Opened JournalFault) : Type 0 where
  pub restored : Result Restored JournalFault
  pub answer : IfSome (content_under path old) (λ bytes. Restores bytes restored)
  pub leaves : LeavesAt path old now restored
  pub manages : Manages limits groups moment restored result
