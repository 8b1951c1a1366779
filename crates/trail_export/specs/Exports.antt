-- Why a history wasn't written to its end, and how its entries are.
use Rattle.std.specs.Prelude.{ℕ, ◌≡◌, ◌+◌, ◌≤◌, List, [], ◌∷◌, ◌++◌, Result, Err}
use Rattle.outside.specs.Causes.{Rose}
use Rattle.scm_model.specs.declared.flat.Flat.{Flat}
use Rattle.scm_model.specs.declared.flat.Limits.{Limits}
use Rattle.scm_model.specs.Entries.{Entry}
use Rattle.scm_rules.specs.Steps.{step_of}
use Rattle.scm_core.specs.Managed.{Managed}
use Rattle.scm_lines.specs.Entries.{line_of}
use Rattle.trail_text.specs.Histories.{answer_line}
use Rattle.trail_export.specs.declared.fault.ExportFault.{ExportFault}
use Rattle.trail_export.specs.declared.fault.ExportFault.TheVariants as faults

-- the count of the sink's faults rose where it is said to have failed, and is the same elsewhere
abbrev pub IsExportCaused : {T : Type 0} → Result T ExportFault → (before now : ℕ) → Type 0
IsExportCaused (Err faults.WriteFault) before now = Rose before now
IsExportCaused result before now = now ≡ before

-- and it never falls
pub record HasExportCause {T : Type 0} (before now : ℕ) (result : Result T ExportFault) : Type 0 where
  pub grows : before ≤ now
  pub caused : IsExportCaused result before now

-- the lines of an entry and of its answer
abbrev pub entry_text : Limits → Flat → Entry → List ℕ
entry_text l f e = (line_of e ++ 10 ∷ []) ++ (answer_line l f e ++ 10 ∷ [])

-- the manager made the step of an entry
pub record HasStepped (old : Managed) (e : Entry) (new : Managed) : Type 0 where
  pub flat : new.flat ≡ (step_of old.limits old.flat e.0 e.1).flat
  pub limits : new.limits ≡ old.limits
  pub steps : new.steps ≡ old.steps + 1
