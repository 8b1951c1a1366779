-- Who an entry names is there.
use Rattle.std.proofs.Common.{ℕ, IsTrue}
use Rattle.std.specs.Prelude.{IfSome}
use Rattle.scm_model.specs.declared.flat.Flat.{Flat}
use Rattle.scm_model.specs.declared.flat.Limits.{Limits}
use Rattle.scm_model.specs.declared.steps.Step.{Step}
use Rattle.scm_model.specs.declared.steps.Step.TheVariants.{Call, EndStart, Launched, LaunchFailed, Report, Ended, Raised, Gone, NoMemory}
use Rattle.scm_model.specs.Rows.{is_caller}
use Rattle.scm_rules.specs.Launches.{process_of}
use Rattle.scm_rules.specs.Steps.{may}
use Rattle.scm_runs.proofs.Along.{Gives}
use Rattle.scm_runs.proofs.Sound.{Sound}
use Rattle.scm_rules.specs.Named.{caller_named, process_named}
use Rattle.scm_history.specs.Names.{NamesWhoIsThere, has_come_to}
use Rattle.std.proofs.lemmas.Bool.{and_parts}

pub caller_there : (l : Limits) (f : Flat) (moment : ℕ) (step : Step) → IsTrue (may l f moment step)
    → IfSome (caller_named step) (λ number. IsTrue (is_caller f number))
caller_there l f moment (Call caller asked append) ok = (and_parts _ _ (and_parts _ _ ok).0).0
caller_there l f moment (EndStart caller plan) ok = (and_parts _ _ (and_parts _ _ ok).0).0
caller_there l f moment (Raised caller subtype) ok = (and_parts _ _ ok).0
caller_there l f moment (Gone caller) ok = (and_parts _ _ ok).0
caller_there l f moment (NoMemory caller) ok = (and_parts _ _ ok).0
caller_there l f moment step ok = tt

pub process_there : (l : Limits) (f : Flat) (moment : ℕ) (step : Step) → IsTrue (may l f moment step)
    → IfSome (process_named step) (λ number. IsTrue (has_come_to step (process_of f number)))
process_there l f moment (Launched process pid) ok = (and_parts _ _ ok).0
process_there l f moment (LaunchFailed process code) ok = (and_parts _ _ (and_parts _ _ ok).0).0
process_there l f moment (Report process service status) ok = (and_parts _ _ ok).0
process_there l f moment (Ended process) ok = (and_parts _ _ ok).0
process_there l f moment step ok = tt

pub gives : (l : Limits) → Gives Sound NamesWhoIsThere l
gives l f e s ok = record { caller = caller_there l f e.0 e.1 ok; process = process_there l f e.0 e.1 ok }
