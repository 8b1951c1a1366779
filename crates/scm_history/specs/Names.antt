-- Who an entry names is there.
use Rattle.std.specs.Prelude.{Bool, IsTrue, IfSome, Option}
use Rattle.scm_model.specs.declared.flat.Flat.{Flat}
use Rattle.scm_model.specs.declared.flat.Process.{Process}
use Rattle.scm_model.specs.declared.steps.Answer.{Answer}
use Rattle.scm_model.specs.declared.steps.Step.{Step}
use Rattle.scm_model.specs.declared.steps.Step.TheVariants.{Launched, LaunchFailed}
use Rattle.scm_model.specs.Rows.{is_caller}
use Rattle.scm_rules.specs.Launches.{is_launched, is_taken, process_of}
use Rattle.scm_model.specs.Entries.{Entry}
use Rattle.scm_rules.specs.Named.{caller_named, process_named}

-- whether a process is listed and has come as far as a step of it wants: the outcome of its launch that the launch is taken, any other
-- that it was launched
abbrev pub has_come_to : Step → Option Process → Bool
has_come_to (Launched process pid) row = is_taken row
has_come_to (LaunchFailed process code) row = is_taken row
has_come_to step row = is_launched row

-- the caller that an entry names is in the state before it, and the process that it names is listed there, with its launch taken or
-- launched as the entry wants
pub record NamesWhoIsThere (before : Flat) (e : Entry) (told : Answer) (after : Flat) : Type 0 where
  pub caller : IfSome (caller_named e.1) (λ number. IsTrue (is_caller before number))
  pub process : IfSome (process_named e.1) (λ number. IsTrue (has_come_to e.1 (process_of before number)))
