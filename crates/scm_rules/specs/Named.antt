-- What an entry of a history names, and what it makes.
use Rattle.std.specs.Prelude.{ℕ, Bool, false, ◌&&◌, ◌||◌, ◌==◌, List, [], ◌∷◌, Option, None, Some, if◌then◌else◌}
use Rattle.scm_model.specs.declared.flat.Flat.{Flat}
use Rattle.scm_model.specs.declared.flat.Limits.{Limits}
use Rattle.scm_model.specs.declared.steps.Answer.{Answer}
use Rattle.scm_model.specs.declared.steps.Answer.TheVariants as answer
use Rattle.scm_model.specs.declared.steps.Step.{Step}
use Rattle.scm_model.specs.declared.steps.Step.TheVariants.{Joined, Call, EndStart, LaunchTaken, Launched, LaunchFailed, Report, Ended}
use Rattle.scm_model.specs.declared.steps.Step.TheVariants.{Raised, Gone, NoMemory}
use Rattle.scm_rules.specs.Launches.{first_wanted}
use Rattle.scm_model.specs.Entries.{Entry}
use Rattle.scm_rules.specs.Steps.{step_of}

-- whether a number is this one, where there is one
abbrev pub is_it : ℕ → Option ℕ → Bool
is_it number None = false
is_it number (Some of) = number == of

-- ## What an entry names

-- the caller that a step is of
abbrev pub caller_named : Step → Option ℕ
caller_named (Call caller asked append) = Some caller
caller_named (EndStart caller plan) = Some caller
caller_named (Raised caller subtype) = Some caller
caller_named (Gone caller) = Some caller
caller_named (NoMemory caller) = Some caller
caller_named step = None

-- the process that a step is of, which tells of its launch, its service or its end
abbrev pub process_named : Step → Option ℕ
process_named (Launched process pid) = Some process
process_named (LaunchFailed process code) = Some process
process_named (Report process service status) = Some process
process_named (Ended process) = Some process
process_named step = None

abbrev pub names_caller : ℕ → Step → Bool
names_caller caller step = is_it caller (caller_named step)

abbrev pub names_process : ℕ → Step → Bool
names_process process step = is_it process (process_named step)

-- ## What an entry makes

-- the caller that joins, in the state before
abbrev pub caller_made : Flat → Step → Option ℕ
caller_made f (Joined principal) = Some f.next.caller
caller_made f step = None

-- the process whose launch is taken, in the state before
abbrev pub process_taken : Flat → Step → Option ℕ
process_taken f LaunchTaken = first_wanted f.wanted
process_taken f step = None

-- the plan of a start that waits, which its answer tells
abbrev pub plan_made : Answer → Option ℕ
plan_made (answer.Begun plan) = Some plan
plan_made told = None

abbrev pub makes_caller : Flat → ℕ → Step → Bool
makes_caller f caller step = is_it caller (caller_made f step)

abbrev pub takes_process : Flat → ℕ → Step → Bool
takes_process f process step = is_it process (process_taken f step)

-- ## A history

-- the entries that name a caller, with the Joined that made it
abbrev pub of_caller : Limits → Flat → ℕ → List Entry → List Entry
of_caller l f caller [] = []
of_caller l f caller (e ∷ es) =
    if names_caller caller e.1 || makes_caller f caller e.1 then e ∷ of_caller l (step_of l f e.0 e.1).flat caller es
    else of_caller l (step_of l f e.0 e.1).flat caller es

-- whether an entry of a history made the caller
abbrev pub has_made : Limits → Flat → ℕ → List Entry → Bool
has_made l f caller [] = false
has_made l f caller (e ∷ es) = makes_caller f caller e.1 || has_made l (step_of l f e.0 e.1).flat caller es

-- whether an entry of a history took the launch of the process
abbrev pub has_taken : Limits → Flat → ℕ → List Entry → Bool
has_taken l f process [] = false
has_taken l f process (e ∷ es) = takes_process f process e.1 || has_taken l (step_of l f e.0 e.1).flat process es

-- whether an entry of a history is a caller's and began the plan
abbrev pub has_begun : Limits → Flat → ℕ → ℕ → List Entry → Bool
has_begun l f caller plan [] = false
has_begun l f caller plan (e ∷ es) =
    (names_caller caller e.1 && is_it plan (plan_made (step_of l f e.0 e.1).answer))
    || has_begun l (step_of l f e.0 e.1).flat caller plan es
