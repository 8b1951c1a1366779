-- What the parts of a run promise.
use Rattle.std.specs.Prelude.{ℕ, ◌≡◌, List, [], Option, Result, Ok, Err}
use Rattle.std.specs.Io.KnownBytes.{Appends}
use Rattle.outside.specs.Causes.{Rose}
use Rattle.outside.specs.Written.{AppendsFront}
use Rattle.sc_dial.specs.Connections.{PastConnection}
use Rattle.sc_top.specs.declared.fault.ScFault.{ScFault}
use Rattle.sc_top.specs.declared.fault.ScFault.TheVariants as faults
use Rattle.sc_top.specs.Runs.{IsCalled, IsDialerCaused}
use Rattle.sc_words.specs.declared.calls.Failure.{Failure}
use Rattle.sc_words.specs.declared.calls.Heard.{Heard}
use Rattle.sc_words.specs.declared.command.Command.{Command}
use Rattle.sc_words.specs.Told.{failure_of, told_text}

-- a command's calls were made over one connection, which was given back; or it couldn't be made
abbrev pub HasHeard : Command → (next : Option (List ℕ)) → (past past_now : Option (List PastConnection)) → (faults faults_now : ℕ)
    → Result (List Heard) ScFault → Type 0
HasHeard c next past past_now before now (Ok heard) = IsCalled c next past past_now (Ok heard)
HasHeard c next past past_now before now (Err (faults.Client fault)) = IsCalled c next past past_now (Err fault)
    × IsDialerCaused fault before now
HasHeard c next past past_now before now (Err faults.Dial) = (past_now ≡ past) × Rose before now
HasHeard c next past past_now before now (Err other) = ⊥

-- the text of the answers was printed, or a front of it, or nothing
abbrev pub HasShown : Command → List Heard → (held held_now : Option (List ℕ)) → (faults faults_now : ℕ) → Result (Option Failure) ScFault
    → Type 0
HasShown c heard held held_now before now (Ok failure) = Appends held held_now (told_text c heard) × (failure ≡ failure_of c heard)
HasShown c heard held held_now before now (Err faults.Output) = AppendsFront held held_now (told_text c heard) × Rose before now
HasShown c heard held held_now before now (Err faults.OutOfMemory) = held_now ≡ held
HasShown c heard held held_now before now (Err other) = ⊥
