-- What is written to standard error.
use Rattle.std.specs.Prelude.{ℕ, List, [], ◌++◌, slice_get, Option, None, Some, unwrap_or, Result, Ok, Err, decimal, codes, if◌then◌else◌}
use Rattle.std.specs.Borrow.{Bor}
use Rattle.std.specs.List.{flat_map}
use Rattle.outside.specs.declared.Failed.{Failed}
use Rattle.outside.specs.Causes.{HasCause}
use Rattle.outside.specs.Written.{Writes}
use Rattle.sc_client.specs.declared.fault.ClientFault.{ClientFault}
use Rattle.sc_client.specs.declared.fault.ClientFault.TheVariants as client
use Rattle.sc_words.specs.declared.calls.Failure.{Failure}
use Rattle.sc_words.specs.declared.calls.Failure.TheVariants as failure
use Rattle.sc_top.specs.declared.fault.ScFault.{ScFault}
use Rattle.sc_top.specs.declared.fault.ScFault.TheVariants as faults
use Rattle.sc_top.specs.Messages.{message}
use Rattle.sc_top.specs.Usage.{asks_for_help, help, usage_for, verbs}

-- an argument that doesn't fit, or that none is there, and the usage
abbrev pub misfit : Option (List ℕ) → List ℕ → List ℕ
misfit (Some word) usage = codes "sc: argument '" ++ (word ++ (codes "' doesn't fit; usage: sc ADDRESS " ++ (usage ++ codes "\n")))
misfit None usage = codes "sc: an argument is missing; usage: sc ADDRESS " ++ (usage ++ codes "\n")

-- of arguments that are no command, by the one at this place
abbrev pub no_command : List (List ℕ) → ℕ → List ℕ
no_command words place = if asks_for_help words then help verbs else misfit (slice_get words place) (usage_for words)

-- where the server is
abbrev pub address_in : List (List ℕ) → List ℕ
address_in words = unwrap_or (slice_get words 0) []

-- what happened, and at which server
abbrev pub at_server : List ℕ → List (List ℕ) → List ℕ
at_server what words = codes "sc: " ++ (what ++ (codes " " ++ (address_in words ++ codes "\n")))

abbrev pub client_diagnostic : List (List ℕ) → ClientFault → List ℕ
client_diagnostic words client.ReadFault = at_server (codes "can't read from") words
client_diagnostic words client.WriteFault = at_server (codes "can't write to") words
client_diagnostic words (client.BadReply place) = at_server (codes "an invalid reply came from") words
client_diagnostic words client.Truncated = at_server (codes "the connection ended before the reply of") words
client_diagnostic words client.OutOfMemory = codes "sc: out of memory\n"

abbrev pub fault_diagnostic : List (List ℕ) → ScFault → List ℕ
fault_diagnostic words (faults.Words place) = no_command words place
fault_diagnostic words faults.Encoding = codes "sc: an argument isn't UTF-8\n"
fault_diagnostic words faults.Dial = at_server (codes "can't connect to") words
fault_diagnostic words (faults.Client fault) = client_diagnostic words fault
fault_diagnostic words faults.Output = codes "sc: can't write to the standard output\n"
fault_diagnostic words faults.OutOfMemory = codes "sc: out of memory\n"

-- the code of a refusal, with its name and its sentence
abbrev pub failure_diagnostic : Option Failure → List ℕ
failure_diagnostic (Some (failure.Refused code)) = codes "sc: " ++ (decimal code ++ (codes " " ++ (message code ++ codes "\n")))
failure_diagnostic _ = []

-- of arguments, and of how their run ended
abbrev pub diagnostic : List (List ℕ) → Result (Option Failure) ScFault → List ℕ
diagnostic words (Ok failed) = failure_diagnostic failed
diagnostic words (Err fault) = fault_diagnostic words fault

-- the text was written, or a front of it where the sink failed
pub record IsWritten (text : List ℕ) (held held_now : Option (List ℕ)) (faults faults_now : ℕ) : Type 0 where
  pub result : Result (Unit {0}) Failed
  pub written : Writes held held_now result text
  pub cause : HasCause faults faults_now result

-- parts in a row
unfoldable pub joined : List (Bor (List ℕ)) → List ℕ
joined parts = flat_map (λ part. part.now) parts
