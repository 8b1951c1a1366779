-- What a run of the client results in: its status, its connection, what it printed and its diagnostic.
use Rattle.std.specs.Prelude.{ℕ, ◌≡◌, Bool, List, Option, is_some, IfSome, Result, Ok, Err, if◌then◌else◌, ◌⊎◌}
use Rattle.std.specs.Io.KnownBytes.{Appends}
use Rattle.outside.specs.Causes.{Rose}
use Rattle.outside.specs.Written.{AppendsFront, IsFresh}
use Rattle.sc_client.specs.declared.fault.ClientFault.{ClientFault}
use Rattle.sc_client.specs.declared.fault.ClientFault.TheVariants as client
use Rattle.sc_client.specs.Runs.{IsRun}
use Rattle.sc_client.specs.Talks.{Followed, TalkEnd, Over, Bad, Early, talk_of}
use Rattle.sc_dial.specs.Connections.{PastConnection, IsGivenBack}
use Rattle.sc_top.specs.declared.fault.ScFault.{ScFault}
use Rattle.sc_top.specs.declared.fault.ScFault.TheVariants as faults
use Rattle.sc_top.specs.Diagnostics.{IsWritten, diagnostic}
use Rattle.sc_words.specs.declared.calls.Failure.{Failure}
use Rattle.sc_words.specs.declared.calls.Heard.{Heard}
use Rattle.sc_words.specs.declared.command.Command.{Command}
use Rattle.sc_words.specs.Told.{failure_of, told_text}

-- ## Statuses

abbrev pub fault_status : ScFault → ℕ
fault_status (faults.Words place) = 2
fault_status faults.Encoding = 2
fault_status faults.Dial = 3
fault_status (faults.Client client.ReadFault) = 3
fault_status (faults.Client client.WriteFault) = 3
fault_status faults.Output = 3
fault_status (faults.Client (client.BadReply place)) = 4
fault_status (faults.Client client.Truncated) = 4
fault_status (faults.Client client.OutOfMemory) = 8
fault_status faults.OutOfMemory = 8

-- the status of a run that printed its text, by whether a call was refused
abbrev pub status_of_text : Bool → ℕ
status_of_text refused = if refused then 1 else 0

abbrev pub command_status : Result (Option Failure) ScFault → ℕ
command_status (Ok failure) = status_of_text (is_some failure)
command_status (Err fault) = fault_status fault

-- ## A run

-- what a dialer and an output tell before and after, and their counts of faults
pub record Outside : Type 0 where
  -- what the peer sends
  pub next : Option (List ℕ)
  pub past : Option (List PastConnection)
  pub past_now : Option (List PastConnection)
  pub dialer : ℕ
  pub dialer_now : ℕ
  pub held : Option (List ℕ)
  pub held_now : Option (List ℕ)
  pub output : ℕ
  pub output_now : ℕ

abbrev pub outside_of : (next : Option (List ℕ)) → (past past_now : Option (List PastConnection)) → (dialer dialer_now : ℕ)
    → (held held_now : Option (List ℕ)) → (output output_now : ℕ) → Outside
outside_of next past past_now dialer dialer_now held held_now output output_now = record {
  next = next;
  past = past;
  past_now = past_now;
  dialer = dialer;
  dialer_now = dialer_now;
  held = held;
  held_now = held_now;
  output = output;
  output_now = output_now;
}

-- One connection was made to the command's address, the command was run over it from its first byte on, and it was given back. So where the
-- dialer tells what the peer sends, the connection was written the command's bytes and no others.
pub record IsCalled (c : Command) (next : Option (List ℕ)) (past past_now : Option (List PastConnection))
    (result : Result (List Heard) ClientFault) : Type 0 where
  pub left : Option (List ℕ)
  pub unwritten : Option (List ℕ)
  pub written : Option (List ℕ)
  pub fresh : IsFresh next unwritten
  pub run : IsRun c next left unwritten written result
  pub given : IsGivenBack past past_now c.address left written

-- a fault of the connection comes only where the dialer's count rose
abbrev pub IsDialerCaused : ClientFault → (dialer dialer_now : ℕ) → Type 0
IsDialerCaused client.ReadFault dialer dialer_now = Rose dialer dialer_now
IsDialerCaused client.WriteFault dialer dialer_now = Rose dialer dialer_now
IsDialerCaused _ dialer dialer_now = Unit {0}

-- What a command's run did by how it ended. With all answers its text was printed, and nothing is printed of fewer.
abbrev pub RunEnded : Command → Outside → Result (Option Failure) ScFault → Type 0
RunEnded c o (Ok failure) =
    (heard : List Heard) × IsCalled c o.next o.past o.past_now (Ok heard) × Appends o.held o.held_now (told_text c heard)
    × (failure ≡ failure_of c heard)
RunEnded c o (Err (faults.Words place)) = ⊥
RunEnded c o (Err faults.Encoding) = ⊥
RunEnded c o (Err faults.Dial) = (o.past_now ≡ o.past) × Rose o.dialer o.dialer_now × (o.held_now ≡ o.held)
RunEnded c o (Err (faults.Client fault)) = IsCalled c o.next o.past o.past_now (Err fault) × IsDialerCaused fault o.dialer o.dialer_now
    × (o.held_now ≡ o.held)
RunEnded c o (Err faults.Output) =
    (heard : List Heard) × IsCalled c o.next o.past o.past_now (Ok heard) × AppendsFront o.held o.held_now (told_text c heard)
    × Rose o.output o.output_now
RunEnded c o (Err faults.OutOfMemory) = ((o.past_now ≡ o.past) ⊎ ((heard : List Heard) × IsCalled c o.next o.past o.past_now (Ok heard)))
    × (o.held_now ≡ o.held)

-- how a run ended, as the program tells it: by its status, and by a diagnostic on standard error
pub record IsTold (words : List (List ℕ)) (how : Result (Option Failure) ScFault) (held held_now : Option (List ℕ))
    (faults faults_now status : ℕ) : Type 0 where
  pub status_is : status ≡ command_status how
  pub written : IsWritten (diagnostic words how) held held_now faults faults_now

-- a command's run ended in a way that the status and the errors tell
pub record EndsWith (words : List (List ℕ)) (c : Command) (o : Outside) (held held_now : Option (List ℕ))
    (faults faults_now status : ℕ) : Type 0 where
  pub how : Result (Option Failure) ScFault
  pub run : RunEnded c o how
  pub told : IsTold words how held held_now faults faults_now status

-- arguments are no command, by the one at this place; or memory ran out
abbrev pub IsNoCommand : (words : List (List ℕ)) → (place : ℕ) → (held held_now : Option (List ℕ)) → (faults faults_now status : ℕ) → Type 0
IsNoCommand words place held held_now before now status =
    IsTold words (Err (faults.Words place)) held held_now before now status
    ⊎ IsTold words (Err faults.OutOfMemory) held held_now before now status

-- ## Completeness

-- this status, unless memory ran out
abbrev pub IsUnlessMemory : (due status : ℕ) → Type 0
IsUnlessMemory due status = (status ≡ due) ⊎ (status ≡ 8)

abbrev pub talk_status : TalkEnd → (refused : Bool) → ℕ
talk_status Over refused = status_of_text refused
talk_status (Bad place) refused = 4
talk_status Early refused = 4

-- the status that a command has by what its peer sends
abbrev pub status_due : Command → Followed → ℕ
status_due c f = talk_status f.ending (is_some (failure_of c f.talk.heard))

-- where no count rose and the dialer tells, the status is that of the peer's bytes
abbrev pub IsRunComplete : Command → Outside → (status : ℕ) → Type 0
IsRunComplete c o status =
    IfSome o.next (λ bytes. (Rose o.dialer o.dialer_now → ⊥) → (Rose o.output o.output_now → ⊥)
    → IsUnlessMemory (status_due c (talk_of c bytes)) status)
