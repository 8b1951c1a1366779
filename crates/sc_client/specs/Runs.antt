-- One command over a connection: what was read, what was written, and what it came to.
use Rattle.std.specs.Prelude.{ℕ, ◌≡◌, ◌++◌, List, [], Option, Result, Ok, Err}
use Rattle.std.specs.Io.KnownBytes.{Appends, Consumes, IsAtEnd}
use Rattle.outside.specs.Causes.{NeitherFailed, ReadFailed, WriteFailed}
use Rattle.outside.specs.Written.{Begins}
use Rattle.sc_words.specs.declared.calls.Heard.{Heard}
use Rattle.sc_words.specs.declared.command.Command.{Command}
use Rattle.sc_client.specs.declared.fault.ClientFault.{ClientFault}
use Rattle.sc_client.specs.declared.fault.ClientFault.TheVariants as faults
use Rattle.sc_client.specs.declared.talk.Talk.{Talk}
use Rattle.sc_client.specs.Talks.{TalkEnd, Over, Bad, Early, talk_of}

-- whatever follows, what was read ends so, and all that is due was written
pub record EndsSo (c : Command) (read text : List ℕ) (ending : TalkEnd) : Type 0 where
  pub talk : Talk
  pub told : (more : List ℕ) → talk_of c (read ++ more) ≡ record { talk = talk; text = text; ending = ending }

-- an answer wasn't there yet, and all that was due was written
pub record IsOpen (c : Command) (read text : List ℕ) : Type 0 where
  pub talk : Talk
  pub told : talk_of c read ≡ record { talk = talk; text = text; ending = Early }

-- what was written is a front of what is due by what was read
abbrev pub IsFrontDue : Command → (read text : List ℕ) → Type 0
IsFrontDue c read text = Begins text (talk_of c read).text

-- how far a command came, by what it answered
abbrev pub HasComeTo : Command → Result (List Heard) ClientFault → (read : List ℕ) → (left : Option (List ℕ)) → (text : List ℕ) → Type 0
HasComeTo c (Ok heard) read left text = (e : EndsSo c read text Over) × (e.talk.heard ≡ heard)
HasComeTo c (Err (faults.BadReply place)) read left text = EndsSo c read text (Bad place)
HasComeTo c (Err faults.Truncated) read left text = IsAtEnd left × IsOpen c read text
HasComeTo c (Err faults.ReadFault) read left text = IsOpen c read text
HasComeTo c (Err faults.WriteFault) read left text = IsFrontDue c read text
HasComeTo c (Err faults.OutOfMemory) read left text = (front : List ℕ) × Begins front read × IsFrontDue c front text

-- what was read and written is what happened at the source and at the sink, where they tell
pub record IsRun (c : Command) (left left_now held held_now : Option (List ℕ)) (result : Result (List Heard) ClientFault) : Type 0 where
  pub read : List ℕ
  pub text : List ℕ
  pub consumed : Consumes left left_now read
  pub written : Appends held held_now text
  pub reached : HasComeTo c result read left_now text

-- a fault of the source or of the sink comes only where that one's count rose, and no other count rises; at another fault none rose
abbrev pub IsCaused : ClientFault → (source source_now sink sink_now : ℕ) → Type 0
IsCaused faults.ReadFault source source_now sink sink_now = ReadFailed source source_now sink sink_now
IsCaused faults.WriteFault source source_now sink sink_now = WriteFailed source source_now sink sink_now
IsCaused (faults.BadReply place) source source_now sink sink_now = NeitherFailed source source_now sink sink_now
IsCaused faults.Truncated source source_now sink sink_now = NeitherFailed source source_now sink sink_now
IsCaused faults.OutOfMemory source source_now sink sink_now = NeitherFailed source source_now sink sink_now
