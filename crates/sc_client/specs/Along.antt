-- What the parts of a client promise each other.
use Rattle.std.specs.Prelude.{ℕ, ◌≡◌, ◌+◌, ◌≤◌, Bool, true, false, List, [], ◌++◌, length, Option, None, Some, is_none, Result, Ok, Err}
use Rattle.std.specs.Io.KnownBytes.{Appends, Consumes, IsAtEnd}
use Rattle.outside.specs.Written.{AppendsFront}
use Rattle.rpc_pdu.specs.declared.pdu.End.TheVariants.{Client}
use Rattle.rpc_pdu.specs.declared.pdu.PduRead.TheVariants.{Short}
use Rattle.rpc_pdu.specs.Pdu.{pdu_at}
use Rattle.rpc_session.specs.Pdus.{pdus_from}
use Rattle.sc_words.specs.Asks.{asks}
use Rattle.sc_words.specs.declared.command.Command.{Command}
use Rattle.scm_text.specs.declared.OutOfMemory.{OutOfMemory}
use Rattle.sc_client.specs.declared.fault.ClientFault.{ClientFault}
use Rattle.sc_client.specs.declared.fault.ClientFault.TheVariants as faults
use Rattle.sc_client.specs.declared.held.Held.{Held}
use Rattle.sc_client.specs.declared.talk.Talk.{Talk}
use Rattle.sc_client.specs.Talks.{Followed, Bad, Early, due, followed_of, is_over, request_after}

-- the talk went where it leads, or it leads nowhere
abbrev pub Leads : {A : Type 0} → Option A → A → Result Bool OutOfMemory → Type 0
Leads told new (Ok true) = told ≡ Some new
Leads told new (Ok false) = told ≡ None
Leads told new (Err fault) = Unit {0}

-- what will be told once more bytes have come, to a client that came so far and wrote this text
unfoldable pub told_with : Command → Talk → Held → (text more : List ℕ) → Followed
told_with c t h text more = followed_of c (pdus_from Client h.place (h.bytes ++ more)) t text

-- how many bytes were read
abbrev pub read_so_far : Held → ℕ
read_so_far h = h.place + length h.bytes

-- a piece was read, or nothing
abbrev pub ReadsMore : (left left_now : Option (List ℕ)) → Held → Held → Result (Unit {0}) ClientFault → Type 0
ReadsMore left left_now old new (Ok x) = (piece : List ℕ) × Consumes left left_now piece
    × (new ≡ record { bytes = old.bytes ++ piece; place = old.place }) × (length piece ≤ 4096)
ReadsMore left left_now old new (Err faults.ReadFault) = Consumes left left_now []
ReadsMore left left_now old new (Err faults.Truncated) = Consumes left left_now [] × IsAtEnd left_now
ReadsMore left left_now old new (Err faults.OutOfMemory) = (piece : List ℕ) × Consumes left left_now piece
ReadsMore left left_now old new (Err other) = ⊥

-- one PDU was taken, or it isn't whole
abbrev pub TakesPdu : Command → Talk → Talk → Held → Held → Result Bool ClientFault → Type 0
TakesPdu c t u h k (Ok true) = ((text more : List ℕ) → told_with c t h text more ≡ told_with c u k (text ++ due c u) more)
    × (read_so_far k ≡ read_so_far h) × (u.bound ≡ true)
TakesPdu c t u h k (Ok false) = (u ≡ t) × (k ≡ h) × ((text : List ℕ) → told_with c t h text [] ≡
    record { talk = t; text = text; ending = Early })
TakesPdu c t u h k (Err (faults.BadReply place)) = (text more : List ℕ)
    → told_with c t h text more ≡ record { talk = t; text = text; ending = Bad place }
TakesPdu c t u h k (Err faults.OutOfMemory) = Unit {0}
TakesPdu c t u h k (Err other) = ⊥

-- the next request was written, where there is one
abbrev pub AsksNext : Command → Talk → (held held_now : Option (List ℕ)) → Result Bool ClientFault → Type 0
AsksNext c t held held_now (Ok true) = Appends held held_now (request_after c t.heard) × (is_none (asks c t.heard) ≡ false)
AsksNext c t held held_now (Ok false) = Appends held held_now (request_after c t.heard) × (is_none (asks c t.heard) ≡ true)
AsksNext c t held held_now (Err faults.WriteFault) = AppendsFront held held_now (request_after c t.heard)
AsksNext c t held held_now (Err faults.OutOfMemory) = Appends held held_now []
AsksNext c t held held_now (Err other) = ⊥

-- what a turn read and wrote, and that the rest tells the same
pub record Turned (c : Command) (t u : Talk) (h k : Held) (left left_now held held_now : Option (List ℕ)) : Type 0 where
  pub read : List ℕ
  pub written : List ℕ
  pub consumed : Consumes left left_now read
  pub appended : Appends held held_now written
  pub same : (text more : List ℕ) → told_with c t h text (read ++ more) ≡ told_with c u k (text ++ written) more
  pub grown : read_so_far k ≤ read_so_far h + 4096

-- a request was due, and a front of it was written
pub record CutOff (c : Command) (t : Talk) (h : Held) (left left_now held held_now : Option (List ℕ)) : Type 0 where
  pub talk : Talk
  pub rest : Held
  pub written : List ℕ
  pub consumed : Consumes left left_now []
  pub appended : AppendsFront held held_now written
  pub same : (text more : List ℕ) → told_with c t h text more ≡ told_with c talk rest (text ++ written) more

-- one turn: it goes on, or all is answered, or it failed
abbrev pub Turn : Command → Talk → Talk → Held → Held → (left left_now held held_now : Option (List ℕ)) → Result Bool ClientFault → Type 0
Turn c t u h k left left_now held held_now (Ok true) = Turned c t u h k left left_now held held_now × (is_over c u ≡ false)
Turn c t u h k left left_now held held_now (Ok false) = Turned c t u h k left left_now held held_now × (is_over c u ≡ true)
Turn c t u h k left left_now held held_now (Err (faults.BadReply place)) =
    Consumes left left_now [] × Appends held held_now [] × ((text more : List ℕ)
    → told_with c t h text more ≡ record { talk = t; text = text; ending = Bad place })
Turn c t u h k left left_now held held_now (Err faults.Truncated) =
    Consumes left left_now [] × IsAtEnd left_now × Appends held held_now []
    × ((text : List ℕ) → told_with c t h text [] ≡ record { talk = t; text = text; ending = Early })
Turn c t u h k left left_now held held_now (Err faults.ReadFault) =
    Consumes left left_now [] × Appends held held_now [] × ((text : List ℕ)
    → told_with c t h text [] ≡ record { talk = t; text = text; ending = Early })
Turn c t u h k left left_now held held_now (Err faults.WriteFault) = CutOff c t h left left_now held held_now
Turn c t u h k left left_now held held_now (Err faults.OutOfMemory) = ((read : List ℕ) × Consumes left left_now read)
    × Appends held held_now []
