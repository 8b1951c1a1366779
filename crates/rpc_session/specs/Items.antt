-- The items of a stream.
use Rattle.std.specs.Prelude.{Bool, not, ◌&&◌, ◌==◌, length, ℕ, ◌≡◌, List, [], ◌∷◌, ◌++◌, Option, Some, None, is_some, IfSome, Result, Ok}
use Rattle.std.specs.Prelude.{Err, if◌then◌else◌}
use Rattle.std.specs.FinMap as map
use Rattle.rpc_pdu.specs.declared.pdu.End.TheVariants.{Server}
use Rattle.rpc_pdu.specs.declared.pdu.Pdu.{Pdu}
use Rattle.rpc_pdu.specs.declared.pdu.PduKind.{PduKind}
use Rattle.rpc_pdu.specs.declared.pdu.PduKind.TheVariants.{Order}
use Rattle.rpc_pdu.specs.declared.pdu.PduRead.{PduRead}
use Rattle.rpc_pdu.specs.declared.pdu.PduRead.TheVariants.{Whole, Short, Bad}
use Rattle.rpc_pdu.specs.Pdu.{pdu_at}
use Rattle.rpc_session.specs.declared.state.Incoming.{Incoming}
use Rattle.rpc_session.specs.declared.state.State.{State}
use Rattle.rpc_session.specs.declared.state.Refusal.{Refusal}
use Rattle.rpc_session.specs.declared.state.Refusal.TheVariants as refusals
use Rattle.rpc_session.specs.declared.session.SessionFault.{SessionFault}
use Rattle.rpc_session.specs.declared.session.SessionFault.TheVariants as faults
use Rattle.rpc_session.specs.Held.{Held, further}
use Rattle.rpc_session.specs.Moves.{Move, Gives, Joins, OutOfOrder, Passes, session_move, HasJoined}
use Rattle.rpc_session.specs.Pdus.{Cut, CutEnd, Nothing, Part, BadAt, pdus, pdus_from}

pub data StreamEnd : Type 0 where
  AtRest : StreamEnd
  Unfinished : StreamEnd
  BadPdu : ℕ → PduKind → StreamEnd
  TooLong : ℕ → StreamEnd

-- the items, and how the stream ends after them
pub record Told : Type 0 where
  pub items : List Incoming
  pub ending : StreamEnd

abbrev pub ends_stream : StreamEnd → Told
ends_stream ending = record { items = []; ending = ending }

-- these items, and then the items and the end of `told`
abbrev pub before : List Incoming → Told → Told
before given told = record { items = given ++ told.items; ending = told.ending }

abbrev pub told_after : (State → Told) → ℕ → Move → Told
told_after more place (Gives item s) = before (item ∷ []) (more s)
told_after more place (Joins s) = more s
told_after more place OutOfOrder = ends_stream (BadPdu place Order)
told_after more place (Passes length) = ends_stream (TooLong length)

abbrev pub stream_end : State → CutEnd → StreamEnd
stream_end s Nothing = if is_some s.unfinished then Unfinished else AtRest
stream_end s Part = Unfinished
stream_end s (BadAt place kind) = BadPdu place kind

-- what PDUs tell a session in this state
unfoldable pub told_of_pdus : List (ℕ × Pdu (List ℕ)) → CutEnd → State → Told
told_of_pdus [] ending s = ends_stream (stream_end s ending)
told_of_pdus (pdu ∷ pdus) ending s = told_after (told_of_pdus pdus ending) pdu.0 (session_move s pdu.1)

abbrev pub told_of : Cut → State → Told
told_of cut s = told_of_pdus cut.pdus cut.ending s

abbrev pub unbound : State
unbound = record { terms = None; known = map.empty; unfinished = None }

-- the items of a stream
unfoldable pub items : List ℕ → Told
items stream = told_of (pdus Server stream) unbound

-- a session between two calls: its state, and the bytes that it didn't take yet
pub record Seen : Type 0 where
  pub state : State
  pub held : Held

-- what a session will tell once more bytes have come
unfoldable pub to_come : Seen → List ℕ → Told
to_come s more = told_of (pdus_from Server s.held.place (s.held.rest ++ more)) s.state

-- two sessions will tell the same, whatever comes
abbrev pub TellSame : Seen → Seen → Type 0
TellSame a b = (more : List ℕ) → to_come a more ≡ to_come b more

-- no part of a PDU is held, and no unfinished request
abbrev pub is_at_rest : Seen → Bool
is_at_rest s = length s.held.rest == 0 && not (is_some s.state.unfinished)

-- the end of a stream that may go on
abbrev pub open_end : Seen → StreamEnd
open_end s = if is_at_rest s then AtRest else Unfinished

-- it tells no item now, and its end is open
abbrev pub IsOpen : Seen → Type 0
IsOpen s = to_come s [] ≡ ends_stream (open_end s)

-- it tells this end and nothing else, whatever comes
abbrev pub TellsEnd : Seen → StreamEnd → Type 0
TellsEnd s ending = (more : List ℕ) → to_come s more ≡ ends_stream ending

-- what the next item was
abbrev pub Comes : Seen → Seen → Result (Option Incoming) SessionFault → Type 0
Comes old new (Ok (Some item)) = (more : List ℕ) → to_come old more ≡ before (item ∷ []) (to_come new more)
Comes old new (Ok None) = IsOpen new × TellSame new old
Comes old new (Err (faults.BadPdu place kind)) = TellsEnd old (BadPdu place kind) × TellSame new old
Comes old new (Err (faults.TooLong length)) = TellsEnd old (TooLong length) × TellSame new old
Comes old new (Err faults.OutOfMemory) = TellSame new old

-- A session that was fed this stream gave these items: whatever comes, they and what it will tell are the items.
abbrev pub Gave : List ℕ → List Incoming → Seen → Type 0
Gave stream given s = (more : List ℕ) → items (stream ++ more) ≡ before given (to_come s more)

abbrev pub given_by : Result (Option Incoming) SessionFault → List Incoming
given_by (Ok (Some item)) = item ∷ []
given_by _ = []

-- what the items of the stream so far are, after such an answer
abbrev pub Says : List ℕ → List Incoming → Seen → Result (Option Incoming) SessionFault → Type 0
Says stream given new (Ok None) = items stream ≡ record { items = given; ending = open_end new }
Says stream given new (Err (faults.BadPdu place kind)) = (more : List ℕ)
    → items (stream ++ more) ≡ record { items = given; ending = BadPdu place kind }
Says stream given new (Err (faults.TooLong length)) = (more : List ℕ) →
    items (stream ++ more) ≡ record { items = given; ending = TooLong length }
Says stream given new _ = Unit {0}

-- what one PDU at most did
abbrev pub StepComes : Seen → Seen → Result (Option (Option Incoming)) SessionFault → Type 0
StepComes old new (Ok (Some (Some item))) = (more : List ℕ) → to_come old more ≡ before (item ∷ []) (to_come new more)
StepComes old new (Ok (Some None)) = TellSame old new
StepComes old new (Ok None) = IsOpen new × TellSame new old
StepComes old new (Err (faults.BadPdu place kind)) = TellsEnd old (BadPdu place kind) × TellSame new old
StepComes old new (Err (faults.TooLong length)) = TellsEnd old (TooLong length) × TellSame new old
StepComes old new (Err faults.OutOfMemory) = TellSame new old

abbrev pub fault_by : ℕ → Refusal → SessionFault
fault_by place refusals.Order = faults.BadPdu place Order
fault_by place (refusals.TooLong length) = faults.TooLong length
fault_by place refusals.OutOfMemory = faults.OutOfMemory

abbrev pub fault_of_move : ℕ → Move → Option SessionFault
fault_of_move place OutOfOrder = Some (faults.BadPdu place Order)
fault_of_move place (Passes length) = Some (faults.TooLong length)
fault_of_move place _ = None

abbrev pub fault_of_read : State → ℕ → PduRead (List ℕ) → Option SessionFault
fault_of_read s place (Bad kind) = Some (faults.BadPdu place kind)
fault_of_read s place (Whole pdu used) = fault_of_move place (session_move s pdu)
fault_of_read s place (Short needed) = None

-- the fault of the PDU that stands first, where it is whole and has one
unfoldable pub front_fault : Seen → Option SessionFault
front_fault s = fault_of_read s.state s.held.place (pdu_at Server s.held.rest)

-- a fault that was returned stands first
abbrev pub IsStuck : Seen → SessionFault → Type 0
IsStuck s (faults.BadPdu place kind) = front_fault s ≡ Some (faults.BadPdu place kind)
IsStuck s (faults.TooLong length) = front_fault s ≡ Some (faults.TooLong length)
IsStuck s faults.OutOfMemory = Unit {0}

-- a fault that stands first is returned again, and changes nothing
abbrev pub TellsAgain : {A : Type 0} → Seen → Seen → Result A SessionFault → Type 0
TellsAgain old new result = IfSome (front_fault old) (λ fault. (result ≡ Err fault) × (new ≡ old))

-- ---- out of memory

-- what holds where there was no memory
abbrev pub OnWant : {A : Type 0} → Result A SessionFault → Type 0 → Type 0
OnWant (Ok _) p = Unit {0}
OnWant (Err (faults.BadPdu _ _)) p = Unit {0}
OnWant (Err (faults.TooLong _)) p = Unit {0}
OnWant (Err faults.OutOfMemory) p = p

-- a session that has looked at some of the bytes that are held
abbrev pub ahead_by : State → Held → ℕ → Seen
ahead_by s held n = record { state = s; held = further held n }

-- one PDU at most joined a fragment, where it gave no item and had no fault
abbrev pub StepJoins : State → State → Result (Option (Option Incoming)) SessionFault → Type 0
StepJoins old new (Ok (Some None)) = HasJoined old new
StepJoins old new (Err faults.OutOfMemory) = HasJoined old new
StepJoins old new _ = Unit {0}
