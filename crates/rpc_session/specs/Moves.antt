-- What one PDU does to a session.
use Rattle.std.specs.Prelude.{ℕ, ◌≡◌, ◌≤◌, ◌<◌, min, max, Bool, true, false, not, ◌&&◌, ◌||◌, ◌==◌, nat_lt, nat_le, List, [], ◌∷◌, ◌++◌}
use Rattle.std.specs.Prelude.{length, take, Option, Some, None, is_some, IsSome, IfSome, Result, Ok, Err, if◌then◌else◌}
use Rattle.std.specs.FinMap as map
use Rattle.rpc_pdu.specs.declared.pdu.RequestPdu.{RequestPdu}
use Rattle.rpc_pdu.specs.declared.pdu.Bind.{Bind}
use Rattle.rpc_pdu.specs.declared.pdu.Ack.{Ack}
use Rattle.rpc_pdu.specs.declared.pdu.Pdu.{Pdu}
use Rattle.rpc_pdu.specs.declared.pdu.Pdu.TheVariants as pdus
use Rattle.rpc_pdu.specs.Contexts.{contexts_of}
use Rattle.rpc_pdu.specs.Written.{fault_bytes, ack_bytes, nak_bytes}
use Rattle.rpc_session.specs.declared.contexts.Interface.{Interface}
use Rattle.rpc_session.specs.declared.contexts.Interface.TheVariants.{Svcctl, Trigger}
use Rattle.rpc_session.specs.declared.state.Terms.{Terms}
use Rattle.rpc_session.specs.declared.state.Unfinished.{Unfinished}
use Rattle.rpc_session.specs.declared.state.Incoming.{Incoming}
use Rattle.rpc_session.specs.declared.state.Incoming.TheVariants as items
use Rattle.rpc_session.specs.declared.state.State.{State}
use Rattle.rpc_session.specs.declared.state.Refusal.{Refusal}
use Rattle.rpc_session.specs.declared.state.Refusal.TheVariants as refusals
use Rattle.rpc_session.specs.Contexts.{Interfaces, known_after, results_of}

-- the answer to a PDU
pub data Move : Type 0 where
  -- an item comes
  Gives : Incoming → State → Move
  -- a fragment is joined
  Joins : State → Move
  -- it stands out of order
  OutOfOrder : Move
  -- the joined stub is too long
  Passes : ℕ → Move

-- sizes are held between 1432 and 5840
abbrev pub held_size : ℕ → ℕ
held_size size = max 1432 (min 5840 size)

abbrev pub terms_of : Bind (List ℕ) → Terms
terms_of b = record { transmit = held_size b.receive; receive = held_size b.transmit; group = if b.group == 0 then 1 else b.group }

-- the answer to a bind or an alter_context
abbrev pub ack_to : List ℕ → Terms → Bind (List ℕ) → Ack (List ℕ)
ack_to address terms b = record {
  call = b.call;
  transmit = terms.transmit;
  receive = terms.receive;
  group = terms.group;
  address = address;
  count = b.count;
  results = results_of (contexts_of b.count b.contexts);
}

abbrev pub with_contexts : State → Terms → Bind (List ℕ) → State
with_contexts s terms b = record {
  terms = Some terms;
  known = known_after s.known (contexts_of b.count b.contexts);
  unfinished = s.unfinished;
}

-- what an accepted bind or alter_context does
abbrev pub accepted : Bool → List ℕ → State → Terms → Bind (List ℕ) → Move
accepted alter address s terms b = Gives (items.Local (ack_bytes (if alter then 15 else 12) (ack_to address terms b)))
    (with_contexts s terms b)

abbrev pub bind_move : State → Bind (List ℕ) → Move
bind_move s b =
    if is_some s.terms || is_some s.unfinished then OutOfOrder else
    if not (b.auth == 0) then Gives (items.Local (nak_bytes (record { call = b.call; reason = 0 }))) s else
    accepted false (0 ∷ []) s (terms_of b) b

abbrev pub alter_by : Option Terms → Bool → State → Bind (List ℕ) → Move
alter_by None unfinished s b = OutOfOrder
alter_by (Some terms) unfinished s b =
    if unfinished then OutOfOrder else accepted true [] s terms b

abbrev pub alter_move : State → Bind (List ℕ) → Move
alter_move s b = alter_by s.terms (is_some s.unfinished) s b

-- the calls that are served
abbrev pub is_served : Interface → ℕ → Bool
is_served Svcctl opnum = nat_le opnum 8 || (nat_le 11 opnum && nat_le opnum 21) || opnum == 37 || opnum == 39 || opnum == 40
    || (nat_le 47 opnum && nat_le opnum 49)
is_served Trigger opnum = opnum == 0

abbrev pub by_interface : Option Interface → ℕ → Result Interface ℕ
by_interface None opnum = Err 0x1C010003
by_interface (Some interface) opnum = if is_served interface opnum then Ok interface else Err 0x1C010002

-- the interface that a whole request is for, or the status of its fault
abbrev pub verdict_of : Interfaces → ℕ → ℕ → Result Interface ℕ
verdict_of known context opnum = by_interface (map.get known context) opnum

abbrev pub transmit_of : Option Terms → ℕ
transmit_of None = 0
transmit_of (Some terms) = terms.transmit

abbrev pub item_by : Result Interface ℕ → ℕ → Unfinished → Incoming
item_by (Ok interface) transmit u = items.Request (record {
  call = u.call;
  context = u.context;
  interface = interface;
  opnum = u.opnum;
  transmit = transmit;
  body = u.body;
})
item_by (Err status) transmit u = items.Local (fault_bytes (record { call = u.call; hint = 0; context = u.context; status = status }))

-- a request comes of a bound session alone, and its transmit size is the session's
abbrev pub IsFor : Option Terms → Option Incoming → Type 0
IsFor terms (Some (items.Request r)) = IsSome terms × IfSome terms (λ t. r.transmit ≡ t.transmit)
IsFor terms _ = Unit {0}

-- the item of a whole request
abbrev pub item_of : State → Unfinished → Incoming
item_of s u = item_by (verdict_of s.known u.context u.opnum) (transmit_of s.terms) u

abbrev pub with_payload : Unfinished → List ℕ → Unfinished
with_payload u body = record { call = u.call; context = u.context; opnum = u.opnum; body = body }

abbrev pub with_unfinished : State → Option Unfinished → State
with_unfinished s u = record { terms = s.terms; known = s.known; unfinished = u }

abbrev pub limit : ℕ
limit = 1048576

-- a request with its fragments so far
abbrev pub move_joined : State → Bool → Unfinished → Move
move_joined s last u =
    if nat_lt limit (length u.body) then Passes (length u.body) else
    if last then Gives (item_of s u) (with_unfinished s None) else Joins (with_unfinished s (Some u))

abbrev pub unfinished_of : RequestPdu (List ℕ) → Unfinished
unfinished_of r = record { call = r.call; context = r.context; opnum = r.opnum; body = r.stub }

abbrev pub continued : Unfinished → RequestPdu (List ℕ) → Unfinished
continued u r = with_payload u (u.body ++ r.stub)

abbrev pub continues : Unfinished → RequestPdu (List ℕ) → Bool
continues u r = not r.first && u.call == r.call && u.context == r.context && u.opnum == r.opnum

abbrev pub joined_onto : Option Unfinished → State → RequestPdu (List ℕ) → Move
joined_onto None s r = OutOfOrder
joined_onto (Some u) s r = move_joined s r.last (continued u r)

abbrev pub fragment_move : Option Unfinished → State → RequestPdu (List ℕ) → Move
fragment_move None s r = if r.first then move_joined s r.last (unfinished_of r) else OutOfOrder
fragment_move (Some u) s r = if continues u r then move_joined s r.last (continued u r) else OutOfOrder

-- a further fragment of the unfinished request
abbrev pub going_on : State → RequestPdu (List ℕ) → Move
going_on s r = joined_onto s.unfinished s r

abbrev pub request_move : State → RequestPdu (List ℕ) → Move
request_move s r = if is_some s.terms then fragment_move s.unfinished s r else OutOfOrder

unfoldable pub session_move : State → Pdu (List ℕ) → Move
session_move s (pdus.Request r) = request_move s r
session_move s (pdus.Bind b) = bind_move s b
session_move s (pdus.Alter b) = alter_move s b
session_move s _ = OutOfOrder

-- the PDU is in order, and no longer than it may be
abbrev pub HasPlace : Move → Type 0
HasPlace (Gives item s) = Unit {0}
HasPlace (Joins s) = Unit {0}
HasPlace OutOfOrder = ⊥
HasPlace (Passes n) = ⊥

-- What a session that took a PDU returned is the move. An `OutOfMemory` leaves the state, and comes only where the PDU has its place.
abbrev pub Moved : State → State → Result (Option Incoming) Refusal → Move → Type 0
Moved old new (Ok (Some item)) move = move ≡ Gives item new
Moved old new (Ok None) move = move ≡ Joins new
Moved old new (Err refusals.Order) move = (move ≡ OutOfOrder) × (new ≡ old)
Moved old new (Err (refusals.TooLong length)) move = (move ≡ Passes length) × (new ≡ old)
Moved old new (Err refusals.OutOfMemory) move = HasPlace move × (new ≡ old)

-- what joining a stub returned, where grown is the request with it
abbrev pub Grown : Unfinished → Unfinished → Result (Unit {0}) Refusal → Unfinished → Type 0
Grown old new (Ok x) grown = (new ≡ grown) × (length grown.body ≤ limit)
Grown old new (Err refusals.Order) grown = ⊥
Grown old new (Err (refusals.TooLong n)) grown = (new ≡ old) × (n ≡ length grown.body) × (limit < n)
Grown old new (Err refusals.OutOfMemory) grown = (new ≡ old) × (length grown.body ≤ limit)

-- ---- fragments that are given back

abbrev pub body_length : Option Unfinished → Option ℕ
body_length None = None
body_length (Some u) = Some (length u.body)

-- a request with so much of its body, and none where there was none
abbrev pub cut_to : Option ℕ → Option Unfinished → Option Unfinished
cut_to None u = None
cut_to (Some n) None = None
cut_to (Some n) (Some u) = Some (with_payload u (take n u.body))

-- a request that was unfinished still is, with more at the end of its body
abbrev pub HasGrown : Option Unfinished → Option Unfinished → Type 0
HasGrown None now = Unit {0}
HasGrown (Some u) now = (more : List ℕ) × (now ≡ Some (with_payload u (u.body ++ more)))

-- what came of a state by joining fragments alone
pub record HasJoined (old new : State) : Type 0 where
  pub terms : new.terms ≡ old.terms
  pub known : new.known ≡ old.known
  pub unfinished : HasGrown old.unfinished new.unfinished
