-- One PDU at the front of some bytes.
use Rattle.std.specs.Prelude.{ℕ, ◌+◌, ◌*◌, ◌%◌, Bool, true, false, not, ◌==◌, nat_lt, List, [], length, take, drop, slice_index, Option}
use Rattle.std.specs.Prelude.{Some, None, option_map, Result, Ok, Err, if◌then◌else◌}
use Rattle.std.specs.Borrow.{Bor}
use Rattle.rpc_pdu.specs.declared.reading.Header.{Header}
use Rattle.rpc_pdu.specs.declared.pdu.End.{End}
use Rattle.rpc_pdu.specs.declared.pdu.PduType.{PduType}
use Rattle.rpc_pdu.specs.declared.pdu.PduType.TheVariants as types
use Rattle.rpc_pdu.specs.declared.pdu.PduKind.{PduKind}
use Rattle.rpc_pdu.specs.declared.pdu.PduKind.TheVariants as kinds
use Rattle.rpc_pdu.specs.declared.pdu.RequestPdu.{RequestPdu}
use Rattle.rpc_pdu.specs.declared.pdu.ResponsePdu.{ResponsePdu}
use Rattle.rpc_pdu.specs.declared.pdu.FaultPdu.{FaultPdu}
use Rattle.rpc_pdu.specs.declared.pdu.Bind.{Bind}
use Rattle.rpc_pdu.specs.declared.pdu.Ack.{Ack}
use Rattle.rpc_pdu.specs.declared.pdu.Nak.{Nak}
use Rattle.rpc_pdu.specs.declared.pdu.Pdu.{Pdu}
use Rattle.rpc_pdu.specs.declared.pdu.Pdu.TheVariants as pdus
use Rattle.rpc_pdu.specs.declared.pdu.PduRead.{PduRead}
use Rattle.rpc_pdu.specs.declared.pdu.PduRead.TheVariants.{Whole, Short, Bad}
use Rattle.rpc_pdu.specs.Number.{short_at, long_at}
use Rattle.rpc_pdu.specs.Header.{header_at, header_fault, whole_fault, has_flag}
use Rattle.rpc_pdu.specs.Contexts.{are_contexts}

abbrev pub request_pdu_from : ℕ → Option (List ℕ) → Header → List ℕ → Option (RequestPdu (List ℕ))
request_pdu_from stub object h pdu =
    if nat_lt (length pdu) stub then None else Some (record {
      call = h.call;
      first = has_flag 1 h.flags;
      last = has_flag 2 h.flags;
      hint = long_at pdu 16;
      context = short_at pdu 20;
      opnum = short_at pdu 22;
      object = object;
      stub = drop stub pdu;
    })

abbrev pub request_pdu_at : Header → List ℕ → Option (RequestPdu (List ℕ))
request_pdu_at h pdu =
    if has_flag 128 h.flags then request_pdu_from 40 (Some (take 16 (drop 24 pdu))) h pdu else request_pdu_from 24 None h pdu

abbrev pub response_at : Header → List ℕ → Option (ResponsePdu (List ℕ))
response_at h pdu =
    if nat_lt (length pdu) 24 then None else Some (record {
      call = h.call;
      first = has_flag 1 h.flags;
      last = has_flag 2 h.flags;
      hint = long_at pdu 16;
      context = short_at pdu 20;
      stub = drop 24 pdu;
    })

abbrev pub fault_at : Header → List ℕ → Option FaultPdu
fault_at h pdu =
    if nat_lt (length pdu) 32 then None else Some (record {
      call = h.call;
      hint = long_at pdu 16;
      context = short_at pdu 20;
      status = long_at pdu 24;
    })

-- if the authentication length isn't 0, nothing after the header is read
abbrev pub unread_bind : Header → Bind (List ℕ)
unread_bind h = record { call = h.call; auth = h.auth; transmit = 0; receive = 0; group = 0; count = 0; contexts = [] }

abbrev pub read_bind : Header → List ℕ → Bool → Option (Bind (List ℕ))
read_bind h pdu false = None
read_bind h pdu true = Some (record {
  call = h.call;
  auth = h.auth;
  transmit = short_at pdu 16;
  receive = short_at pdu 18;
  group = long_at pdu 20;
  count = slice_index pdu 24;
  contexts = drop 28 pdu;
})

abbrev pub bind_at : Header → List ℕ → Option (Bind (List ℕ))
bind_at h pdu =
    if not (h.auth == 0) then Some (unread_bind h) else
    if nat_lt (length pdu) 28 then None else
    read_bind h pdu (are_contexts (slice_index pdu 24) (drop 28 pdu))

-- the place of the count of results after an address of this length: the next multiple of 4
abbrev pub results_place : ℕ → ℕ
results_place address = 26 + address + (2 + 3 * address) % 4

abbrev pub ack_from : ℕ → ℕ → Header → List ℕ → Option (Ack (List ℕ))
ack_from address place h pdu =
    if nat_lt (length pdu) (place + 4) then None else
    if nat_lt (length pdu) (place + 4 + 24 * slice_index pdu place) then None else Some (record {
      call = h.call;
      transmit = short_at pdu 16;
      receive = short_at pdu 18;
      group = long_at pdu 20;
      address = take address (drop 26 pdu);
      count = slice_index pdu place;
      results = take (24 * slice_index pdu place) (drop (place + 4) pdu);
    })

abbrev pub ack_at : Header → List ℕ → Option (Ack (List ℕ))
ack_at h pdu =
    if nat_lt (length pdu) 26 then None else ack_from (short_at pdu 24) (results_place (short_at pdu 24)) h pdu

abbrev pub nak_at : Header → List ℕ → Option Nak
nak_at h pdu = if nat_lt (length pdu) 21 then None else Some (record { call = h.call; reason = short_at pdu 16 })

abbrev pub pdu_body : PduType → Header → List ℕ → Option (Pdu (List ℕ))
pdu_body types.Request h pdu = option_map pdus.Request (request_pdu_at h pdu)
pdu_body types.Response h pdu = option_map pdus.Response (response_at h pdu)
pdu_body types.Fault h pdu = option_map pdus.Fault (fault_at h pdu)
pdu_body types.Bind h pdu = option_map pdus.Bind (bind_at h pdu)
pdu_body types.Alter h pdu = option_map pdus.Alter (bind_at h pdu)
pdu_body types.BindAck h pdu = option_map pdus.BindAck (ack_at h pdu)
pdu_body types.AlterAck h pdu = option_map pdus.AlterAck (ack_at h pdu)
pdu_body types.BindNak h pdu = option_map pdus.BindNak (nak_at h pdu)

abbrev pub or_bad : Option PduKind → PduRead (List ℕ) → PduRead (List ℕ)
or_bad (Some kind) read = Bad kind
or_bad None read = read

abbrev pub of_body : ℕ → Option (Pdu (List ℕ)) → PduRead (List ℕ)
of_body used None = Bad kinds.Body
of_body used (Some pdu) = Whole pdu used

-- what a whole PDU is
abbrev pub whole_at : PduType → Header → List ℕ → PduRead (List ℕ)
whole_at kind h pdu = or_bad (whole_fault kind h) (of_body h.length (pdu_body kind h pdu))

-- how the bytes from this header on are read
abbrev pub after_header : Header → List ℕ → Result PduType PduKind → PduRead (List ℕ)
after_header h bytes (Err kind) = Bad kind
after_header h bytes (Ok kind) =
    if nat_lt (length bytes) h.length then Short h.length else whole_at kind h (take h.length bytes)

-- the header that the first sixteen bytes are
unfoldable pub header_of : List ℕ → Header
header_of bytes = header_at (take 16 bytes)

-- what stands at the front of some bytes
unfoldable pub pdu_at : End → List ℕ → PduRead (List ℕ)
pdu_at end bytes =
    if nat_lt (length bytes) 16 then Short 16 else after_header (header_of bytes) bytes (header_fault end (header_of bytes))

-- whether more bytes change nothing
abbrev pub IsSettled : {B : Type 0} → PduRead B → Type 0
IsSettled (Short needed) = ⊥
IsSettled _ = Unit {0}

abbrev pub IfWhole : {B : Type 0} → PduRead B → (ℕ → Type 0) → Type 0
IfWhole (Whole pdu used) P = P used
IfWhole _ P = Unit {0}

-- a PDU without where its bytes lie in memory
abbrev pub seen_request : RequestPdu (Bor (List ℕ)) → RequestPdu (List ℕ)
seen_request r = record {
  call = r.call;
  first = r.first;
  last = r.last;
  hint = r.hint;
  context = r.context;
  opnum = r.opnum;
  object = r.object;
  stub = r.stub.now;
}

abbrev pub seen_response : ResponsePdu (Bor (List ℕ)) → ResponsePdu (List ℕ)
seen_response r = record { call = r.call; first = r.first; last = r.last; hint = r.hint; context = r.context; stub = r.stub.now }

abbrev pub seen_bind : Bind (Bor (List ℕ)) → Bind (List ℕ)
seen_bind b = record {
  call = b.call;
  auth = b.auth;
  transmit = b.transmit;
  receive = b.receive;
  group = b.group;
  count = b.count;
  contexts = b.contexts.now;
}

abbrev pub seen_ack : Ack (Bor (List ℕ)) → Ack (List ℕ)
seen_ack a = record {
  call = a.call;
  transmit = a.transmit;
  receive = a.receive;
  group = a.group;
  address = a.address.now;
  count = a.count;
  results = a.results.now;
}

abbrev pub seen_pdu : Pdu (Bor (List ℕ)) → Pdu (List ℕ)
seen_pdu (pdus.Request r) = pdus.Request (seen_request r)
seen_pdu (pdus.Response r) = pdus.Response (seen_response r)
seen_pdu (pdus.Fault f) = pdus.Fault f
seen_pdu (pdus.Bind b) = pdus.Bind (seen_bind b)
seen_pdu (pdus.Alter b) = pdus.Alter (seen_bind b)
seen_pdu (pdus.BindAck a) = pdus.BindAck (seen_ack a)
seen_pdu (pdus.AlterAck a) = pdus.AlterAck (seen_ack a)
seen_pdu (pdus.BindNak n) = pdus.BindNak n

abbrev pub seen_read : PduRead (Bor (List ℕ)) → PduRead (List ℕ)
seen_read (Whole pdu used) = Whole (seen_pdu pdu) used
seen_read (Short needed) = Short needed
seen_read (Bad kind) = Bad kind
