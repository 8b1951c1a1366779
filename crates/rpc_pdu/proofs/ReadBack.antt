-- What is written is read again.
use Rattle.std.proofs.Common.{◌≡◌, ℕ, ◌<◌, ◌+◌, ◌*◌, ◌^◌, Bool, true, false, cond, List, [], ◌∷◌, ◌++◌, length, take, drop, Option, Some}
use Rattle.std.proofs.Common.{None, refl, sym, ap, ◌∙◌, arith, length-append, nat_lt, subst, append_assoc}
use Rattle.std.specs.Prelude.{slice_index, option_map, not, ◌&&◌}
use Rattle.std.specs.Int.{w32, from_le_bytes, to_le_bytes}
use Rattle.std.proofs.lemmas.Bool.{le-ltb}
use Rattle.std.proofs.lemmas.List.{take_at, drop_at, get_or-append-add, take_all, length-take-le}
use Rattle.std.proofs.lemmas.Nat.{from_le_bytes-to_le_bytes_2, from_le_bytes-to_le_bytes_4}
use Rattle.rpc_pdu.specs.declared.reading.Header.{Header}
use Rattle.rpc_pdu.specs.declared.pdu.End.{End}
use Rattle.rpc_pdu.specs.declared.pdu.End.TheVariants.{Server, Client}
use Rattle.rpc_pdu.specs.declared.pdu.PduType.{PduType}
use Rattle.rpc_pdu.specs.declared.pdu.PduType.TheVariants as types
use Rattle.rpc_pdu.specs.declared.pdu.RequestPdu.{RequestPdu}
use Rattle.rpc_pdu.specs.declared.pdu.ResponsePdu.{ResponsePdu}
use Rattle.rpc_pdu.specs.declared.pdu.FaultPdu.{FaultPdu}
use Rattle.rpc_pdu.specs.declared.pdu.Bind.{Bind}
use Rattle.rpc_pdu.specs.declared.pdu.Ack.{Ack}
use Rattle.rpc_pdu.specs.declared.pdu.Nak.{Nak}
use Rattle.rpc_pdu.specs.declared.pdu.Pdu.{Pdu}
use Rattle.rpc_pdu.specs.declared.pdu.Pdu.TheVariants as pdus
use Rattle.rpc_pdu.specs.declared.pdu.PduRead.TheVariants.{Whole}
use Rattle.rpc_pdu.specs.declared.pdu.PduKind.TheVariants as kinds
use Rattle.rpc_pdu.specs.Header.{type_of, whole_fault, has_flag}
use Rattle.rpc_pdu.specs.Pdu.{bind_at, ack_at, results_place, pdu_at, header_of, pdu_body, IsSettled}
use Rattle.rpc_pdu.specs.Written.{pdu_header, encoded, flags_of, object_bytes, fault_bytes, nak_bytes, le_16, le_32, zeros}
use Rattle.rpc_pdu.specs.Written.{IsWritable, request_pdu_bytes, request_front, response_bytes, response_front, bind_bytes, bind_front}
use Rattle.rpc_pdu.specs.Written.{ack_bytes, ack_front, ack_size, address_padding, result_count}
use Rattle.rpc_pdu.specs.ReadBack.{IsRequest, IsResponse, IsFault, IsBind, IsAck, IsNak, IsExactPdu, IsPduReadBack, reader_of}
use Rattle.rpc_pdu.proofs.Settled.{settled}

-- a header that is written
abbrev made : ℕ → ℕ → ℕ → ℕ → Header
made kind flags size call = record { version = 5; minor = 0; kind = kind; flags = flags; drep = 16; length = size; auth = 0; call = call }

header_back : (kind flags size call : ℕ) (rest : List ℕ) → size < 2 ^ 16 → call < 2 ^ 32
    → header_of (pdu_header kind flags size call ++ rest) ≡ made kind flags size call
unfolding header_of
header_back kind flags size call rest s c =
    ap (λ n. made kind flags n (from_le_bytes w32 (to_le_bytes w32 call))) (from_le_bytes-to_le_bytes_2 size s)
    ∙ ap (made kind flags size) (from_le_bytes-to_le_bytes_4 call c)

-- bytes that begin with a header of their own length, and whose body is read
module _ (end : End) (kind : ℕ) (type : PduType) (flags size call : ℕ) (rest : List ℕ) (pdu : Pdu (List ℕ)) where
  abbrev bytes : List ℕ
  bytes = pdu_header kind flags size call ++ rest

  read_whole : type_of end kind ≡ Some type → whole_fault type (made kind flags size call) ≡ None → 16 + length rest ≡ size → size < 2 ^ 16
      → call < 2 ^ 32 → pdu_body type (made kind flags size call) bytes ≡ Some pdu → pdu_at end bytes ≡ Whole pdu (length bytes)
  unfolding pdu_at
  read_whole t w l s c b =
      let long : nat_lt (length bytes) 16 ≡ false = le-ltb (length bytes) 16 (omega arith) in
      let some : nat_lt size 16 ≡ false = le-ltb size 16 (omega (arith, l)) in
      let enough : nat_lt (length bytes) size ≡ false = le-ltb (length bytes) size (omega (arith, l)) in
      let own : size ≡ length bytes = omega (arith, l) in
      let all : take size bytes ≡ bytes = take_all size bytes (omega (arith, l)) in
      rw (long, header_back kind flags size call rest s c, t, some, enough, all, w, b) (ap (Whole pdu) own)

-- the flags of a fragment say what they were made of
first_flag : (first last : Bool) → has_flag 1 (flags_of first last) ≡ first
first_flag true true = refl
first_flag true false = refl
first_flag false true = refl
first_flag false false = refl

last_flag : (first last : Bool) → has_flag 2 (flags_of first last) ≡ last
last_flag true true = refl
last_flag true false = refl
last_flag false true = refl
last_flag false false = refl

-- a request or a response may be any fragment
any_fragment : (flags size call : ℕ) → whole_fault types.Response (made 2 flags size call) ≡ None
any_fragment flags size call = either (has_flag 1 flags && has_flag 2 flags) where
  either : (b : Bool) → cond (not b && false) (Some kinds.Flags) None ≡ None
  either true = refl
  either false = refl

module _ (first last : Bool) (call hint context size : ℕ) (stub : List ℕ) where
  abbrev response : List ℕ
  response = pdu_header 2 (flags_of first last) size call ++ le_32 hint ++ le_16 context ++ zeros 2 ++ stub

  response_body : hint < 2 ^ 32 → context < 2 ^ 16 →
      pdu_body types.Response (made 2 (flags_of first last) size call) response
      ≡ Some (pdus.Response (record { call = call; first = first; last = last; hint = hint; context = context; stub = stub }))
  response_body h c =
      let long : nat_lt (length response) 24 ≡ false = le-ltb (length response) 24 (omega arith) in
      rw (long, first_flag first last, last_flag first last, from_le_bytes-to_le_bytes_4 hint h, from_le_bytes-to_le_bytes_2 context c) refl

response_back : (r : ResponsePdu (List ℕ)) → 24 + length r.stub < 2 ^ 16 → IsResponse r
    → pdu_at Client (response_bytes r) ≡ Whole (pdus.Response r) (length (response_bytes r))
unfolding response_bytes response_front
response_back r s x =
    read_whole Client 2 types.Response (flags_of r.first r.last) (24 + length r.stub) r.call (le_32 r.hint ++ le_16 r.context
    ++ zeros 2 ++ r.stub) (pdus.Response r)
    refl (any_fragment (flags_of r.first r.last) (24 + length r.stub) r.call) (omega arith) s x.call
    (response_body r.first r.last r.call r.hint r.context (24 + length r.stub) r.stub x.hint x.context)

-- ---- requests

object_first : (first last : Bool) → has_flag 1 (flags_of first last + 128) ≡ first
object_first true true = refl
object_first true false = refl
object_first false true = refl
object_first false false = refl

object_last : (first last : Bool) → has_flag 2 (flags_of first last + 128) ≡ last
object_last true true = refl
object_last true false = refl
object_last false true = refl
object_last false false = refl

object_told : (first last : Bool) → has_flag 128 (flags_of first last + 128) ≡ true
object_told true true = refl
object_told true false = refl
object_told false true = refl
object_told false false = refl

no_object_told : (first last : Bool) → has_flag 128 (flags_of first last) ≡ false
no_object_told true true = refl
no_object_told true false = refl
no_object_told false true = refl
no_object_told false false = refl

plus_none : (n : ℕ) → n + 0 ≡ n
plus_none n = omega arith

-- the fragment of a request that these make
abbrev request_pdu : Bool → Bool → ℕ → ℕ → ℕ → ℕ → Option (List ℕ) → List ℕ → RequestPdu (List ℕ)
request_pdu first last call hint context opnum object stub = record {
  call = call;
  first = first;
  last = last;
  hint = hint;
  context = context;
  opnum = opnum;
  object = object;
  stub = stub;
}

module _ (first last : Bool) (call hint context opnum size : ℕ) where
  abbrev request_start : ℕ → List ℕ
  request_start flags = pdu_header 0 flags size call ++ le_32 hint ++ le_16 context ++ le_16 opnum

  abbrev request_is : Option (List ℕ) → List ℕ → Option (Pdu (List ℕ))
  request_is object stub = Some (pdus.Request (request_pdu first last call hint context opnum object stub))

  plain_body : (stub : List ℕ) → hint < 2 ^ 32 → context < 2 ^ 16 → opnum < 2 ^ 16 →
      pdu_body types.Request (made 0 (flags_of first last) size call) (request_start (flags_of first last) ++ stub) ≡ request_is None stub
  plain_body stub h c o =
      let long : nat_lt (length (request_start (flags_of first last) ++ stub)) 24 ≡ false =
      le-ltb (length (request_start (flags_of first last) ++ stub)) 24 (omega arith) in
      rw (
        no_object_told first last,
        long,
        first_flag first last,
        last_flag first last,
        from_le_bytes-to_le_bytes_4 hint h,
        from_le_bytes-to_le_bytes_2 context c,
        from_le_bytes-to_le_bytes_2 opnum o,
      ) refl

  object_body : (object stub : List ℕ) → length object ≡ 16 → hint < 2 ^ 32 → context < 2 ^ 16 → opnum < 2 ^ 16 →
      pdu_body types.Request (made 0 (flags_of first last + 128) size call) (request_start (flags_of first last + 128)
      ++ (object ++ stub)) ≡ request_is (Some object) stub
  object_body object stub l h c o =
      let long : nat_lt (length (request_start (flags_of first last + 128) ++ (object ++ stub))) 40 ≡ false =
      le-ltb (length (request_start (flags_of first last + 128) ++ (object ++ stub))) 40 (omega (arith, l, length-append object stub)) in
      rw (
        object_told first last,
        long,
        object_first first last,
        object_last first last,
        from_le_bytes-to_le_bytes_4 hint h,
        from_le_bytes-to_le_bytes_2 context c,
        from_le_bytes-to_le_bytes_2 opnum o,
        take_at object stub 16 l,
        drop_at object stub 16 l,
      ) refl

any_request : (flags size call : ℕ) → whole_fault types.Request (made 0 flags size call) ≡ None
any_request flags size call = any_fragment flags size call

abbrev RequestBack : RequestPdu (List ℕ) → Type 0
RequestBack r = 24 + length (object_bytes r.object) + length r.stub < 2 ^ 16 → IsRequest r
    → pdu_at Server (request_pdu_bytes r) ≡ Whole (pdus.Request r) (length (request_pdu_bytes r))

request_back : (first last : Bool) (call hint context opnum : ℕ) (object : Option (List ℕ)) (stub : List ℕ) →
    RequestBack (request_pdu first last call hint context opnum object stub)
unfolding request_pdu_bytes request_front
request_back first last call hint context opnum None stub s x =
    let size = 24 + length stub in
    let plain : flags_of first last + 0 ≡ flags_of first last = plus_none (flags_of first last) in
    rw plain (read_whole Server 0 types.Request (flags_of first last) size call (le_32 hint ++ le_16 context ++ le_16 opnum
    ++ stub)
    (pdus.Request (request_pdu first last call hint context opnum None stub))
    refl (any_request (flags_of first last) size call) (omega arith) (omega (arith, s)) x.call
    (plain_body first last call hint context opnum size stub x.hint x.context x.opnum))
request_back first last call hint context opnum (Some object) stub s x =
    let size = 24 + length object + length stub in
    read_whole Server 0 types.Request (flags_of first last + 128) size call (le_32 hint ++ le_16 context ++ le_16 opnum
    ++ (object ++ stub))
    (pdus.Request (request_pdu first last call hint context opnum (Some object) stub))
    refl (any_request (flags_of first last + 128) size call) (omega (arith, length-append object stub)) s x.call
    (object_body first last call hint context opnum size object stub x.object x.hint x.context x.opnum)

-- ---- the PDUs of one size

fault_back : (f : FaultPdu) → IsFault f → pdu_at Client (fault_bytes f) ≡ Whole (pdus.Fault f) (length (fault_bytes f))
fault_back f x =
    read_whole Client 3 types.Fault 3 32 f.call (le_32 f.hint ++ le_16 f.context ++ zeros 2 ++ le_32 f.status ++ zeros 4)
    (pdus.Fault f)
    refl refl (omega arith) (omega arith) x.call
    (rw (
      from_le_bytes-to_le_bytes_4 f.hint x.hint,
      from_le_bytes-to_le_bytes_2 f.context x.context,
      from_le_bytes-to_le_bytes_4 f.status x.status,
    ) refl)

nak_back : (n : Nak) → IsNak n → pdu_at Client (nak_bytes n) ≡ Whole (pdus.BindNak n) (length (nak_bytes n))
nak_back n x =
    read_whole Client 13 types.BindNak 3 21 n.call (le_16 n.reason ++ (1 ∷ 5 ∷ 0 ∷ [])) (pdus.BindNak n)
    refl refl (omega arith) (omega arith) x.call
    (rw (from_le_bytes-to_le_bytes_2 n.reason x.reason) refl)

-- ---- binds and alter_contexts

abbrev bind_start : ℕ → ℕ → Bind (List ℕ) → List ℕ
bind_start kind size b = pdu_header kind 3 size b.call ++ le_16 b.transmit ++ le_16 b.receive ++ le_32 b.group
    ++ (b.count ∷ zeros 3)

abbrev with_auth : Bind (List ℕ) → ℕ → Option (Bind (List ℕ))
with_auth b n = Some (record {
  call = b.call;
  auth = n;
  transmit = b.transmit;
  receive = b.receive;
  group = b.group;
  count = b.count;
  contexts = b.contexts;
})

bind_body : (kind size : ℕ) (b : Bind (List ℕ)) → b.auth ≡ 0 → IsBind b
    → bind_at (made kind 3 size b.call) (bind_start kind size b ++ b.contexts) ≡ Some b
bind_body kind size b a x =
    let long : nat_lt (length (bind_start kind size b ++ b.contexts)) 28 ≡ false =
    le-ltb (length (bind_start kind size b ++ b.contexts)) 28 (omega arith) in
    rw (
      long,
      x.contexts,
      from_le_bytes-to_le_bytes_2 b.transmit x.transmit,
      from_le_bytes-to_le_bytes_2 b.receive x.receive,
      from_le_bytes-to_le_bytes_4 b.group x.group,
    )
    (ap (with_auth b) (sym a))

bind_back : (b : Bind (List ℕ)) → 28 + length b.contexts < 2 ^ 16 → b.auth ≡ 0 → IsBind b
    → pdu_at Server (bind_bytes 11 b) ≡ Whole (pdus.Bind b) (length (bind_bytes 11 b))
unfolding bind_bytes bind_front
bind_back b s a x =
    let size = 28 + length b.contexts in
    read_whole Server 11 types.Bind 3 size b.call (le_16 b.transmit ++ le_16 b.receive ++ le_32 b.group ++ (b.count ∷ zeros 3)
    ++ b.contexts) (pdus.Bind b)
    refl refl (omega arith) s x.call (ap (option_map pdus.Bind) (bind_body 11 size b a x))

alter_back : (b : Bind (List ℕ)) → 28 + length b.contexts < 2 ^ 16 → b.auth ≡ 0 → IsBind b
    → pdu_at Server (bind_bytes 14 b) ≡ Whole (pdus.Alter b) (length (bind_bytes 14 b))
unfolding bind_bytes bind_front
alter_back b s a x =
    let size = 28 + length b.contexts in
    read_whole Server 14 types.Alter 3 size b.call (le_16 b.transmit ++ le_16 b.receive ++ le_32 b.group ++ (b.count ∷ zeros 3)
    ++ b.contexts) (pdus.Alter b)
    refl refl (omega arith) s x.call (ap (option_map pdus.Alter) (bind_body 14 size b a x))

-- ---- answers to binds

abbrev ack_start : ℕ → ℕ → Ack (List ℕ) → List ℕ
ack_start kind size a = pdu_header kind 3 size a.call ++ le_16 a.transmit ++ le_16 a.receive ++ le_32 a.group
    ++ le_16 (length a.address)

-- what stands behind an address
abbrev ack_tail : Ack (List ℕ) → List ℕ
ack_tail a = result_count (address_padding (length a.address)) a.count ++ a.results

pad_length : (n : ℕ) → length (zeros (address_padding n)) ≡ address_padding n
pad_length n = length-take-le (address_padding n) (0 ∷ 0 ∷ 0 ∷ 0 ∷ []) (omega arith)

module _ (kind size : ℕ) (a : Ack (List ℕ)) where
  abbrev place : ℕ
  place = results_place (length a.address)

  abbrev ahead : List ℕ
  ahead = (ack_start kind size a ++ a.address) ++ zeros (address_padding (length a.address))

  abbrev counts : List ℕ
  counts = a.count ∷ 0 ∷ 0 ∷ 0 ∷ []

  abbrev answer : List ℕ
  answer = ahead ++ (counts ++ a.results)

  place_is : length ahead ≡ place
  place_is = omega (
    arith,
    length-append (ack_start kind size a ++ a.address) (zeros (address_padding (length a.address))),
    length-append (ack_start kind size a) a.address,
    pad_length (length a.address),
  )

  count_is : slice_index answer place ≡ a.count
  count_is = ap (slice_index answer) (sym place_is ∙ sym (plus_none (length ahead))) ∙ get_or-append-add ahead (counts ++ a.results) 0 0

  results_is : drop (place + 4) answer ≡ a.results
  results_is = ap (drop (place + 4)) (sym (append_assoc ahead counts a.results))
      ∙ drop_at (ahead ++ counts) a.results (place + 4) (omega (arith, place_is, length-append ahead counts))

  address_is : take (length a.address) (drop 26 answer) ≡ a.address
  address_is =
      ap (take (length a.address)) (append_assoc a.address (zeros (address_padding (length a.address))) (counts ++ a.results))
      ∙ take_at a.address (zeros (address_padding (length a.address)) ++ (counts ++ a.results)) (length a.address) refl

  answer_length : length answer ≡ place + 4 + length a.results
  answer_length = omega (arith, place_is, length-append ahead (counts ++ a.results))

  ack_body : IsAck a → length a.address < 2 ^ 16 → ack_at (made kind 3 size a.call) answer ≡ Some a
  ack_body x l =
      let long : nat_lt (length answer) 26 ≡ false = le-ltb (length answer) 26 (omega (arith, answer_length)) in
      let counted_in : nat_lt (length answer) (place + 4) ≡ false = le-ltb (length answer) (place + 4) (omega (arith, answer_length)) in
      let whole : nat_lt (length answer) (place + 4 + 24 * a.count) ≡ false =
      le-ltb (length answer) (place + 4 + 24 * a.count) (omega (arith, answer_length, x.results)) in
      let all : take (24 * a.count) a.results ≡ a.results = take_all (24 * a.count) a.results (omega (arith, x.results)) in
      rw (
        long,
        from_le_bytes-to_le_bytes_2 (length a.address) l,
        counted_in,
        count_is,
        whole,
        results_is,
        all,
        address_is,
        from_le_bytes-to_le_bytes_2 a.transmit x.transmit,
        from_le_bytes-to_le_bytes_2 a.receive x.receive,
        from_le_bytes-to_le_bytes_4 a.group x.group,
      ) refl

ack_parts : (kind : ℕ) (a : Ack (List ℕ)) → ack_bytes kind a ≡ answer kind (ack_size a) a
unfolding ack_bytes ack_front result_count
ack_parts kind a =
    let start = ack_start kind (ack_size a) a ++ a.address in
    let zeros_in = zeros (address_padding (length a.address)) in
    ap (λ t. start ++ t) (append_assoc zeros_in (counts kind (ack_size a) a) a.results)
    ∙ sym (append_assoc start zeros_in (counts kind (ack_size a) a ++ a.results))

-- what stands behind the header of an answer
abbrev behind_header : Ack (List ℕ) → List ℕ
behind_header a =
    (((le_16 a.transmit ++ le_16 a.receive ++ le_32 a.group ++ le_16 (length a.address)) ++ a.address)
    ++ zeros (address_padding (length a.address)))
    ++ ((a.count ∷ 0 ∷ 0 ∷ 0 ∷ []) ++ a.results)

sized : (kind : ℕ) (a : Ack (List ℕ)) → 16 + length (behind_header a) ≡ ack_size a
sized kind a = omega (arith, answer_length kind (ack_size a) a)

module _ (a : Ack (List ℕ)) (s : ack_size a < 2 ^ 16) (x : IsAck a) where
  bind_ack_back : pdu_at Client (ack_bytes 12 a) ≡ Whole (pdus.BindAck a) (length (ack_bytes 12 a))
  bind_ack_back = rw (ack_parts 12 a) (read_whole Client 12 types.BindAck 3 (ack_size a) a.call (behind_header a) (pdus.BindAck a)
      refl refl (sized 12 a) s x.call (ap (option_map pdus.BindAck) (ack_body 12 (ack_size a) a x (omega (arith, s)))))

  alter_ack_back : pdu_at Client (ack_bytes 15 a) ≡ Whole (pdus.AlterAck a) (length (ack_bytes 15 a))
  alter_ack_back = rw (ack_parts 15 a) (read_whole Client 15 types.AlterAck 3 (ack_size a) a.call (behind_header a) (pdus.AlterAck a)
      refl refl (sized 15 a) s x.call (ap (option_map pdus.AlterAck) (ack_body 15 (ack_size a) a x (omega (arith, s)))))

-- ---- all of them

read_alone : (pdu : Pdu (List ℕ)) → IsWritable pdu → IsExactPdu pdu → pdu_at (reader_of pdu) (encoded pdu) ≡ Whole pdu
    (length (encoded pdu))
read_alone (pdus.Request r) s x = request_back r.first r.last r.call r.hint r.context r.opnum r.object r.stub s x
read_alone (pdus.Response r) s x = response_back r s x
read_alone (pdus.Fault f) s x = fault_back f x
read_alone (pdus.Bind b) s x = bind_back b s.0 s.1 x
read_alone (pdus.Alter b) s x = alter_back b s.0 s.1 x
read_alone (pdus.BindAck a) s x = bind_ack_back a s x
read_alone (pdus.AlterAck a) s x = alter_ack_back a s x
read_alone (pdus.BindNak n) s x = nak_back n x

pub read_back : (pdu : Pdu (List ℕ)) → IsWritable pdu → IsExactPdu pdu → IsPduReadBack pdu
read_back pdu s x more =
    let alone = read_alone pdu s x in
    settled (reader_of pdu) (encoded pdu) more (subst IsSettled (sym alone) tt) ∙ alone
