-- What is written is read again.
use Rattle.std.specs.Prelude.{ℕ, ◌*◌, ◌≡◌, ◌<◌, ◌^◌, true, List, ◌++◌, length, IfSome}
use Rattle.rpc_pdu.specs.declared.pdu.End.{End}
use Rattle.rpc_pdu.specs.declared.pdu.End.TheVariants.{Server, Client}
use Rattle.rpc_pdu.specs.declared.pdu.RequestPdu.{RequestPdu}
use Rattle.rpc_pdu.specs.declared.pdu.ResponsePdu.{ResponsePdu}
use Rattle.rpc_pdu.specs.declared.pdu.FaultPdu.{FaultPdu}
use Rattle.rpc_pdu.specs.declared.pdu.Bind.{Bind}
use Rattle.rpc_pdu.specs.declared.pdu.Ack.{Ack}
use Rattle.rpc_pdu.specs.declared.pdu.Nak.{Nak}
use Rattle.rpc_pdu.specs.declared.pdu.Pdu.{Pdu}
use Rattle.rpc_pdu.specs.declared.pdu.Pdu.TheVariants as pdus
use Rattle.rpc_pdu.specs.declared.pdu.PduRead.TheVariants.{Whole}
use Rattle.rpc_pdu.specs.Contexts.{are_contexts}
use Rattle.rpc_pdu.specs.Pdu.{pdu_at}
use Rattle.rpc_pdu.specs.Written.{encoded}

-- the end that reads a PDU's type
abbrev pub reader_of : Pdu (List ℕ) → End
reader_of (pdus.Request r) = Server
reader_of (pdus.Response r) = Client
reader_of (pdus.Fault f) = Client
reader_of (pdus.Bind b) = Server
reader_of (pdus.Alter b) = Server
reader_of (pdus.BindAck a) = Client
reader_of (pdus.AlterAck a) = Client
reader_of (pdus.BindNak n) = Client

pub record IsRequest (r : RequestPdu (List ℕ)) : Type 0 where
  pub call : r.call < 2 ^ 32
  pub hint : r.hint < 2 ^ 32
  pub context : r.context < 2 ^ 16
  pub opnum : r.opnum < 2 ^ 16
  pub object : IfSome r.object (λ object. length object ≡ 16)

pub record IsResponse (r : ResponsePdu (List ℕ)) : Type 0 where
  pub call : r.call < 2 ^ 32
  pub hint : r.hint < 2 ^ 32
  pub context : r.context < 2 ^ 16

pub record IsFault (f : FaultPdu) : Type 0 where
  pub call : f.call < 2 ^ 32
  pub hint : f.hint < 2 ^ 32
  pub context : f.context < 2 ^ 16
  pub status : f.status < 2 ^ 32

-- it has as many whole contexts as it says
pub record IsBind (b : Bind (List ℕ)) : Type 0 where
  pub call : b.call < 2 ^ 32
  pub transmit : b.transmit < 2 ^ 16
  pub receive : b.receive < 2 ^ 16
  pub group : b.group < 2 ^ 32
  pub contexts : are_contexts b.count b.contexts ≡ true

-- it has as many whole results as it says
pub record IsAck (a : Ack (List ℕ)) : Type 0 where
  pub call : a.call < 2 ^ 32
  pub transmit : a.transmit < 2 ^ 16
  pub receive : a.receive < 2 ^ 16
  pub group : a.group < 2 ^ 32
  pub results : length a.results ≡ 24 * a.count

pub record IsNak (n : Nak) : Type 0 where
  pub call : n.call < 2 ^ 32
  pub reason : n.reason < 2 ^ 16

-- each number is within its field, and each count says how many there are
abbrev pub IsExactPdu : Pdu (List ℕ) → Type 0
IsExactPdu (pdus.Request r) = IsRequest r
IsExactPdu (pdus.Response r) = IsResponse r
IsExactPdu (pdus.Fault f) = IsFault f
IsExactPdu (pdus.Bind b) = IsBind b
IsExactPdu (pdus.Alter b) = IsBind b
IsExactPdu (pdus.BindAck a) = IsAck a
IsExactPdu (pdus.AlterAck a) = IsAck a
IsExactPdu (pdus.BindNak n) = IsNak n

-- the bytes of a PDU are read as that PDU, whatever bytes follow them
abbrev pub IsPduReadBack : Pdu (List ℕ) → Type 0
IsPduReadBack pdu = (more : List ℕ) → pdu_at (reader_of pdu) (encoded pdu ++ more) ≡ Whole pdu (length (encoded pdu))
