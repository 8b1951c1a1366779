-- How far a connection came, said of another desk.
use Rattle.std.proofs.Common.{ℕ, List, Option}
use Rattle.scm_model.specs.declared.calls.Reply.{Reply}
use Rattle.rpc_session.specs.declared.state.Incoming.{Incoming}
use Rattle.conn_desk.specs.declared.asked.DecodedRequest.{DecodedRequest}
use Rattle.conn_desk.specs.declared.served.Served.{Served}
use Rattle.conn_desk.specs.declared.served.Served.TheVariants as served
use Rattle.conn_desk.specs.Connection.{Reached}

pub reached_as : {D E : Type 0} (full : D → DecodedRequest → Type 0) (others : E → DecodedRequest → Type 0) (d : D) (e : E)
    → ((request : DecodedRequest) → full d request → others e request)
    → (how : Served) (read : List ℕ) (left : Option (List ℕ)) (done : List Incoming) (heard : List (Option Reply)) (written : List ℕ)
    → Reached full d how read left done heard written → Reached others e how read left done heard written
reached_as full others d e fills served.Full read left done heard written reached = (
  reached.0,
  record {
    next = reached.1.next;
    follows = reached.1.follows;
    request = reached.1.request;
    asks = reached.1.asks;
    met = fills reached.1.request reached.1.met;
  },
)
reached_as full others d e fills how read left done heard written reached = reached
