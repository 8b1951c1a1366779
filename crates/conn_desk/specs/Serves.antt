-- A whole connection at a desk.
use Rattle.std.specs.Prelude.{◌^◌, ℕ, ◌≡◌, ◌≤◌, ◌++◌, Bool, List, length, Option, Err, true, false}
use Rattle.std.specs.Io.KnownBytes.{Appends, Consumes}
use Rattle.feed_loop.specs.declared.fed.ReadEnd.{ReadEnd}
use Rattle.feed_loop.specs.declared.fed.ReadEnd.TheVariants as fed_to
use Rattle.conn_desk.specs.declared.asked.DecodedRequest.{DecodedRequest}
use Rattle.scm_model.specs.declared.calls.Reply.{Reply}
use Rattle.rpc_session.specs.declared.state.Incoming.{Incoming}
use Rattle.conn_desk.specs.declared.served.Served.{Served}
use Rattle.conn_desk.specs.declared.served.Served.TheVariants as served
use Rattle.conn_desk.specs.declared.serving.Stop.{Stop}
use Rattle.conn_desk.specs.declared.serving.Stop.TheVariants as stop
use Rattle.conn_desk.specs.Bodies.{asked}
use Rattle.conn_desk.specs.Desks.{Chain, IsLeft}
use Rattle.conn_desk.specs.Connection.{Reached}
use Rattle.conn_desk.specs.Along.{Point, FedOn, GoesOn, HasStopCause}

-- what the connection's end left of the desk: it is as the last request that was answered made it, but where the next one had no answer
abbrev pub Leaves : {D : Type 0} → (rests : D → D → Type 0) → Served → (last now : D) → Type 0
Leaves rests served.Full last now = rests last now
Leaves rests served.OutOfMemory last now = IsLeft rests last now
Leaves rests how last now = now ≡ last

-- The requests of the items that were answered lead from d to last, and the connection came as far as it is answered.
pub record Serves {D : Type 0} (called : D → D → DecodedRequest → Option Reply → Type 0) (rests : D → D → Type 0) (full : D → DecodedRequest
    → Type 0) (d e : D)
    (left left_now held held_now : Option (List ℕ)) (how : Served) : Type 0 where
  pub read : List ℕ
  pub done : List Incoming
  pub heard : List (Option Reply)
  pub written : List ℕ
  pub last : D
  pub chain : Chain called d last (asked done) heard
  pub leaves : Leaves rests how last e
  pub consumed : Consumes left left_now read
  pub most : length read ≤ 2 ^ 40
  pub appended : Appends held held_now written
  pub reached : Reached full e how read left_now done heard written

-- ## One read

-- what was fed before, followed by what was read
abbrev pub fed : List ℕ → List ℕ → List ℕ
fed read stream = stream ++ read

-- a piece was taken, and all items that it made whole are answered
pub record Eaten {D : Type 0} (called : D → D → DecodedRequest → Option Reply → Type 0) (a b : Point D) (faults faults_now : ℕ)
    (piece : List ℕ) : Type 0 where
  pub goes : GoesOn called (fed piece) a b
  pub unfailed : faults_now ≡ faults

-- a piece was taken at which the serving stops
pub record Stopped {D : Type 0} (called : D → D → DecodedRequest → Option Reply → Type 0) (rests : D → D → Type 0) (full : D
    → DecodedRequest → Type 0) (a b : Point D) (faults faults_now : ℕ) (piece : List ℕ) (why : Stop) : Type 0 where
  pub stops : FedOn {T = Unit {0}} called rests full (fed piece) a b (Err why)
  pub cause : HasStopCause {T = Unit {0}} faults faults_now (Err why)

-- how a connection ends whose feeding ended so, where its session is at rest or isn't
abbrev pub served_as : ReadEnd Stop → Bool → Served
served_as fed_to.Ended true = served.Ended
served_as fed_to.Ended false = served.Truncated
served_as fed_to.ReadFault rest = served.ReadFault
served_as fed_to.Worn rest = served.Worn
served_as (fed_to.Stopped (stop.Bad place kind)) rest = served.BadPdu place kind
served_as (fed_to.Stopped (stop.TooLong length)) rest = served.TooLong length
served_as (fed_to.Stopped stop.WriteFault) rest = served.WriteFault
served_as (fed_to.Stopped stop.Full) rest = served.Full
served_as (fed_to.Stopped stop.OutOfMemory) rest = served.OutOfMemory
