-- What became of the items on a stretch of a connection.
use Rattle.std.specs.Prelude.{ℕ, ◌≡◌, ◌≤◌, ◌<◌, ◌^◌, ◌++◌, List, [], ◌∷◌, length, Option, Some, Result, Ok, Err}
use Rattle.feed_loop.specs.Feeding.{At}
use Rattle.outside.specs.Causes.{Rose}
use Rattle.outside.specs.Written.{Begins}
use Rattle.conn_desk.specs.declared.asked.DecodedRequest.{DecodedRequest}
use Rattle.scm_model.specs.declared.calls.Reply.{Reply}
use Rattle.rpc_session.specs.declared.state.Incoming.{Incoming}
use Rattle.rpc_session.specs.Items.{Seen, StreamEnd, BadPdu, TooLong, Gave, IsOpen, items}
use Rattle.rpc_session.specs.declared.session.SessionFault.{SessionFault}
use Rattle.rpc_session.specs.declared.session.SessionFault.TheVariants as faults
use Rattle.conn_desk.specs.declared.desk.HandlerError.{HandlerError}
use Rattle.conn_desk.specs.declared.desk.HandlerError.TheVariants as lacks
use Rattle.conn_desk.specs.declared.serving.Stop.{Stop}
use Rattle.conn_desk.specs.declared.serving.Stop.TheVariants as stop
use Rattle.conn_desk.specs.declared.serving.ConnectionReader.{ConnectionReader}
use Rattle.conn_desk.specs.Bodies.{asked_by}
use Rattle.conn_desk.specs.Desks.{CallAnswered, IsLeft}
use Rattle.conn_desk.specs.Talks.{AreAnswered, CutsShort}
use Rattle.scm_bodies.specs.Replies.{reply_bytes as body_of}

-- a connection: where its session, its desk and its sink stand
pub record Point (D : Type 0) : Type 0 where
  pub session : Seen
  pub desk : D
  pub held : Option (List ℕ)

-- a connection that stands at these
abbrev pub connection_at : {D : Type 0} → Seen → D → Option (List ℕ) → Point D
connection_at session desk held = record { session = session; desk = desk; held = held }

-- where a connection stands whose session eats what is read
abbrev pub point_of : {D O : Type 0} → (O → Option (List ℕ)) → At ConnectionReader D O → Point D
point_of held a = record { session = a.eater.session; desk = a.place; held = held a.output }

-- Whatever the session had been fed and had given: it was fed as grown says, and gave these items more.
abbrev pub GaveMore : (List ℕ → List ℕ) → Seen → Seen → List Incoming → Type 0
GaveMore grown s t given = (stream : List ℕ) (before : List Incoming) → Gave stream before s → Gave (grown stream) (before ++ given) t

-- the session gave these items and then told this end, whatever follows
abbrev pub EndsWith : (List ℕ → List ℕ) → Seen → List Incoming → StreamEnd → Type 0
EndsWith grown s given ending = (stream : List ℕ) (before : List Incoming) → Gave stream before s
    → (more : List ℕ) → items (grown stream ++ more) ≡ record { items = before ++ given; ending = ending }

-- whatever the session had been fed and had given: these come next, of what was fed by then
abbrev pub IsFront : (List ℕ → List ℕ) → Seen → List Incoming → Type 0
IsFront grown s given = (stream : List ℕ) (before : List Incoming) → Gave stream before s
    → Begins (before ++ given) (items (grown stream)).items

-- ## A stretch

-- all whole items are answered, and the stream may go on
pub record GoesOn {D : Type 0} (called : D → D → DecodedRequest → Option Reply → Type 0) (grown : List ℕ → List ℕ)
    (a b : Point D) : Type 0 where
  pub given : List Incoming
  pub gave : GaveMore grown a.session b.session given
  pub waits : IsOpen b.session
  pub answers : AreAnswered called a.desk b.desk a.held b.held given

-- all items before a bad end are answered
pub record GoesBad {D : Type 0} (called : D → D → DecodedRequest → Option Reply → Type 0) (grown : List ℕ → List ℕ) (a b : Point D)
    (ending : StreamEnd) : Type 0 where
  pub given : List Incoming
  pub ends : EndsWith grown a.session given ending
  pub answers : AreAnswered called a.desk b.desk a.held b.held given

-- the first items are answered, but for a rest of the last one's text
pub record Breaks {D : Type 0} (called : D → D → DecodedRequest → Option Reply → Type 0) (grown : List ℕ → List ℕ)
    (a b : Point D) : Type 0 where
  pub given : List Incoming
  pub front : IsFront grown a.session given
  pub answers : CutsShort called a.desk b.desk a.held b.held given

-- the first items are answered, and there is no memory for what comes next
pub record Wants {D : Type 0} (called : D → D → DecodedRequest → Option Reply → Type 0) (rests : D → D → Type 0) (grown : List ℕ → List ℕ)
    (a b : Point D) : Type 0 where
  pub given : List Incoming
  pub front : IsFront grown a.session given
  pub last : D
  pub answers : AreAnswered called a.desk last a.held b.held given
  pub left : IsLeft rests last b.desk

-- the first items are answered, and the desk has no room for the request of the next one
pub record MeetsFull {D : Type 0} (called : D → D → DecodedRequest → Option Reply → Type 0) (rests : D → D → Type 0) (full : D
    → DecodedRequest → Type 0) (grown : List ℕ → List ℕ) (a b : Point D) : Type 0 where
  pub given : List Incoming
  pub next : Incoming
  pub front : IsFront grown a.session (given ++ next ∷ [])
  pub request : DecodedRequest
  pub asks : asked_by next ≡ Some request
  pub last : D
  pub answers : AreAnswered called a.desk last a.held b.held given
  pub left : rests last b.desk
  pub met : full b.desk request

abbrev pub FedOn : {D T : Type 0} → (called : D → D → DecodedRequest → Option Reply → Type 0) → (rests : D → D → Type 0)
    → (full : D → DecodedRequest → Type 0) → (List ℕ → List ℕ) → (a b : Point D) → Result T Stop → Type 0
FedOn called rests full grown a b (Ok done) = GoesOn called grown a b
FedOn called rests full grown a b (Err (stop.Bad place kind)) = GoesBad called grown a b (BadPdu place kind)
FedOn called rests full grown a b (Err (stop.TooLong length)) = GoesBad called grown a b (TooLong length)
FedOn called rests full grown a b (Err stop.WriteFault) = Breaks called grown a b
FedOn called rests full grown a b (Err stop.Full) = MeetsFull called rests full grown a b
FedOn called rests full grown a b (Err stop.OutOfMemory) = Wants called rests grown a b

-- ## One item

-- why a session's fault stops the serving
abbrev pub stop_of : SessionFault → Stop
stop_of (faults.BadPdu place kind) = stop.Bad place kind
stop_of (faults.TooLong length) = stop.TooLong length
stop_of faults.OutOfMemory = stop.OutOfMemory

-- why a request without an answer stops the serving
abbrev pub stop_at : HandlerError → Stop
stop_at lacks.Full = stop.Full
stop_at lacks.OutOfMemory = stop.OutOfMemory

-- a write that failed stops the serving
abbrev pub write_stopped : {E : Type 0} → Result (Unit {0}) E → Result (Unit {0}) Stop
write_stopped (Ok done) = Ok done
write_stopped (Err fault) = Err stop.WriteFault

-- a request was made, and this is the body of its reply
pub record Replied {D : Type 0} (called : D → D → DecodedRequest → Option Reply → Type 0) (d e : D) (request : DecodedRequest)
    (body : List ℕ) : Type 0 where
  pub reply : Reply
  pub answered : CallAnswered called d e request reply
  pub written : body ≡ body_of reply
  pub small : length body < 2 ^ 32

-- what became of one item
abbrev pub Answered : {D T : Type 0} → (called : D → D → DecodedRequest → Option Reply → Type 0) → (rests : D → D → Type 0)
    → (full : D → DecodedRequest → Type 0) → (d e : D) (before now : Option (List ℕ)) → Incoming → Result T Stop → Type 0
Answered called rests full d e before now item (Ok done) = AreAnswered called d e before now (item ∷ [])
Answered called rests full d e before now item (Err (stop.Bad place _)) = ⊥
Answered called rests full d e before now item (Err (stop.TooLong length)) = ⊥
Answered called rests full d e before now item (Err stop.WriteFault) = CutsShort called d e before now (item ∷ [])
Answered called rests full d e before now item (Err stop.Full) = (now ≡ before) × (request : DecodedRequest)
    × (asked_by item ≡ Some request) × rests d e × full e request
Answered called rests full d e before now item (Err stop.OutOfMemory) = (now ≡ before) × IsLeft rests d e

-- the sink's count of faults rose where it is said to have failed, and is the same elsewhere
abbrev pub IsStopCaused : {T : Type 0} → Result T Stop → (before now : ℕ) → Type 0
IsStopCaused (Err stop.WriteFault) before now = Rose before now
IsStopCaused _ before now = now ≡ before

-- and it never falls
pub record HasStopCause {T : Type 0} (before now : ℕ) (result : Result T Stop) : Type 0 where
  pub grows : before ≤ now
  pub caused : IsStopCaused result before now
