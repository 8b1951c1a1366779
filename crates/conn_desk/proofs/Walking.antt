-- Stretches of a connection, one after another.
use Rattle.std.proofs.Common.{ℕ, ◌≡◌, ◌<◌, List, [], ◌∷◌, ◌++◌, Option, Some, Result, Ok, Err, inl, refl, sym, ap, ◌∙◌, subst, append_assoc}
use Rattle.std.proofs.Common.{append-nil}
use Rattle.std.specs.Prelude.{IfSome}
use Rattle.outside.specs.Written.{Begins}
use Rattle.conn_desk.specs.declared.asked.DecodedRequest.{DecodedRequest}
use Rattle.scm_model.specs.declared.calls.Reply.{Reply}
use Rattle.rpc_session.specs.declared.state.Incoming.{Incoming}
use Rattle.rpc_session.specs.Items.{Seen, StreamEnd, Told, given_by, BadPdu, TooLong, Gave, Says, IsOpen, items, to_come}
use Rattle.rpc_session.specs.declared.session.SessionFault.{SessionFault}
use Rattle.rpc_session.specs.declared.session.SessionFault.TheVariants as faults
use Rattle.conn_desk.specs.declared.serving.Stop.{Stop}
use Rattle.conn_desk.specs.declared.serving.Stop.TheVariants as stop
use Rattle.conn_desk.specs.Bodies.{asked_by}
use Rattle.conn_desk.specs.Desks.{IsLeft}
use Rattle.conn_desk.specs.Talks.{AreAnswered, CutsShort}
use Rattle.conn_desk.specs.Along.{Point, GaveMore, IsFront, GoesOn, GoesBad, Breaks, MeetsFull, Wants, FedOn, Answered, stop_of}
use Rattle.conn_desk.specs.Serves.{fed}
use Rattle.conn_desk.proofs.Talking.{answers_none, answers_append, cut_both}

-- a stretch on which all items that were given are answered
pub record Stretch {D : Type 0} (called : D → D → DecodedRequest → Option Reply → Type 0) (a b : Point D) : Type 0 where
  pub given : List Incoming
  pub gave : GaveMore (λ stream. stream) a.session b.session given
  pub answers : AreAnswered called a.desk b.desk a.held b.held given

-- what a session gave is a front of the items
front_of : (s : Seen) (stream : List ℕ) (given : List Incoming) → Gave stream given s → Begins given (items stream).items
front_of s stream given gave =
    ((to_come s []).items, ap (λ (t : Told). t.items) (ap items (sym (append-nil stream)) ∙ gave []))

-- and of the items of what follows it
front_of_more : (s : Seen) (stream more : List ℕ) (given : List Incoming) → Gave stream given s
    → Begins given (items (stream ++ more)).items
front_of_more s stream more given gave = ((to_come s more).items, ap (λ (t : Told). t.items) (gave more))

abbrev gave_then : (s m t : Seen) (xs ys : List Incoming) → GaveMore (λ stream. stream) s m xs → GaveMore (λ stream. stream) m t ys
    → GaveMore (λ stream. stream) s t (xs ++ ys)
gave_then s m t xs ys p q = λ stream before h. subst (λ g. Gave stream g t) (append_assoc before xs ys)
    (q stream (before ++ xs) (p stream before h))

gave_nothing : (s : Seen) → GaveMore (λ stream. stream) s s []
gave_nothing s = λ stream before h. subst (λ g. Gave stream g s) (sym (append-nil before)) h

front_gave : (s t : Seen) (xs : List Incoming) → GaveMore (λ stream. stream) s t xs → IsFront (λ stream. stream) s xs
front_gave s t xs p = λ stream before h. front_of t stream (before ++ xs) (p stream before h)

-- a front is a front of what is longer
shorter_front : {A : Type 0} (a b c : List A) → Begins (a ++ b) c → Begins a c
shorter_front a b c h = (b ++ h.0, h.1 ∙ append_assoc a b h.0)

-- the front of a front
pub front_less : (grown : List ℕ → List ℕ) (s : Seen) (xs ys : List Incoming) → IsFront grown s (xs ++ ys) → IsFront grown s xs
front_less grown s xs ys p = λ stream before h.
    shorter_front (before ++ xs) ys (items (grown stream)).items (subst (λ g. Begins g (items (grown stream)).items)
    (sym (append_assoc before xs ys)) (p stream before h))

-- ## The items that are whole

-- the item that came
pub gave_item : (s t : Seen) (o : Option Incoming) (item : Incoming) → o ≡ Some item
    → ((stream : List ℕ) (given : List Incoming) → Gave stream given s → Gave stream (given ++ given_by (Ok o)) t)
    → GaveMore (λ stream. stream) s t (item ∷ [])
gave_item s t o item e h = subst (λ x. (stream : List ℕ) (given : List Incoming) → Gave stream given s
    → Gave stream (given ++ given_by (Ok x)) t) e h

pub shorter_item : (o : Option Incoming) (item : Incoming) (a b : ℕ) → o ≡ Some item → IfSome o (λ _. a < b) → a < b
shorter_item o item a b e h = subst (λ x. IfSome x (λ _. a < b)) e h

module _ {D : Type 0} (called : D → D → DecodedRequest → Option Reply → Type 0) (rests : D → D → Type 0) (full : D → DecodedRequest
    → Type 0) (a : Point D) where
  -- nothing yet
  pub begins : Stretch called a a
  begins = record { given = []; gave = gave_nothing a.session; answers = answers_none called a.desk a.held }

  -- one item more is answered
  pub one_more : (m b : Point D) (item : Incoming) → Stretch called a m → GaveMore (λ stream. stream) m.session b.session (item ∷ [])
      → AreAnswered called m.desk b.desk m.held b.held (item ∷ []) → Stretch called a b
  one_more m b item on gave answers = record {
    given = on.given ++ item ∷ [];
    gave = gave_then a.session m.session b.session on.given (item ∷ []) on.gave gave;
    answers = answers_append called a.desk m.desk b.desk a.held m.held b.held on.given (item ∷ []) on.answers answers;
  }

  -- an item's text is cut short
  one_cut : (m b : Point D) (item : Incoming) → Stretch called a m → GaveMore (λ stream. stream) m.session b.session (item ∷ [])
      → CutsShort called m.desk b.desk m.held b.held (item ∷ []) → Breaks called (λ stream. stream) a b
  one_cut m b item on gave cut = record {
    given = on.given ++ item ∷ [];
    front = front_gave a.session b.session (on.given ++ item ∷ []) (gave_then a.session m.session b.session on.given
        (item ∷ []) on.gave gave);
    answers = (cut_both called a.desk m.desk b.desk a.held m.held b.held on.given (item ∷ []) on.answers cut).0;
  }

  -- there is no memory for an item
  one_wants : (m b : Point D) (item : Incoming) → Stretch called a m → GaveMore (λ stream. stream) m.session b.session (item ∷ [])
      → b.held ≡ m.held → IsLeft rests m.desk b.desk → Wants called rests (λ stream. stream) a b
  one_wants m b item on gave held left = record {
    given = on.given;
    front = front_less (λ stream. stream) a.session on.given (item ∷ [])
        (front_gave a.session b.session (on.given ++ item ∷ []) (gave_then a.session m.session b.session on.given
        (item ∷ []) on.gave gave));
    last = m.desk;
    answers = subst (λ now. AreAnswered called a.desk m.desk a.held now on.given) (sym held) on.answers;
    left = left;
  }

  -- there is no room for the request of an item
  one_full : (m b : Point D) (item : Incoming) (request : DecodedRequest) → Stretch called a m
      → GaveMore (λ stream. stream) m.session b.session (item ∷ [])
      → b.held ≡ m.held → asked_by item ≡ Some request → rests m.desk b.desk → full b.desk request
      → MeetsFull called rests full (λ stream. stream) a b
  one_full m b item request on gave held asks left met = record {
    given = on.given;
    next = item;
    front = front_gave a.session b.session (on.given ++ item ∷ []) (gave_then a.session m.session b.session on.given
        (item ∷ []) on.gave gave);
    request = request;
    asks = asks;
    last = m.desk;
    answers = subst (λ now. AreAnswered called a.desk m.desk a.held now on.given) (sym held) on.answers;
    left = left;
    met = met;
  }

  -- an item stops the serving
  pub one_stops : (T : Type 0) (m b : Point D) (item : Incoming) (why : Stop) → Stretch called a m
      → GaveMore (λ stream. stream) m.session b.session (item ∷ [])
      → Answered {T = T} called rests full m.desk b.desk m.held b.held item (Err why)
      → FedOn {T = T} called rests full (λ stream. stream) a b (Err why)
  one_stops T m b item (stop.Bad place _) on gave h = absurd h
  one_stops T m b item (stop.TooLong length) on gave h = absurd h
  one_stops T m b item stop.WriteFault on gave h = one_cut m b item on gave h
  one_stops T m b item stop.Full on gave h = one_full m b item h.1 on gave h.0 h.2 h.3 h.4
  one_stops T m b item stop.OutOfMemory on gave h = one_wants m b item on gave h.0 h.1

  -- there is no memory for the next item
  none_wants : (m : Point D) (t : Seen) → Stretch called a m → Wants called rests (λ stream. stream) a
      (record { session = t; desk = m.desk; held = m.held })
  none_wants m t on = record {
    given = on.given;
    front = front_gave a.session m.session on.given on.gave;
    last = m.desk;
    answers = on.answers;
    left = inl refl;
  }

  -- no item is whole
  pub no_more : (m : Point D) (t : Seen) → Stretch called a m → GaveMore (λ stream. stream) m.session t [] → IsOpen t
      → GoesOn called (λ stream. stream) a (record { session = t; desk = m.desk; held = m.held })
  no_more m t on gave waits = record {
    given = on.given ++ [];
    gave = gave_then a.session m.session t on.given [] on.gave gave;
    waits = waits;
    answers = subst (AreAnswered called a.desk m.desk a.held m.held) (sym (append-nil on.given)) on.answers;
  }

  -- the stream ends badly
  bad_end : (m : Point D) (t : Seen) (ending : StreamEnd) → Stretch called a m
      → ((stream : List ℕ) (given : List Incoming) → Gave stream given m.session → (more : List ℕ)
      → items (stream ++ more) ≡ record { items = given; ending = ending })
      → GoesBad called (λ stream. stream) a (record { session = t; desk = m.desk; held = m.held }) ending
  bad_end m t ending on says = record {
    given = on.given;
    ends = λ stream before h more. says stream (before ++ on.given) (on.gave stream before h) more;
    answers = on.answers;
  }

  -- a session's fault stops the serving
  pub fault_stops : (T : Type 0) (m : Point D) (t : Seen) (fault : SessionFault) → Stretch called a m
      → ((stream : List ℕ) (given : List Incoming) → Gave stream given m.session → Says stream given t (Err fault))
      → FedOn {T = T} called rests full (λ stream. stream) a (record { session = t; desk = m.desk; held = m.held }) (Err (stop_of fault))
  fault_stops T m t (faults.BadPdu place kind) on says = bad_end m t (BadPdu place kind) on says
  fault_stops T m t (faults.TooLong length) on says = bad_end m t (TooLong length) on says
  fault_stops T m t faults.OutOfMemory on says = none_wants m t on

-- ## A piece, and the items that it makes whole

module _ {D : Type 0} (called : D → D → DecodedRequest → Option Reply → Type 0) (rests : D → D → Type 0) (full : D → DecodedRequest
    → Type 0) (piece : List ℕ) (a : Point D) where
  module _ (s : Seen) (took : (stream : List ℕ) (given : List Incoming) → Gave stream given a.session
      → Gave (stream ++ piece) given s) where
    abbrev taken : Point D
    taken = record { session = s; desk = a.desk; held = a.held }

    front_fed : (given : List Incoming) → IsFront (λ stream. stream) s given → IsFront (fed piece) a.session given
    front_fed given front = λ stream before h. front (stream ++ piece) before (took stream before h)

    goes_bad : (b : Point D) (ending : StreamEnd) → GoesBad called (λ stream. stream) taken b ending → GoesBad called (fed piece) a b ending
    goes_bad b ending on = record {
      given = on.given;
      ends = λ stream before h more. on.ends (stream ++ piece) before (took stream before h) more;
      answers = on.answers;
    }

    pub fed_piece : {T : Type 0} (b : Point D) (result : Result T Stop) → FedOn called rests full (λ stream. stream) taken b result
        → FedOn called rests full (fed piece) a b result
    fed_piece b (Ok done) on = record {
      given = on.given;
      gave = λ stream before h. on.gave (stream ++ piece) before (took stream before h);
      waits = on.waits;
      answers = on.answers;
    }
    fed_piece b (Err (stop.Bad place kind)) on = goes_bad b (BadPdu place kind) on
    fed_piece b (Err (stop.TooLong length)) on = goes_bad b (TooLong length) on
    fed_piece b (Err stop.WriteFault) on = record { given = on.given; front = front_fed on.given on.front; answers = on.answers }
    fed_piece b (Err stop.Full) on = record {
      given = on.given;
      next = on.next;
      front = front_fed (on.given ++ on.next ∷ []) on.front;
      request = on.request;
      asks = on.asks;
      last = on.last;
      answers = on.answers;
      left = on.left;
      met = on.met;
    }
    fed_piece b (Err stop.OutOfMemory) on = record {
      given = on.given;
      front = front_fed on.given on.front;
      last = on.last;
      answers = on.answers;
      left = on.left;
    }

  -- a piece that finds no memory
  pub piece_wants : (t : Seen) → Wants called rests (fed piece) a (record { session = t; desk = a.desk; held = a.held })
  piece_wants t = record {
    given = [];
    front = λ stream before h. subst (λ g. Begins g (items (stream ++ piece)).items) (sym (append-nil before))
        (front_of_more a.session stream piece before h);
    last = a.desk;
    answers = answers_none called a.desk a.held;
    left = inl refl;
  }
