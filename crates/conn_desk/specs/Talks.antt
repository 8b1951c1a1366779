-- A part of a connection: items that are answered by requests at a desk.
use Rattle.std.specs.Prelude.{ℕ, ◌≡◌, ◌++◌, List, [], ◌∷◌, Option}
use Rattle.std.specs.Io.KnownBytes.{Appends}
use Rattle.outside.specs.Written.{Begins}
use Rattle.conn_desk.specs.declared.asked.DecodedRequest.{DecodedRequest}
use Rattle.scm_model.specs.declared.calls.Reply.{Reply}
use Rattle.rpc_session.specs.declared.state.Incoming.{Incoming}
use Rattle.conn_desk.specs.Bodies.{asked, spoken}
use Rattle.conn_desk.specs.Desks.{Chain}

-- Requests of these items lead from d to e, and the items are answered this.
pub record Talks {D : Type 0} (called : D → D → DecodedRequest → Option Reply → Type 0) (d e : D) (items : List Incoming)
    (text : List ℕ) : Type 0 where
  pub heard : List (Option Reply)
  pub chain : Chain called d e (asked items) heard
  pub answered : spoken items heard ≡ text

-- the items are answered, and the sink holds the whole text more
pub record AreAnswered {D : Type 0} (called : D → D → DecodedRequest → Option Reply → Type 0) (d e : D) (before now : Option (List ℕ))
    (items : List Incoming) : Type 0 where
  pub text : List ℕ
  pub talks : Talks called d e items text
  pub written : Appends before now text

-- the items are answered, and the sink holds a front of the text more, which has all but the last item's
pub record CutsShort {D : Type 0} (called : D → D → DecodedRequest → Option Reply → Type 0) (d e : D) (before now : Option (List ℕ))
    (items : List Incoming) : Type 0 where
  pub text : List ℕ
  pub talks : Talks called d e items text
  pub bytes : List ℕ
  pub written : Appends before now bytes
  pub front : Begins bytes text
  pub earlier : List Incoming
  pub last : Incoming
  pub order : items ≡ earlier ++ last ∷ []
  pub whole : Begins (spoken earlier talks.heard) bytes
