-- How far a connection came: what was read, the items that were answered, and what was written.
use Rattle.std.specs.Prelude.{ℕ, ◌≡◌, ◌<◌, ◌≤◌, ◌^◌, ◌++◌, List, [], ◌∷◌, length, Option, Some}
use Rattle.std.specs.Io.KnownBytes.{IsAtEnd}
use Rattle.outside.specs.Causes.{NeitherFailed, ReadFailed, WriteFailed}
use Rattle.outside.specs.Written.{Begins}
use Rattle.conn_desk.specs.declared.asked.DecodedRequest.{DecodedRequest}
use Rattle.scm_model.specs.declared.calls.Reply.{Reply}
use Rattle.rpc_session.specs.declared.state.Incoming.{Incoming}
use Rattle.rpc_session.specs.Items.{StreamEnd, AtRest, Unfinished, BadPdu, TooLong, items}
use Rattle.conn_desk.specs.declared.served.Served.{Served}
use Rattle.conn_desk.specs.declared.served.Served.TheVariants as served
use Rattle.conn_desk.specs.Bodies.{asked_by, spoken}

-- ## What was served

-- every item of what was read has its whole text, and what was read ends so
pub record AllServed (read : List ℕ) (done : List Incoming) (ending : StreamEnd) (told : List (Option Reply))
    (written : List ℕ) : Type 0 where
  pub all : items read ≡ record { items = done; ending = ending }
  pub text : written ≡ spoken done told

-- how many bytes are read at once
abbrev pub piece_size : ℕ
piece_size = 4096

-- at most one piece was read after bytes whose items are all answered
pub record IsAhead (read : List ℕ) (answered : List Incoming) : Type 0 where
  pub front : List ℕ
  pub piece : List ℕ
  pub split : read ≡ front ++ piece
  pub short : length piece ≤ piece_size
  pub all : Begins (items front).items answered

-- what was read ends badly, whatever follows, and every item before that has its whole text
pub record AllBefore (read : List ℕ) (done : List Incoming) (ending : StreamEnd) (told : List (Option Reply))
    (written : List ℕ) : Type 0 where
  pub all : (more : List ℕ) → items (read ++ more) ≡ record { items = done; ending = ending }
  pub text : written ≡ spoken done told
  pub ahead : IsAhead read done

-- the stream could have gone on
abbrev pub IsOpenEnd : StreamEnd → Type 0
IsOpenEnd AtRest = Unit {0}
IsOpenEnd Unfinished = Unit {0}
IsOpenEnd (BadPdu place _) = ⊥
IsOpenEnd (TooLong length) = ⊥

-- every item of what was read has its whole text, and the stream could have gone on
pub record SoFarServed (read : List ℕ) (done : List Incoming) (told : List (Option Reply)) (written : List ℕ) : Type 0 where
  pub ending : StreamEnd
  pub goes_on : IsOpenEnd ending
  pub served : AllServed read done ending told written

-- the first items have their whole text
pub record FirstServed (read : List ℕ) (done : List Incoming) (told : List (Option Reply)) (written : List ℕ) : Type 0 where
  pub first : Begins done (items read).items
  pub text : written ≡ spoken done told
  pub ahead : IsAhead read done

-- the first items were served, and what is written of their text has all but the last one's
pub record CutShort (read : List ℕ) (done : List Incoming) (told : List (Option Reply)) (written : List ℕ) : Type 0 where
  pub first : Begins done (items read).items
  pub text : Begins written (spoken done told)
  pub earlier : List Incoming
  pub last : Incoming
  pub order : done ≡ earlier ++ last ∷ []
  pub whole : Begins (spoken earlier told) written
  pub ahead : IsAhead read earlier

-- the next item asks what the desk has no room for
pub record HasNoRoom {D : Type 0} (full : D → DecodedRequest → Type 0) (desk : D) (read : List ℕ) (done : List Incoming) : Type 0 where
  pub next : Incoming
  pub follows : Begins (done ++ next ∷ []) (items read).items
  pub request : DecodedRequest
  pub asks : asked_by next ≡ Some request
  pub met : full desk request

-- How far a connection came, by what it answered, with its desk as it was afterwards.
abbrev pub Reached : {D : Type 0} → (full : D → DecodedRequest → Type 0) → (desk : D) → Served → (read : List ℕ) → (left : Option (List ℕ))
    → List Incoming → List (Option Reply) → (written : List ℕ) → Type 0
Reached full desk served.Ended read left done told written = IsAtEnd left × (length read < 2 ^ 40) × AllServed read done AtRest told written
Reached full desk served.Truncated read left done told written = IsAtEnd left × (length read < 2 ^ 40)
    × AllServed read done Unfinished told written
Reached full desk (served.BadPdu place kind) read left done told written = AllBefore read done (BadPdu place kind) told written
Reached full desk (served.TooLong length) read left done told written = AllBefore read done (TooLong length) told written
Reached full desk served.ReadFault read left done told written = (length read < 2 ^ 40) × SoFarServed read done told written
Reached full desk served.Worn read left done told written = (length read ≡ 2 ^ 40) × SoFarServed read done told written
Reached full desk served.WriteFault read left done told written = CutShort read done told written
Reached full desk served.Full read left done told written = FirstServed read done told written × HasNoRoom full desk read done
Reached full desk served.OutOfMemory read left done told written = FirstServed read done told written

-- ## Causes

-- the count of the source or the sink rose if it is said to have failed; at each other end, also when memory ran out, both are the same
abbrev pub IsServedFor : Served → (source source_now sink sink_now : ℕ) → Type 0
IsServedFor served.ReadFault source source_now sink sink_now = ReadFailed source source_now sink sink_now
IsServedFor served.WriteFault source source_now sink sink_now = WriteFailed source source_now sink sink_now
IsServedFor _ source source_now sink sink_now = NeitherFailed source source_now sink sink_now
