-- A connection at which nothing failed ends as its input does, unless a request found no room, or memory ran out.
use Rattle.std.specs.Prelude.{ℕ, Bool, ◌≡◌, ◌≢◌, ◌⊎◌, ◌<◌, ◌^◌, ◌++◌, true, List, [], ◌∷◌, length, Option, Some, IfSome}
use Rattle.std.specs.Io.KnownBytes.{Appends}
use mathlib.Core.List.{IsPrefix}
use Rattle.outside.specs.Causes.{Rose}
use Rattle.outside.specs.Written.{Begins}
use Rattle.scm_model.specs.declared.calls.Reply.{Reply}
use Rattle.rpc_session.specs.declared.state.Incoming.{Incoming}
use Rattle.rpc_session.specs.Items.{StreamEnd, AtRest, Unfinished, BadPdu, TooLong, items}
use Rattle.book_rule.specs.declared.view.Opening.{Opening}
use Rattle.scm_book.specs.Passes.{Known, Learnt, room_behind}
use Rattle.conn_desk.specs.declared.asked.DecodedRequest.{DecodedRequest}
use Rattle.conn_desk.specs.declared.served.Served.{Served}
use Rattle.conn_desk.specs.declared.served.Served.TheVariants as served
use Rattle.conn_desk.specs.Bodies.{asked, asked_by, spoken}
use Rattle.conn_desk.specs.Connection.{IsOpenEnd}
use Rattle.conn_desk.specs.Desks.{Chain}
use Rattle.conn_worker.specs.Serving.{IsServed, step_for}

-- ## The input's end

-- how a connection ends whose input ends so
abbrev pub end_as : StreamEnd → Served
end_as AtRest = served.Ended
end_as Unfinished = served.Truncated
end_as (BadPdu place kind) = served.BadPdu place kind
end_as (TooLong length) = served.TooLong length

-- it ended as it should, unless memory was wanting
abbrev pub EndsOrLacks : (due how : Served) → Type 0
EndsOrLacks due how = (how ≡ due) ⊎ (how ≡ served.OutOfMemory)

-- Each input ends the connection in its way; where more comes than a connection may have and no end before that, it is worn.
pub record EndsAs (bytes : List ℕ) (how : Served) : Type 0 where
  pub whole : length bytes < 2 ^ 40 → EndsOrLacks (end_as (items bytes).ending) how
  pub worn : (front : List ℕ) → Begins front bytes → length front ≡ 2 ^ 40 → IsOpenEnd (items front).ending → EndsOrLacks served.Worn how

-- If no count rose, the input is known, and the connection isn't full, it ends as the input does, whatever other callers the book has.
abbrev pub IsComplete : (left : Option (List ℕ)) → (source source_now sink sink_now : ℕ) → Served → Type 0
IsComplete left source source_now sink sink_now how =
    IfSome left (λ bytes. (Rose source source_now → ⊥) → (Rose sink sink_now → ⊥) → how ≢ served.Full → EndsAs bytes how)

-- ## Replies

-- each item of these bytes is answered: what the sink holds more is their whole text, by what was heard of their requests
pub record AllAnswered (silent : Bool) (tells : ℕ → Type 0) (o : Opening) (k : Known) (bytes : List ℕ)
    (held held_now : Option (List ℕ)) : Type 0 where
  pub heard : List (Option Reply)
  pub last : Known
  pub chain : Chain (IsServed silent tells o) k last (asked (items bytes).items) heard
  pub written : Appends held held_now (spoken (items bytes).items heard)

-- if the input is known and the connection ended as it does, each item of the input is answered
abbrev pub AnswersAll : (silent : Bool) → (tells : ℕ → Type 0) → Opening → Known → (left held held_now : Option (List ℕ)) → Served → Type 0
AnswersAll silent tells o k left held held_now how =
    IfSome left (λ bytes. how ≡ end_as (items bytes).ending → AllAnswered silent tells o k bytes held held_now)

-- ## Room

-- if the input is known and there was room for each of its requests, the connection isn't full
abbrev pub FindsRoom : (room : List ℕ → Type 0) → (left : Option (List ℕ)) → Served → Type 0
FindsRoom room left how = IfSome left (λ bytes. room bytes → how ≢ served.Full)

-- Whatever the pass had seen after the first requests of these bytes, of all that it saw until its caller went, the limits had room for the
-- next one. What others do after that plays no part.
abbrev pub HadRoomThroughout : (silent : Bool) → (tells : ℕ → Type 0) → Opening → (k k' : Known) → List ℕ → Type 0
HadRoomThroughout silent tells o k k' bytes =
    (done : List Incoming) (next : Incoming) (request : DecodedRequest) → Begins (done ++ next ∷ []) (items bytes).items
    → asked_by next ≡ Some request
    → (heard : List (Option Reply)) (last now : Known) → Chain (IsServed silent tells o) k last (asked done) heard → Learnt o last now
    → IsPrefix now.seen k'.seen → room_behind o now.seen (step_for now.caller request) ≡ true
