-- What becomes of a connection at the book: it was refused, or a caller of the history stands for it.
use Rattle.std.specs.Prelude.{ℕ, ◌≡◌, ◌≤◌, ◌<◌, ◌^◌, ◌⊎◌, ◌++◌, Bool, true, false, List, [], ◌∷◌, length, map, Option, None, Some}
use Rattle.std.specs.Io.KnownBytes.{Appends, Consumes}
use Rattle.outside.specs.Written.{IsFresh}
use mathlib.Core.List.{IsPrefix}
use Rattle.scm_model.specs.declared.calls.Reply.{Reply}
use Rattle.scm_model.specs.declared.flat.Principal.{Principal}
use Rattle.scm_model.specs.declared.steps.Answer.TheVariants as answers
use Rattle.scm_model.specs.declared.steps.Step.TheVariants.{Gone, Joined}
use Rattle.scm_model.specs.Entries.{Entry}
use Rattle.scm_rules.specs.Named.{has_made, names_caller}
use Rattle.scm_history.specs.Owned.{Made as Told, made_of}
use Rattle.rpc_session.specs.declared.state.Incoming.{Incoming}
use Rattle.book_rule.specs.declared.view.Opening.{Opening}
use Rattle.book_rule.specs.Ways.{Has}
use Rattle.scm_book.specs.declared.answers.JoinFault.{JoinFault}
use Rattle.scm_book.specs.declared.answers.JoinFault.TheVariants as joins
use Rattle.scm_book.specs.declared.fault.MakeFault.TheVariants as makes
use Rattle.scm_book.specs.Joins.{has_place}
use Rattle.scm_book.specs.Passes.{room_behind}
use Rattle.conn_desk.specs.declared.asked.DecodedRequest.{DecodedRequest}
use Rattle.conn_desk.specs.declared.served.Served.{Served}
use Rattle.conn_desk.specs.declared.served.Served.TheVariants as served
use Rattle.conn_desk.specs.Bodies.{asked}
use Rattle.conn_desk.specs.Connection.{IsServedFor, Reached}
use Rattle.conn_worker.specs.Owning.{AreOfAll, AreTold, StepsHadRoom, StandAt, StandsAt, unowed_places}
use Rattle.conn_worker.specs.Serving.{step_for}
use Rattle.scm_listener.specs.Connections.{PastConnection}
use Rattle.scm_server.specs.Pairs.{Ascends}
use Rattle.scm_server.specs.Works.{AreNamed}

-- a connection that was handed out and is past
pub record Handed : Type 0 where
  -- what its peer sends, and what was written when it was handed out, if they are known
  pub given : Option (List ℕ)
  pub began : Option (List ℕ)
  pub past : PastConnection
  -- the caller that stands for it
  pub caller : Option ℕ

abbrev pub IsJustHanded : Handed → Type 0
IsJustHanded h = IsFresh h.given h.began

-- ## The first case

-- nothing of it was read or written, and there is a state of the history in which the callers are at their limit or nobody finds room to
-- join
pub record WasRefused (o : Opening) (log : List Entry) (principal : Principal) (h : Handed) : Type 0 where
  pub fresh : IsJustHanded h
  pub unread : h.past.left ≡ h.given
  pub unwritten : h.past.written ≡ h.began
  pub no_read_fault : h.past.read_faults ≡ 0
  pub no_write_fault : h.past.write_faults ≡ 0
  pub front : List Entry
  pub within : IsPrefix front log
  pub cause : (has_place o front ≡ false) ⊎ (room_behind o front (Joined principal) ≡ false)

-- ## The second case

-- after this front the limits have no room for the caller's request
abbrev pub HasNoRoomBehind : Opening → ℕ → List Entry → DecodedRequest → Type 0
HasNoRoomBehind o caller front request = room_behind o front (step_for caller request) ≡ false

-- no entry of the history but those at these places names the caller
abbrev pub NamedOnlyAt : List Entry → ℕ → List ℕ → Type 0
NamedOnlyAt log caller places = (front : List Entry) (e : Entry) (rest : List Entry) → log ≡ front ++ e ∷ rest
    → names_caller caller e.1 ≡ true → Has (length front) places

-- what was read, answered and written of a connection, and how it ended
pub record WasServed (full : List Entry → DecodedRequest → Type 0) (stood : List Entry) (h : Handed) (done : List Incoming)
    (heard : List (Option Reply)) (how : Served) : Type 0 where
  pub fresh : IsJustHanded h
  pub read : List ℕ
  pub consumed : Consumes h.given h.past.left read
  pub most : length read ≤ 2 ^ 40
  pub written : List ℕ
  pub appended : Appends h.began h.past.written written
  pub reached : Reached full stood how read h.past.left done heard written
  pub cause : IsServedFor how 0 h.past.read_faults 0 h.past.write_faults

-- The caller joined with the principal, made the requests that were answered, and went: these are its entries in the history, and each of
-- them names it, also those of a start that waited. The history `stood`, over which the end of the connection is stated, has all of them
-- but the going.
pub record StandsForIt (tells : ℕ → Type 0) (o : Opening) (log : List Entry) (principal : Principal) (h : Handed)
    (caller : ℕ) : Type 0 where
  pub how : Served
  pub done : List Incoming
  pub heard : List (Option Reply)
  pub stood : List Entry
  pub within : IsPrefix stood log
  pub memory : how ≡ served.OutOfMemory → ⊥
  pub served : WasServed (HasNoRoomBehind o caller) stood h done heard how
  -- its entries
  pub joined : ℕ
  pub entries : List Told
  pub gone : ℕ
  pub requests : AreOfAll true caller (asked done) heard entries
  pub named : AreNamed caller entries
  pub told : AreTold tells (made_of (joined, Joined principal) (answers.Caller caller) ∷ entries)
  pub told_last : tells gone
  -- where they stand
  pub places : List ℕ
  pub last : ℕ
  pub stand : StandAt o log places (made_of (joined, Joined principal) (answers.Caller caller) ∷ entries)
  pub goes : StandsAt o log last (made_of (gone, Gone caller) answers.Done)
  -- its joining and each request found room in the state of its place
  pub found : StepsHadRoom o log (unowed_places places (made_of (joined, Joined principal) (answers.Caller caller) ∷ entries))
      (Joined principal ∷ map (step_for caller) (asked done))
  pub rising : Ascends (places ++ last ∷ [])
  pub ahead : (place : ℕ) → Has place places → place < length stood
  pub no_other : NamedOnlyAt log caller (places ++ last ∷ [])
  pub made : has_made o.limits o.first caller log ≡ true

-- ## Out of memory

abbrev pub wants_memory : Served → Bool
wants_memory served.OutOfMemory = true
wants_memory how = false

abbrev pub is_without_memory : JoinFault → Bool
is_without_memory (joins.Unmade makes.OutOfMemory) = true
is_without_memory fault = false

-- ## Either

-- one of the two, by the caller that stands for it
abbrev pub IsHandledAs : (ℕ → Type 0) → Opening → List Entry → Principal → Handed → Option ℕ → Type 0
IsHandledAs tells o log principal h None = WasRefused o log principal h
IsHandledAs tells o log principal h (Some caller) = StandsForIt tells o log principal h caller

abbrev pub IsHandled : (ℕ → Type 0) → Opening → List Entry → Principal → Handed → Type 0
IsHandled tells o log principal h = IsHandledAs tells o log principal h h.caller

-- the caller joined after this history
abbrev pub JoinedBehind : Opening → List Entry → ℕ → Type 0
JoinedBehind o log caller = has_made o.limits o.first caller log ≡ false
