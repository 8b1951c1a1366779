-- A whole connection over the book, with its caller's going.
use Rattle.std.specs.Prelude.{◌^◌, ℕ, Bool, ◌≡◌, ◌≤◌, ◌++◌, false, List, [], ◌∷◌, length, map, Option}
use Rattle.std.specs.Io.KnownBytes.{Appends, Consumes}
use Rattle.scm_model.specs.declared.calls.Reply.{Reply}
use Rattle.scm_model.specs.declared.steps.Answer.TheVariants as answers
use Rattle.scm_model.specs.declared.steps.Step.TheVariants.{Gone}
use Rattle.scm_history.specs.Owned.{Made as Told, made_of}
use Rattle.rpc_session.specs.declared.state.Incoming.{Incoming}
use Rattle.book_rule.specs.declared.view.Opening.{Opening}
use Rattle.scm_book.specs.declared.fault.MakeFault.{MakeFault}
use Rattle.scm_book.specs.declared.fault.MakeFault.TheVariants as makes
use Rattle.scm_book.specs.Passes.{Known, Learnt, Made, room_behind}
use Rattle.conn_desk.specs.declared.asked.DecodedRequest.{DecodedRequest}
use Rattle.conn_desk.specs.declared.desk.HandlerError.{HandlerError}
use Rattle.conn_desk.specs.declared.desk.HandlerError.TheVariants as lacks
use Rattle.conn_desk.specs.declared.served.Served.{Served}
use Rattle.conn_desk.specs.Bodies.{asked}
use Rattle.conn_desk.specs.Connection.{Reached}
use Rattle.conn_desk.specs.Desks.{Chain}
use Rattle.conn_desk.specs.Serves.{Leaves}
use Rattle.conn_worker.specs.Owning.{Adds, AreOfAll, AreTold, StepsHadRoom, unowed_places}
use Rattle.conn_worker.specs.Serving.{IsServed, step_for}

-- why a request has no answer whose step isn't made
abbrev pub unanswered : MakeFault → HandlerError
unanswered makes.Full = lacks.Full
unanswered makes.OutOfMemory = lacks.OutOfMemory

-- the limits have no room for a request after what the pass has seen
abbrev pub HasNoRoomFor : Opening → Known → DecodedRequest → Type 0
HasNoRoomFor o k asked = room_behind o k.seen (step_for k.caller asked) ≡ false

pub record Connects (silent : Bool) (tells : ℕ → Type 0) (o : Opening) (k k' : Known) (left left_now held held_now : Option (List ℕ))
    (how : Served) : Type 0 where
  -- what was read and written, the items that were answered, and what was heard of their requests
  pub read : List ℕ
  pub done : List Incoming
  pub heard : List (Option Reply)
  pub written : List ℕ
  pub consumed : Consumes left left_now read
  pub most : length read ≤ 2 ^ 40
  pub appended : Appends held held_now written
  -- one request after another led to last, and what ended the connection left the pass as it then stood
  pub last : Known
  pub chain : Chain (IsServed silent tells o) k last (asked done) heard
  pub stood : Known
  pub leaves : Leaves (Learnt o) how last stood
  pub reached : Reached (HasNoRoomFor o) stood how read left_now done heard written
  -- then the caller went
  pub moment : ℕ
  pub told : tells moment
  pub goes : Made o stood moment (Gone k.caller) answers.Done k'
  -- so the pass's own entries are those that it had, those of the requests, and the going
  pub entries : List Told
  pub requests : AreOfAll silent k.caller (asked done) heard entries
  pub all_told : AreTold tells entries
  pub adds : Adds o k (entries ++ made_of (moment, Gone k.caller) answers.Done ∷ []) k'
  -- each request found room in the state of its place
  pub places : List ℕ
  pub own : stood.own ≡ k.own ++ places
  pub found : StepsHadRoom o k'.seen (unowed_places places entries) (map (step_for k.caller) (asked done))
