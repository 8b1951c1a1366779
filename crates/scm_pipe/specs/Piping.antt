-- A connection alone at a book of its own: what was read, the whole history, and what was written and kept.
use Rattle.std.specs.Prelude.{ℕ, ◌≡◌, ◌⊎◌, ◌≤◌, ◌^◌, ◌++◌, true, false, List, [], ◌∷◌, length, All, Option, Some}
use Rattle.std.specs.Io.KnownBytes.{Appends, Consumes}
use Rattle.outside.specs.Written.{Begins}
use Rattle.scm_model.specs.declared.flat.Flat.{Flat}
use Rattle.scm_model.specs.declared.flat.Limits.{Limits}
use Rattle.scm_model.specs.declared.flat.Principal.{Principal}
use Rattle.scm_model.specs.declared.steps.Step.TheVariants.{Joined}
use Rattle.scm_model.specs.Entries.{Entry}
use Rattle.scm_rules.specs.Histories.{Legal}
use Rattle.scm_rules.specs.Opening.{IsOpening}
use Rattle.scm_trail.specs.Segments.{IsCoded}
use Rattle.record_journal.specs.declared.journal.Journal.{Journal}
use Rattle.rpc_session.specs.declared.state.Incoming.{Incoming}
use Rattle.rpc_session.specs.Items.{items}
use Rattle.book_rule.specs.declared.view.Opening.{Opening}
use Rattle.scm_book.specs.Calls.{HasKept}
use Rattle.scm_book.specs.Ghosts.{Ghosts}
use Rattle.scm_book.specs.Holds.{begun_with}
use Rattle.scm_book.specs.Joins.{has_place}
use Rattle.scm_book.specs.Passes.{Known, room_behind}
use Rattle.conn_desk.specs.declared.asked.DecodedRequest.{DecodedRequest}
use Rattle.conn_desk.specs.declared.served.Served.{Served}
use Rattle.conn_desk.specs.declared.served.Served.TheVariants as served
use Rattle.conn_desk.specs.Bodies.{asked, asked_by}
use Rattle.conn_desk.specs.Connection.{Reached}
use Rattle.conn_desk.specs.Desks.{AsMany}
use Rattle.scm_pipe.specs.declared.alone.Piped.{Piped}
use Rattle.scm_pipe.specs.Histories.{IsPipeHistory, IsPipeRun, has_room_after, replies, the_caller}

-- ## Room

-- the limits have no room for a request of the one caller after a history
abbrev pub HasNoRoomAfter : Limits → Flat → List Entry → DecodedRequest → Type 0
HasNoRoomAfter l f run request = has_room_after l f run the_caller request ≡ false

-- after whatever serves the first requests of these bytes, they have room for the next one
abbrev pub HasRoomForAll : Principal → Limits → Flat → List ℕ → Type 0
HasRoomForAll principal l f bytes =
    (done : List Incoming) (next : Incoming) (request : DecodedRequest) → Begins (done ++ next ∷ []) (items bytes).items
    → asked_by next ≡ Some request
    → (run : List Entry) → IsPipeRun principal l f (asked done) run → Legal l f run → has_room_after l f run the_caller request ≡ true

-- ## A connection

-- What a connection read, answered and wrote, and its whole history from f on. But for the moments, for what became of each change, and for
-- where memory was wanting, the history is fixed by the principal, by the state that it begins in, and by the requests.
pub record IsPiped (tells : ℕ → Type 0) (principal : Principal) (l : Limits) (f : Flat) (left left_now held held_now : Option (List ℕ))
    (how : Served) (history : List Entry) : Type 0 where
  pub read : List ℕ
  pub done : List Incoming
  pub written : List ℕ
  pub consumed : Consumes left left_now read
  pub most : length read ≤ 2 ^ 40
  pub appended : Appends held held_now written
  -- nothing stands in it but the caller's joining, what serves its requests, and its going, at moments that the clock tells
  pub run : List Entry
  pub alone : IsPipeHistory principal l f (asked done) run history
  pub legal : Legal l f history
  pub moments : All (λ (e : Entry). tells e.0) history
  -- the connection came as far as it is answered, with the replies that this history gives
  pub replied : AsMany (asked done) (replies l f the_caller history)
  pub reached : Reached (HasNoRoomAfter l f) run how read left_now done (replies l f the_caller history) written

-- there was no memory for the caller's joining: nothing was read or written
pub record IsUnjoined (left left_now held held_now : Option (List ℕ)) (how : Served) : Type 0 where
  pub lacks : how ≡ served.OutOfMemory
  pub unread : left_now ≡ left
  pub unwritten : held_now ≡ held

-- ## Before the joining

-- a pass that is nobody's, and the only one of an empty history
pub record IsRoot (root : Known) : Type 0 where
  pub nobody : root.caller ≡ 0
  pub seen : root.seen ≡ []
  pub alone : root.alone ≡ true

-- the history begins in an opening state, with a place for one caller and room for its joining
pub record CanJoin (o : Opening) (principal : Principal) : Type 0 where
  pub opens : IsOpening o.limits o.first
  pub place : has_place o [] ≡ true
  pub room : room_behind o [] (Joined principal) ≡ true

-- ## The keeper

module _ {K : Type 0} (ghosts : Ghosts K) where
  -- each entry of a history has a code, and the keeper has the changes that were kept
  pub record IsKept (o : Opening) (history : List Entry) (keeper : K) : Type 0 where
    pub coded : All IsCoded history
    pub keeps : HasKept ghosts o history keeper

  -- a connection was served, and the keeper has the kept changes of its history
  pub record IsJoined (tells : ℕ → Type 0) (principal : Principal) (o : Opening) (left left_now held held_now : Option (List ℕ))
      (end : Piped K) : Type 0 where
    pub history : List Entry
    pub piped : IsPiped tells principal o.limits o.first left left_now held held_now end.how history
    pub kept : IsKept o history end.keeper

  -- at a book: it was served, or its caller didn't join, and the history is empty
  abbrev pub IsEndAt : (tells : ℕ → Type 0) → Principal → Opening → (left left_now held held_now : Option (List ℕ)) → Piped K → Type 0
  IsEndAt tells principal o left left_now held held_now end =
      IsJoined tells principal o left left_now held held_now end ⊎ (IsUnjoined left left_now held held_now end.how × IsKept o [] end.keeper)

  -- or there was no memory for a book either, and the keeper is as it was
  abbrev pub IsEnd : (tells : ℕ → Type 0) → Principal → Limits → Flat → Journal → (left left_now held held_now : Option (List ℕ)) → K
      → Piped K → Type 0
  IsEnd tells principal l f j left left_now held held_now keeper end =
      IsEndAt tells principal (begun_with ghosts l f j keeper) left left_now held held_now end
      ⊎ (IsUnjoined left left_now held held_now end.how × (end.keeper ≡ keeper))
