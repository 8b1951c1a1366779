-- A whole connection at a book of its own.
use Rattle.std.proofs.Common.{ℕ, ◌≡◌, ◌≢◌, ◌∙◌, true, false, List, [], ◌∷◌, ◌++◌, length, Option, None, Some, inl, inr, refl, sym, ap}
use Rattle.std.proofs.Common.{subst}
use Rattle.std.proofs.Common.{append-nil}
use Rattle.std.specs.Prelude.{All}
use Rattle.std.proofs.lemmas.Bool.{false≢true}
use Rattle.std.proofs.lemmas.List.Elements.{All-append, All-cons, All-nil}
use Rattle.outside.specs.Causes.{Rose}
use Rattle.scm_model.specs.declared.flat.Flat.{Flat}
use Rattle.scm_model.specs.declared.flat.Limits.{Limits}
use Rattle.scm_model.specs.declared.flat.Principal.{Principal}
use Rattle.scm_model.specs.declared.calls.Reply.{Reply}
use Rattle.scm_model.specs.declared.steps.Step.TheVariants.{Gone, Joined}
use Rattle.scm_model.specs.Entries.{Entry, text_in}
use Rattle.scm_rules.specs.Histories.{Legal, state}
use Rattle.scm_rules.specs.Room.{has_room}
use Rattle.scm_rules.specs.Runs.{run_state}
use Rattle.scm_runs.proofs.Histories.{state_is}
use Rattle.scm_owed.proofs.Histories.{legal_front}
use Rattle.record_journal.specs.declared.journal.Journal.{Journal}
use Rattle.rpc_session.specs.declared.state.Incoming.{Incoming}
use Rattle.book_rule.specs.declared.view.Opening.{Opening}
use Rattle.scm_book.specs.declared.book.Closed.{Closed}
use Rattle.scm_book.specs.Calls.{Closes}
use Rattle.scm_book.specs.Ghosts.{Ghosts}
use Rattle.scm_book.specs.Holds.{begun_with}
use Rattle.scm_book.specs.Passes.{Known, Learnt}
use Rattle.conn_desk.specs.declared.asked.DecodedRequest.{DecodedRequest}
use Rattle.conn_desk.specs.declared.served.Served.{Served}
use Rattle.conn_desk.specs.declared.served.Served.TheVariants as served
use Rattle.conn_desk.specs.Bodies.{asked}
use Rattle.conn_desk.specs.Connection.{HasNoRoom, IsServedFor, Reached}
use Rattle.conn_desk.specs.Desks.{AsMany}
use Rattle.conn_desk.specs.Serves.{Leaves}
use Rattle.conn_desk.proofs.Talking.{chain_as_many}
use Rattle.conn_worker.specs.Complete.{EndsAs, FindsRoom, IsComplete}
use Rattle.conn_worker.specs.Connecting.{Connects, HasNoRoomFor}
use Rattle.conn_worker.specs.Serving.{IsServed, step_for}
use Rattle.conn_worker.proofs.Complete.{ends_as, lacks, rest_of, where_full}
use Rattle.conn_worker.proofs.Fronts.{front_of_all}
use Rattle.conn_worker.proofs.Reaching.{reached_as}
use Rattle.scm_pipe.specs.declared.alone.Piped.{Piped}
use Rattle.scm_pipe.specs.Histories.{AreServed, replies, the_caller}
use Rattle.scm_pipe.specs.Piping.{HasNoRoomAfter, HasRoomForAll, IsEnd, IsEndAt, IsJoined, IsKept, IsPiped, IsRoot, IsUnjoined}
use Rattle.scm_pipe.proofs.Histories.{replies_append}
use Rattle.scm_pipe.proofs.Joining.{HasJoined}
use Rattle.scm_pipe.proofs.Walking.{RunsTo, runs}

-- ## The end

-- what the connection's end left has seen just what the last request left
record SeesNoMore (last stood : Known) : Type 0 where
  seen : stood.seen ≡ last.seen
  alone : stood.alone ≡ last.alone
  caller : stood.caller ≡ last.caller

sees_same : (last stood : Known) → stood ≡ last → SeesNoMore last stood
sees_same last stood same = record {
  seen = ap (λ (x : Known). x.seen) same;
  alone = ap (λ (x : Known). x.alone) same;
  caller = ap (λ (x : Known). x.caller) same;
}

sees_learnt : (o : Opening) (last stood : Known) → last.alone ≡ true → Learnt o last stood → SeesNoMore last stood
sees_learnt o last stood alone learnt = record { seen = learnt.alone alone; alone = learnt.same.alone; caller = learnt.caller }

sees_no_more : (o : Opening) (how : Served) (last stood : Known) → last.alone ≡ true → Leaves (Learnt o) how last stood
    → SeesNoMore last stood
sees_no_more o served.Full last stood alone leaves = sees_learnt o last stood alone leaves
sees_no_more o served.OutOfMemory last stood alone (inl same) = sees_same last stood same
sees_no_more o served.OutOfMemory last stood alone (inr learnt) = sees_learnt o last stood alone learnt
sees_no_more o how last stood alone leaves = sees_same last stood leaves

-- no room for a request of caller 1 behind what the pass has seen
no_room : (o : Opening) (stood : Known) (request : DecodedRequest) → stood.caller ≡ the_caller → HasNoRoomFor o stood request
    → HasNoRoomAfter o.limits o.first stood.seen request
no_room o stood request mine none =
    subst (λ (c : ℕ). has_room o.limits (state o.limits o.first stood.seen) (length stood.seen) (text_in stood.seen)
    (step_for c request) ≡ false) mine none

reached_so : (o : Opening) (how : Served) (stood : Known) (read : List ℕ) (left_now : Option (List ℕ)) (done : List Incoming)
    (heard : List (Option Reply)) (written : List ℕ)
    → stood.caller ≡ the_caller → Reached (HasNoRoomFor o) stood how read left_now done heard written
    → Reached (HasNoRoomAfter o.limits o.first) stood.seen how read left_now done heard written
reached_so o how stood read left_now done heard written mine reached =
    reached_as (HasNoRoomFor o) (HasNoRoomAfter o.limits o.first) stood stood.seen (λ request none. no_room o stood request mine none) how
    read left_now done heard written reached

-- ## The whole connection

module _ (tells : ℕ → Type 0) (principal : Principal) (o : Opening) (k k' : Known) (left left_now held held_now : Option (List ℕ))
    (how : Served)
    (joined : HasJoined tells principal k) (c : Connects false tells o k k' left left_now held held_now how) where
  abbrev pub l : Limits
  l = o.limits

  abbrev pub f : Flat
  f = o.first

  abbrev pub join : Entry
  join = (joined.moment, Joined principal)

  abbrev pub g : Flat
  g = run_state l f (join ∷ [])

  at_joining : state l f k.seen ≡ g
  at_joining = ap (λ (es : List Entry). state l f es) joined.seen ∙ state_is l f (join ∷ [])

  pub all : RunsTo tells o the_caller k c.last g (asked c.done) c.heard
  all = runs tells o the_caller k c.last g (asked c.done) c.heard joined.alone at_joining joined.caller c.chain

  no_more : SeesNoMore c.last c.stood
  no_more = sees_no_more o how c.last c.stood all.alone c.leaves

  abbrev pub run : List Entry
  run = join ∷ all.entries

  stood_is : c.stood.seen ≡ run
  stood_is = no_more.seen ∙ (all.seen ∙ ap (λ (es : List Entry). es ++ all.entries) joined.seen)

  gone_is : k'.seen ≡ run ++ (c.moment, Gone the_caller) ∷ []
  gone_is =
      c.goes.seen
      ∙ ap (λ (es : List Entry). es ++ (c.moment, Gone k.caller) ∷ []) (c.goes.alone (no_more.alone ∙ all.alone) ∙ stood_is)
      ∙ ap (λ (n : ℕ). run ++ (c.moment, Gone n) ∷ []) joined.caller

  abbrev pub history : List Entry
  history = run ++ (c.moment, Gone the_caller) ∷ []

  told_all : replies l f the_caller history ≡ c.heard
  told_all =
      replies_append l g the_caller all.entries ((c.moment, Gone the_caller) ∷ [])
      ∙ (append-nil (replies l g the_caller all.entries) ∙ all.heard)

  moments : All (λ (e : Entry). tells e.0) history
  moments =
      All-cons (λ (e : Entry). tells e.0) join (all.entries ++ (c.moment, Gone the_caller) ∷ []) joined.told
      (All-append (λ (e : Entry). tells e.0) all.entries ((c.moment, Gone the_caller) ∷ []) all.moments
      (All-cons (λ (e : Entry). tells e.0) (c.moment, Gone the_caller) [] c.told (All-nil (λ (e : Entry). tells e.0))))

  came : Reached (HasNoRoomAfter l f) run how c.read left_now c.done c.heard c.written
  came = subst (λ (es : List Entry). Reached (HasNoRoomAfter l f) es how c.read left_now c.done c.heard c.written) stood_is
      (reached_so o how c.stood c.read left_now c.done c.heard c.written (no_more.caller ∙ all.caller) c.reached)

  pub piped : IsPiped tells principal l f left left_now held held_now how history
  piped = record {
    read = c.read;
    done = c.done;
    written = c.written;
    consumed = c.consumed;
    most = c.most;
    appended = c.appended;
    run = run;
    alone = record {
      runs = record {
        joined = joined.moment;
        calls = all.entries;
        order = refl;
        served = subst (λ (es : List Entry). AreServed l f es the_caller (asked c.done) all.entries) joined.seen all.served;
      };
      gone = c.moment;
      order = refl;
    };
    legal = subst (Legal l f) gone_is c.goes.legal;
    moments = moments;
    replied = subst (λ (ts : List (Option Reply)). AsMany (asked c.done) ts) (sym told_all)
        (chain_as_many (IsServed false tells o) k c.last (asked c.done) c.heard c.chain);
    reached = subst (λ (ts : List (Option Reply)). Reached (HasNoRoomAfter l f) run how c.read left_now c.done ts c.written)
        (sym told_all) came;
  }

  -- it is what the pass has then seen
  pub seen_is : k'.seen ≡ history
  seen_is = gone_is

-- ## At its end

module _ {K : Type 0} (ghosts : Ghosts K) where
  -- what a book that is closed leaves
  pub kept_by : (o : Opening) (last : Known) (c : Closed K) → last.alone ≡ true → Closes ghosts o last c
      → IsKept ghosts o last.seen c.keeper
  kept_by o last c alone closes = subst (λ (es : List Entry). IsKept ghosts o es c.keeper) (closes.alone alone)
      (record { coded = closes.coded; keeps = closes.keeps })

  -- a connection that was served
  pub joined_end : (tells : ℕ → Type 0) (principal : Principal) (o : Opening) (k k' : Known) (left left_now held held_now : Option (List ℕ))
      (how : Served) (end : Piped K)
      → HasJoined tells principal k → Connects false tells o k k' left left_now held held_now how → end.how ≡ how
      → (k'.alone ≡ true → IsKept ghosts o k'.seen end.keeper)
      → IsJoined ghosts tells principal o left left_now held held_now
      end
  joined_end tells principal o k k' left left_now held held_now how end joined c same kept = record {
    history = history tells principal o k k' left left_now held held_now how joined c;
    piped = subst (λ (h : Served). IsPiped tells principal o.limits o.first left left_now held held_now h
        (history tells principal o k k' left left_now held held_now how joined c)) (sym same)
        (piped tells principal o k k' left left_now held held_now how joined c);
    kept = subst (λ (es : List Entry). IsKept ghosts o es end.keeper)
        (seen_is tells principal o k k' left left_now held held_now how joined c)
        (kept (c.adds.same.alone ∙ joined.alone));
  }

  -- one whose caller didn't join
  pub unjoined_end : (o : Opening) (root k k' : Known) (left held : Option (List ℕ)) (how : Served) (end : Piped K)
      → IsRoot root → Learnt o root k → k' ≡ k → how ≡ served.OutOfMemory → end.how ≡ how
      → (k'.alone ≡ true → IsKept ghosts o k'.seen end.keeper) → IsUnjoined left left held held end.how
      × IsKept ghosts o [] end.keeper
  unjoined_end o root k k' left held how end is learnt same lacks ends kept = (
    record { lacks = ends ∙ lacks; unread = refl; unwritten = refl },
    subst (λ (es : List Entry). IsKept ghosts o es end.keeper) (ap (λ (x : Known). x.seen) same
        ∙ (learnt.alone is.alone ∙ is.seen))
        (kept (ap (λ (x : Known). x.alone) same ∙ (learnt.same.alone ∙ is.alone))),
  )

-- ## Room

lacks_no_room : served.OutOfMemory ≢ served.Full
lacks_no_room = λ e. cc

module _ (principal : Principal) (l : Limits) (f : Flat) (bytes : List ℕ) (left_now held held_now : Option (List ℕ))
    (room : HasRoomForAll principal l f bytes) where
  -- there was room for the next request
  room_piped : (tells : ℕ → Type 0) (how : Served) (h : List Entry) → IsPiped tells principal l f (Some bytes) left_now held held_now how h
      → how ≢ served.Full
  room_piped tells how h p = λ is.
      let none : HasNoRoom (HasNoRoomAfter l f) p.run p.read p.done =
      where_full (HasNoRoomAfter l f) p.run p.read left_now p.done (replies l f the_caller h) p.written how p.reached is in
      false≢true (sym none.met ∙ room p.done none.next none.request
      (front_of_all p.read bytes (p.done ++ none.next ∷ []) (rest_of bytes p.read left_now p.consumed) none.follows) none.asks p.run
      p.alone.runs
      (legal_front l f p.run ((p.alone.gone, Gone the_caller) ∷ []) (subst (Legal l f) p.alone.order p.legal)))

  room_unjoined : (how : Served) → IsUnjoined (Some bytes) left_now held held_now how → how ≢ served.Full
  room_unjoined how none = λ is. lacks_no_room (sym none.lacks ∙ is)

  room_ends : {K : Type 0} (ghosts : Ghosts K) (tells : ℕ → Type 0) (j : Journal)
      (keeper : K) (end : Piped K)
      → IsEnd ghosts tells principal l f j (Some bytes) left_now held held_now keeper end → end.how ≢ served.Full
  room_ends ghosts tells j keeper end (inl (inl joined)) = room_piped tells end.how joined.history joined.piped
  room_ends ghosts tells j keeper end (inl (inr none)) = room_unjoined end.how none.0
  room_ends ghosts tells j keeper end (inr none) = room_unjoined end.how none.0

finds_room : {K : Type 0} (ghosts : Ghosts K) (tells : ℕ → Type 0)
    (principal : Principal) (l : Limits)
    (f : Flat) (j : Journal) (left left_now held held_now : Option (List ℕ)) (keeper : K) (end : Piped K)
    → IsEnd ghosts tells principal l f j left left_now held held_now keeper end
    → FindsRoom (HasRoomForAll principal l f) left end.how
finds_room ghosts tells principal l f j None left_now held held_now keeper end is = tt
finds_room ghosts tells principal l f j (Some bytes) left_now held held_now keeper end is =
    λ room. room_ends principal l f bytes left_now held held_now room ghosts tells j keeper end is

-- at a book that opened so
pub finds_room_at : {K : Type 0} (ghosts : Ghosts K) (tells : ℕ → Type 0)
    (principal : Principal) (l : Limits)
    (f : Flat) (j : Journal) (left left_now held held_now : Option (List ℕ)) (keeper : K) (end : Piped K) (o : Opening)
    → o ≡ begun_with ghosts l f j keeper → IsEndAt ghosts tells principal o left left_now held held_now end
    → FindsRoom (HasRoomForAll principal l f) left end.how
finds_room_at ghosts tells principal l f j left left_now held held_now keeper end o opens is =
    finds_room ghosts tells principal l f j left left_now held held_now keeper end
    (inl (subst (λ (x : Opening). IsEndAt ghosts tells principal x left left_now held held_now end) opens is))

-- ## Completeness

module _ (principal : Principal) (l : Limits) (f : Flat) (bytes : List ℕ) (left_now held held_now : Option (List ℕ))
    (source source_now sink sink_now : ℕ)
    (no_read : Rose source source_now → ⊥) (no_write : Rose sink sink_now → ⊥) where
  ends_piped : (tells : ℕ → Type 0) (how : Served) (h : List Entry) → IsPiped tells principal l f (Some bytes) left_now held held_now how h
      → IsServedFor how source source_now sink sink_now → how ≢ served.Full → EndsAs bytes how
  ends_piped tells how h p cause unfilled =
      ends_as (HasNoRoomAfter l f) p.run bytes p.read p.done (replies l f the_caller h) p.written left_now p.consumed p.most source
      source_now sink sink_now how p.reached cause no_read no_write (λ is none. unfilled is)

  ends_unjoined : (how : Served) → IsUnjoined (Some bytes) left_now held held_now how → EndsAs bytes how
  ends_unjoined how none = subst (EndsAs bytes) (sym none.lacks) (lacks bytes)

  ends : {K : Type 0} (ghosts : Ghosts K) (tells : ℕ → Type 0) (j : Journal)
      (keeper : K) (end : Piped K)
      → IsEnd ghosts tells principal l f j (Some bytes) left_now held held_now keeper end
      → IsServedFor end.how source source_now sink sink_now → end.how ≢ served.Full → EndsAs bytes end.how
  ends ghosts tells j keeper end (inl (inl joined)) cause unfilled =
      ends_piped tells end.how joined.history joined.piped cause unfilled
  ends ghosts tells j keeper end (inl (inr none)) cause unfilled = ends_unjoined end.how none.0
  ends ghosts tells j keeper end (inr none) cause unfilled = ends_unjoined end.how none.0

complete : {K : Type 0} (ghosts : Ghosts K) (tells : ℕ → Type 0) (principal : Principal)
    (l : Limits) (f : Flat)
    (j : Journal) (left left_now held held_now : Option (List ℕ)) (source source_now sink sink_now : ℕ) (keeper : K) (end : Piped K)
    → IsEnd ghosts tells principal l f j left left_now held held_now keeper end
    → IsServedFor end.how source source_now sink sink_now
    → IsComplete left source source_now sink sink_now end.how
complete ghosts tells principal l f j None left_now held held_now source source_now sink sink_now keeper end is cause = tt
complete ghosts tells principal l f j (Some bytes) left_now held held_now source source_now sink sink_now keeper end is
    cause =
    λ no_read no_write unfilled. ends principal l f bytes left_now held held_now source source_now sink sink_now no_read no_write ghosts
    tells j keeper end is cause unfilled

-- at a book that opened so
pub complete_at : {K : Type 0} (ghosts : Ghosts K) (tells : ℕ → Type 0)
    (principal : Principal) (l : Limits)
    (f : Flat) (j : Journal)
    (left left_now held held_now : Option (List ℕ)) (source source_now sink sink_now : ℕ) (keeper : K) (end : Piped K) (o : Opening)
    → o ≡ begun_with ghosts l f j keeper → IsEndAt ghosts tells principal o left left_now held held_now end
    → IsServedFor end.how source source_now sink sink_now
    → IsComplete left source source_now sink sink_now end.how
complete_at ghosts tells principal l f j left left_now held held_now source source_now sink sink_now keeper end o opens is
    cause =
    complete ghosts tells principal l f j left left_now held held_now source source_now sink sink_now keeper end
    (inl (subst (λ (x : Opening). IsEndAt ghosts tells principal x left left_now held held_now end) opens is)) cause
