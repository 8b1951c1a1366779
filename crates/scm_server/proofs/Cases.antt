-- What becomes of a connection: the first case from a join that was refused, the second from a caller's pass that was spent.
use Rattle.std.proofs.Common.{◌≡◌, ◌≢◌, ◌⊎◌, ◌∙◌, ℕ, true, false, List, [], ◌∷◌, ◌++◌, length, map, Option, None, Some, refl, sym, ap}
use Rattle.std.proofs.Common.{subst}
use Rattle.std.proofs.Common.{inl, inr, eq-eqb}
use Rattle.std.proofs.lemmas.List.Elements.{All-cons}
use mathlib.Core.List.{IsPrefix}
use Rattle.outside.specs.Written.{IsFresh}
use Rattle.scm_model.specs.declared.calls.Reply.{Reply}
use Rattle.scm_model.specs.declared.flat.Principal.{Principal}
use Rattle.scm_model.specs.declared.steps.Answer.TheVariants as answers
use Rattle.scm_model.specs.declared.steps.Name.TheVariants as names
use Rattle.scm_model.specs.declared.steps.Step.TheVariants.{Gone, Joined}
use Rattle.scm_model.specs.Entries.{Entry}
use Rattle.scm_rules.specs.Histories.{Legal, state}
use Rattle.scm_rules.specs.Named.{caller_named, has_made}
use Rattle.scm_rules.specs.Opening.{IsOpening}
use Rattle.scm_runs.proofs.Histories.{legal_made}
use Rattle.scm_runs.proofs.Sound.{begun}
use Rattle.scm_history.specs.Anew.{MakesAnew}
use Rattle.scm_history.specs.Owned.{Made as Told, made_of}
use Rattle.scm_history.proofs.Anew.{makes_anew}
use Rattle.rpc_session.specs.declared.state.Incoming.{Incoming}
use Rattle.book_rule.specs.declared.view.Opening.{Opening}
use Rattle.book_rule.specs.Seats.{Identity}
use Rattle.book_rule.specs.Ways.{Has}
use Rattle.book_rule.proofs.Places.{has_left}
use Rattle.book_rule.proofs.Prefixes.{prefix_self, prefix_snoc, prefix_trans}
use Rattle.scm_book.specs.declared.answers.JoinFault.{JoinFault}
use Rattle.scm_book.specs.declared.answers.JoinFault.TheVariants as joins
use Rattle.scm_book.specs.declared.fault.MakeFault.TheVariants as makes
use Rattle.scm_book.specs.Joins.{JoinCause, Joins, Watches, fresh, has_place}
use Rattle.scm_book.specs.Passes.{Known, Made, room_behind}
use Rattle.conn_desk.specs.declared.served.Served.{Served}
use Rattle.conn_desk.specs.declared.served.Served.TheVariants as served
use Rattle.conn_desk.specs.Bodies.{asked}
use Rattle.conn_desk.specs.Connection.{IsServedFor, Reached}
use Rattle.conn_worker.specs.Connecting.{Connects, HasNoRoomFor}
use Rattle.conn_worker.specs.Owning.{StepsHadRoom, HadRoom, Owns, StandAt, unowed_places}
use Rattle.conn_worker.specs.Serving.{step_for}
use Rattle.conn_worker.proofs.Owning.{found_behind, had_behind, had_room}
use Rattle.conn_worker.proofs.Reaching.{reached_as}
use Rattle.scm_listener.specs.Connections.{PastConnection}
use Rattle.scm_server.specs.Handling.{Handed, HasNoRoomBehind, IsHandledAs, JoinedBehind, NamedOnlyAt, StandsForIt, WasRefused}
use Rattle.scm_server.specs.Handling.{is_without_memory, wants_memory}
use Rattle.scm_server.specs.Pairs.{Ascends}
use Rattle.scm_server.specs.Works.{HasJoined, IsDone, Out}
use Rattle.scm_server.proofs.Chains.{Goes, goes_on, of_chain, of_left, rises}
use Rattle.scm_server.proofs.Named.{are_named}
use Rattle.scm_book.proofs.Names.{caller_at}
use Rattle.scm_server.proofs.Entries.{but_last, has_named, made_behind, named_only, not_made_before, stand_behind, stands_behind}

-- ## Histories that go on

module _ (tells : ℕ → Type 0) (o : Opening) (begins : IsOpening o.limits o.first) (principal : Principal) (log later : List Entry)
    (is : IsPrefix log later) (legal : Legal o.limits o.first later) (h : Handed) where
  refused_still : WasRefused o log principal h → WasRefused o later principal h
  refused_still r = record {
    fresh = r.fresh;
    unread = r.unread;
    unwritten = r.unwritten;
    no_read_fault = r.no_read_fault;
    no_write_fault = r.no_write_fault;
    front = r.front;
    within = prefix_trans r.front log later r.within is;
    cause = r.cause;
  }

  stands_still : (caller : ℕ) → StandsForIt tells o log principal h caller → StandsForIt tells o later principal h caller
  stands_still caller s = record {
    how = s.how;
    done = s.done;
    heard = s.heard;
    stood = s.stood;
    within = prefix_trans s.stood log later s.within is;
    memory = s.memory;
    served = s.served;
    joined = s.joined;
    entries = s.entries;
    gone = s.gone;
    requests = s.requests;
    named = s.named;
    told = s.told;
    told_last = s.told_last;
    places = s.places;
    last = s.last;
    stand = stand_behind o log later s.places (made_of (s.joined, Joined principal) (answers.Caller caller) ∷ s.entries) is s.stand;
    goes = stands_behind o log later s.last (made_of (s.gone, Gone caller) answers.Done) is s.goes;
    found = found_behind o log later (unowed_places s.places (made_of (s.joined, Joined principal) (answers.Caller caller) ∷ s.entries))
        (Joined principal ∷ map (step_for caller) (asked s.done)) is s.found;
    rising = s.rising;
    ahead = s.ahead;
    no_other = named_only o begins caller log later (s.places ++ s.last ∷ []) s.last s.gone is legal s.goes s.no_other;
    made = made_behind o.limits o.first caller log later is s.made;
  }

  pub handled_still : (caller : Option ℕ) → IsHandledAs tells o log principal h caller → IsHandledAs tells o later principal h caller
  handled_still None r = refused_still r
  handled_still (Some caller) s = stands_still caller s

-- ## Refused

refused_for : (o : Opening) (principal : Principal) (seen : List Entry) (given began : Option (List ℕ)) (past : PastConnection)
    → (has_place o seen ≡ false) ⊎ (room_behind o seen (Joined principal) ≡ false) → IsFresh given began
    → past.left ≡ given → past.written ≡ began → past.read_faults ≡ 0 → past.write_faults ≡ 0
    → WasRefused o seen principal (record { given = given; began = began; past = past; caller = None })
refused_for o principal seen given began past cause fresh left written reads writes = record {
  fresh = fresh;
  unread = left;
  unwritten = written;
  no_read_fault = reads;
  no_write_fault = writes;
  front = seen;
  within = prefix_self seen;
  cause = cause;
}

pub refused_by : (tells : ℕ → Type 0) (o : Opening) (principal : Principal) (by by' : Known) (given began : Option (List ℕ))
    (past : PastConnection) (fault : JoinFault)
    → Watches o by by' → JoinCause o by' principal fault → IsFresh given began → past.left ≡ given → past.written ≡ began
    → past.read_faults ≡ 0 → past.write_faults ≡ 0
    → is_without_memory fault ≡ false → WasRefused o by'.seen principal
    (record { given = given; began = began; past = past; caller = None })
refused_by tells o principal by by' given began past joins.TooMany watches cause fresh left written reads writes short =
    refused_for o principal by'.seen given began past (inl cause) fresh left written reads writes
refused_by tells o principal by by' given began past (joins.Unmade makes.Full) watches cause fresh left written reads writes short =
    refused_for o principal by'.seen given began past (inr cause.1) fresh left written reads writes
refused_by tells o principal by by' given began past (joins.Unmade makes.OutOfMemory) watches cause fresh left written reads writes short =
    absurd cc

-- ## Served

reached_behind : (o : Opening) (caller : ℕ) (how : Served) (k : Known) (read : List ℕ) (left : Option (List ℕ)) (done : List Incoming)
    (heard : List (Option Reply)) (written : List ℕ)
    → k.caller ≡ caller → Reached (HasNoRoomFor o) k how read left done heard written
    → Reached (HasNoRoomBehind o caller) k.seen how read left done heard written
reached_behind o caller how k read left done heard written same reached =
    reached_as (HasNoRoomFor o) (HasNoRoomBehind o caller) k k.seen
    (λ request none. subst (λ (c : ℕ). HasNoRoomBehind o c k.seen request) same none) how read left done heard written reached

module _ (tells : ℕ → Type 0) (o : Opening) (begins : IsOpening o.limits o.first) (principal : Principal) (by mid p : Known) (moment : ℕ)
    (so : tells moment) (joins : Joins o by moment principal mid p) where
  made : Made o (fresh by) moment (Joined principal) (answers.Caller p.caller) p
  made = joins.made.made

  next_is : p.caller ≡ (state o.limits o.first made.before).next.caller
  next_is = made.caller

  pub joined_made : has_made o.limits o.first p.caller p.seen ≡ true
  joined_made =
      subst (λ (es : List Entry). has_made o.limits o.first p.caller es ≡ true) (sym made.seen)
      (caller_at o.limits o.first p.caller made.before (moment, Joined principal) []
      (eq-eqb p.caller (state o.limits o.first made.before).next.caller next_is))

  pub joined_behind : JoinedBehind o by.seen p.caller
  joined_behind =
      let legal : Legal o.limits o.first (made.before ++ (moment, Joined principal) ∷ []) =
      subst (Legal o.limits o.first) made.seen made.legal in
      let anew : MakesAnew o.limits o.first made.before (moment, Joined principal) =
      makes_anew o.limits o.first (made.before ++ (moment, Joined principal) ∷ []) (begun o.limits o.first begins)
      (legal_made o.limits o.first (made.before ++ (moment, Joined principal) ∷ []) legal) made.before (moment, Joined principal)
      [] refl in
      let there : has_made o.limits o.first p.caller made.before ≡ false =
      subst (λ (n : ℕ). has_made o.limits o.first n made.before ≡ false) (sym next_is) anew.joined in
      not_made_before o.limits o.first p.caller by.seen made.before made.longer there

  joined_stands : Owns o p (made_of (moment, Joined principal) (answers.Caller p.caller) ∷ [])
  joined_stands =
      subst (λ (places : List ℕ). StandAt o p.seen places (made_of (moment, Joined principal) (answers.Caller p.caller) ∷ []))
      (sym made.own)
      (record { front = made.before; rest = []; is = made.seen; at = refl; told = made.answer }, tt)

  one_rises : Ascends p.own
  one_rises = subst Ascends (sym made.own) ((λ y none. absurd none), tt)

  module _ (spent : Known) (given began : Option (List ℕ)) (past : PastConnection) (how : Served)
      (connects : Connects true tells o p spent given past.left began past.written how)
      (ends : IsServedFor how 0 past.read_faults 0 past.write_faults) where
    gone : Made o connects.stood connects.moment (Gone p.caller) answers.Done spent
    gone = connects.goes

    goes_stood : Goes p connects.stood
    goes_stood = goes_on p connects.last connects.stood (of_chain o tells p connects.last
        (asked connects.done) connects.heard connects.chain) (of_left o how connects.last connects.stood connects.leaves)

    all_stand : StandAt o spent.seen (connects.stood.own ++ length gone.before ∷ [])
        (made_of (moment, Joined principal) (answers.Caller p.caller) ∷ connects.entries
        ++ made_of (connects.moment, Gone p.caller) answers.Done ∷ [])
    all_stand =
        subst (λ (places : List ℕ). StandAt o spent.seen places (made_of (moment, Joined principal)
        (answers.Caller p.caller) ∷ connects.entries ++ made_of (connects.moment, Gone p.caller) answers.Done ∷ [])) gone.own
        (connects.adds.own (made_of (moment, Joined principal) (answers.Caller p.caller) ∷ []) joined_stands)

    joining_found : HadRoom o spent.seen (length joins.made.made.before) (Joined principal)
    joining_found =
        had_behind o p.seen spent.seen (length joins.made.made.before) (Joined principal) connects.adds.longer
        (had_room o (fresh by) p moment (Joined principal) (answers.Caller p.caller) joins.made.made (Joined principal) joins.made.room)

    all_found : StepsHadRoom o spent.seen (unowed_places connects.stood.own
        (made_of (moment, Joined principal) (answers.Caller p.caller) ∷ connects.entries))
        (Joined principal ∷ map (step_for p.caller) (asked connects.done))
    all_found =
        subst (λ (places : List ℕ). StepsHadRoom o spent.seen (unowed_places places
        (made_of (moment, Joined principal) (answers.Caller p.caller) ∷ connects.entries))
        (Joined principal ∷ map (step_for p.caller) (asked connects.done)))
        (sym (connects.own ∙ ap (λ (own : List ℕ). own ++ connects.places) joins.made.made.own)) (joining_found, connects.found)

    only : p.caller ≢ 0 → NamedOnlyAt spent.seen p.caller (connects.stood.own ++ length gone.before ∷ [])
    only some front e rest split named =
        let same : connects.stood.caller ≡ p.caller = goes_stood.caller in
        let held : Has (names.Caller connects.stood.caller) connects.stood.names = gone.until.caller (λ none. some (sym same ∙ none)) in
        let mine : Has (names.Caller p.caller) connects.stood.names = subst
        (λ (c : ℕ). Has (names.Caller c) connects.stood.names) same held in
        let still : Has (names.Caller p.caller) spent.names = subst (Has (names.Caller p.caller)) (sym gone.names)
        (has_left (names.Caller p.caller) connects.stood.names _ mine) in
        subst (Has (length front)) gone.own
        (gone.claims.named (names.Caller p.caller) still (length front)
        (record {
          front = front;
          entry = e;
          rest = rest;
          is = split;
          place = refl;
          named = has_named p.caller (caller_named e.1) _ named;
        }))

    pub stands_for : p.caller ≢ 0 → IsFresh given began → (how ≡ served.OutOfMemory → ⊥)
        → StandsForIt tells o spent.seen principal (record { given = given; began = began; past = past; caller = Some p.caller }) p.caller
    stands_for some fresh memory =
        let one : Told = made_of (moment, Joined principal) (answers.Caller p.caller) in
        let last : Told = made_of (connects.moment, Gone p.caller) answers.Done in
        let before : IsPrefix gone.before spent.seen = subst (IsPrefix gone.before) (sym gone.seen)
        (prefix_snoc gone.before gone.before (connects.moment, Gone p.caller) (prefix_self gone.before)) in
        let kept : IsPrefix p.seen spent.seen = connects.adds.longer in
        record {
          how = how;
          done = connects.done;
          heard = connects.heard;
          stood = connects.stood.seen;
          within = prefix_trans connects.stood.seen gone.before spent.seen gone.longer before;
          memory = memory;
          served = record {
            fresh = fresh;
            read = connects.read;
            consumed = connects.consumed;
            most = connects.most;
            written = connects.written;
            appended = connects.appended;
            reached = reached_behind o p.caller how connects.stood connects.read past.left connects.done connects.heard connects.written
                goes_stood.caller connects.reached;
            cause = ends;
          };
          joined = moment;
          entries = connects.entries;
          gone = connects.moment;
          requests = connects.requests;
          named = are_named p.caller (asked connects.done) connects.heard connects.entries connects.requests;
          told = All-cons (λ (t : Told). tells t.entry.0) one connects.entries so connects.all_told;
          told_last = connects.told;
          places = connects.stood.own;
          last = length gone.before;
          stand = but_last o spent.seen connects.stood.own (length gone.before) (one ∷ connects.entries) last all_stand;
          goes = record { front = gone.before; rest = []; is = gone.seen; at = refl; told = gone.answer };
          found = all_found;
          rising = subst Ascends gone.own (rises o connects.stood spent connects.moment (Gone p.caller) answers.Done gone
              (goes_stood.rising one_rises));
          ahead = gone.until.within;
          no_other = only some;
          made = made_behind o.limits o.first p.caller p.seen spent.seen kept joined_made;
        }

-- ## At work

module _ (tells : ℕ → Type 0) (o : Opening) (begins : IsOpening o.limits o.first) (principal : Principal) (w : Out)
    (joined : HasJoined tells o principal w) where
  pub worker_behind : JoinedBehind o joined.by.seen w.pass.caller
  worker_behind = joined_behind tells o begins principal joined.by joined.by' w.pass joined.moment joined.told joined.joins

  pub worker_made : has_made o.limits o.first w.pass.caller joined.by'.seen ≡ true
  worker_made =
      subst (λ (es : List Entry). has_made o.limits o.first w.pass.caller es ≡ true) (sym joined.joins.seen)
      (joined_made tells o begins principal joined.by joined.by' w.pass joined.moment joined.told joined.joins)

  pub stood_for : (b : Identity) (spent : Known) (past : PastConnection) (how : Served) → b.opening ≡ o → IsDone tells b w spent past how
      → (how ≡ served.OutOfMemory → ⊥)
      → StandsForIt tells o spent.seen principal (record { given = w.given; began = w.began; past = past; caller = Some w.pass.caller })
      w.pass.caller
  stood_for b spent past how same done memory =
      let connects : Connects true tells o w.pass spent w.given past.left w.began past.written how =
      subst (λ (p : Opening). Connects true tells p w.pass spent w.given past.left w.began past.written how) same done.connects in
      let one : IsServedFor how 0 past.read_faults w.write_faults past.write_faults =
      subst (λ (n : ℕ). IsServedFor how n past.read_faults w.write_faults past.write_faults) joined.untouched.unread done.cause in
      let both : IsServedFor how 0 past.read_faults 0 past.write_faults =
      subst (λ (n : ℕ). IsServedFor how 0 past.read_faults n past.write_faults) joined.untouched.unfailed one in
      stands_for tells o begins principal joined.by joined.by' w.pass joined.moment joined.told joined.joins spent w.given w.began past how
      connects both joined.somebody joined.untouched.unwritten memory

pub memory_of : (how : Served) → wants_memory how ≡ false → how ≡ served.OutOfMemory → ⊥
memory_of how quiet is = let loud : wants_memory how ≡ true = ap wants_memory is in absurd cc
