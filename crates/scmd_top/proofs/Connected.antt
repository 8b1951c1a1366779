-- A connection over a book of its own, behind the opening of its journal.
use Rattle.std.proofs.Common.{ℕ, ◌≡◌, ◌≢◌, ◌∙◌, ◌⊎◌, Bool, inl, inr, refl, sym, ap, subst, List, [], length, Option, None, Some}
use Rattle.std.proofs.Common.{arith}
use Rattle.std.specs.Prelude.{IfSome, option_map}
use Rattle.outside.specs.Causes.{Rose}
use Rattle.scm_model.specs.declared.flat.Flat.{Flat}
use Rattle.scm_model.specs.declared.flat.Limits.{Limits}
use Rattle.scm_model.specs.declared.flat.Principal.{Principal}
use Rattle.scm_model.specs.declared.steps.Form.{Form}
use Rattle.scm_model.specs.Entries.{Entry}
use Rattle.scm_history.specs.Outcomes.{Outcome, outcomes}
use Rattle.scm_history.proofs.Outcomes.{law_of_outcomes}
use Rattle.record_journal.proofs.Standing.{closed}
use Rattle.record_journal.specs.Bearing.{Bears, KeptIn, Stands, StandsIn, Stood, stood_in}
use Rattle.record_journal.specs.Crashes.{Crashes}
use Rattle.journal_lasting.specs.Lasting.{HasLasted, stood_after}
use Rattle.record_journal.specs.Keepers.{SettledSince}
use Rattle.record_journal.specs.declared.journal.Journal.{Journal}
use Rattle.record_journal.specs.declared.opening.JournalFault.{JournalFault}
use Rattle.record_journal.specs.declared.replaying.Replay.{Replay}
use Rattle.scm_book.specs.Calls.{HasKept, IsOnly}
use Rattle.scm_book.specs.Ghosts.{Ghosts}
use Rattle.scm_book.specs.Holds.{RoseBy, begun_with, failures_in}
use Rattle.scm_book.proofs.Leaving.{bears_first, lasts_first, only_kept}
use Rattle.rpc_session.specs.Items.{StreamEnd, AtRest, Unfinished, BadPdu, TooLong, items}
use Rattle.conn_desk.specs.declared.served.Served.{Served}
use Rattle.conn_desk.specs.declared.served.Served.TheVariants as served
use Rattle.conn_worker.specs.Complete.{IsComplete as EndsAsItsInput, EndsAs as EndsSo, FindsRoom, EndsOrLacks as IsDue, end_as}
use Rattle.scm_pipe.specs.declared.alone.Piped.{Piped}
use Rattle.scm_pipe.specs.Piping.{HasRoomForAll, IsEnd}
use Rattle.scm_restored.specs.declared.Opened.{Opened}
use Rattle.scmd_top.specs.Opening.{FailsToOpen, HasOpened, IsCut, IsUnopened, kept_front, program_opening, status_of_fault}
use Rattle.scmd_top.specs.Pipe.{EndsAs, HasCome, HasNotJoined, HasPiped, HasRoomAlways, IsComplete, IsOrFails, KeepsJournal, pipe_status}
use Rattle.scmd_top.specs.Pipe.{status_of}
use Rattle.scmd_top.specs.Sides.{IsUntouched, Side, Sides, side}
use Rattle.scmd_top.specs.Statuses.{program_limits}
use Rattle.scmd_top.proofs.Again.{opens_again}
use Rattle.scmd_top.proofs.Openings.{fails, not_9, openable}

-- ## What is kept

-- what a run has of a journal that begins with what stood
record KeptFrom (first : Option Stood) (outs : List Outcome) (held : Option (List ℕ)) (now : Crashes) : Type 0 where
  kept : KeptIn (option_map (λ s. stood_after s outs) first) held
  stands : IfSome first (λ s. Stands (stood_after s outs) now)
  only : (s : Stood) → option_map (λ s. stood_after s outs) first ≡ Some s → s.lost ≡ [] → IsOnly held now.leaves

stands_now : (first : Option Stood) (outs : List Outcome) (opened : ℕ) (now : Crashes) → IfSome first (λ s. HasLasted s opened outs now)
    → IfSome first (λ s. Stands (stood_after s outs) now)
stands_now None outs opened now lasts = tt
stands_now (Some s) outs opened now lasts = lasts.stands

-- what is kept after what was cut is kept after the kept front of what stood, which ends in the same form
behind : (replay : Replay) (form : Form) (old mid : Option (List ℕ)) (outs : List Outcome) (held : Option (List ℕ)) (now : Crashes)
    → form ≡ replay.form → IsCut replay.kept old mid
    → KeptFrom (stood_in form mid) outs held now → KeptFrom (kept_front replay old) outs held now
behind replay form None mid outs held now ends cut h = record { kept = tt; stands = tt; only = λ s is none. absurd cc }
behind replay form (Some bytes) mid outs held now ends cut h =
    subst (λ (first : Option Stood). KeptFrom first outs held now)
    (ap (λ (f : Form). stood_in f mid) ends ∙ ap (stood_in replay.form) cut) h

module _ {K : Type 0} (ghosts : Ghosts K) where
  -- what a keeper tells, and how often it failed, before a run and after it
  abbrev told_side : (keeper now : K) → Side
  told_side keeper now = side ghosts.held ghosts.faults keeper now

  -- a keeper that was opened has the changes of a history that were kept
  pub keeps : (replay : Replay) (l : Limits) (f : Flat) (j : Journal) (history : List Entry) (keeper mid now : K) → j.form ≡ replay.form
      → IsCut replay.kept (ghosts.held keeper) (ghosts.held mid) → ghosts.faults mid ≡ ghosts.faults keeper
      → HasKept ghosts (begun_with ghosts l f j mid) history now
      → KeepsJournal replay (outcomes l f history) (failures_in history) (told_side keeper now) (ghosts.crashes now)
  keeps replay l f j history keeper mid now ends cut same k =
      let first = stood_in j.form (ghosts.held mid) in
      let stands = stands_now first (outcomes l f history) (ghosts.crashes mid).moment (ghosts.crashes now) k.lasts in
      let b = behind replay j.form (ghosts.held keeper) (ghosts.held mid) (outcomes l f history) (ghosts.held now) (ghosts.crashes now)
      ends cut (record { kept = k.holds; stands = stands; only = k.only }) in
      record {
        kept = b.kept;
        stands = b.stands;
        only = b.only;
        faults = subst (λ (n : ℕ). RoseBy (failures_in history) n (ghosts.faults now)) same k.faults;
      }

  rests_as : (replay : Replay) (j : Journal) (keeper mid : K) → j.form ≡ replay.form
      → IsCut replay.kept (ghosts.held keeper) (ghosts.held mid) → ghosts.faults mid ≡ ghosts.faults keeper
      → Bears (stood_in j.form (ghosts.held mid)) j (ghosts.held mid)
      → StandsIn (stood_in j.form (ghosts.held mid)) (ghosts.crashes mid)
      → KeepsJournal replay [] 0 (told_side keeper mid) (ghosts.crashes mid)
  rests_as replay j keeper mid ends cut same bears stands =
      let first = stood_in j.form (ghosts.held mid) in
      let now = ghosts.crashes mid in
      let kept = closed (option_map (λ s. stood_after s []) first) j (ghosts.held mid) (bears_first first j (ghosts.held mid) bears) in
      let lasts = lasts_first first (ghosts.held mid) (ghosts.settled mid) now (ghosts.are_crashes mid) stands in
      let b = behind replay j.form (ghosts.held keeper) (ghosts.held mid) [] (ghosts.held mid) now ends cut
      (record {
        kept = kept;
        stands = stands_now first [] now.moment now lasts;
        only = only_kept first [] now.moment (ghosts.held mid) now kept lasts;
      }) in
      record {
        kept = b.kept;
        stands = b.stands;
        only = b.only;
        faults = subst (λ (n : ℕ). RoseBy 0 n (ghosts.faults mid)) same (omega arith);
      }

  -- nothing was asked of it since
  pub rests : (replay : Replay) (j : Journal) (keeper mid now : K) → j.form ≡ replay.form
      → IsCut replay.kept (ghosts.held keeper) (ghosts.held mid) → ghosts.faults mid ≡ ghosts.faults keeper
      → Bears (stood_in j.form (ghosts.held mid)) j (ghosts.held mid)
      → StandsIn (stood_in j.form (ghosts.held mid)) (ghosts.crashes mid)
      → now ≡ mid → KeepsJournal replay [] 0 (told_side keeper now) (ghosts.crashes now)
  rests replay j keeper mid now ends cut same bears stands e =
      subst (λ (k : K). KeepsJournal replay [] 0 (told_side keeper k) (ghosts.crashes k)) (sym e)
      (rests_as replay j keeper mid ends cut same bears stands)

  -- ## The connection

  -- nobody joined
  not_come : (path : Bool) (moment : ℕ) (o : Opened) (a b : Side) (keeper mid : K) (end : Piped K)
      (h : HasOpened path [] (told_side keeper mid) moment o) → end.how ≡ served.OutOfMemory → a.told_now ≡ a.told
      → b.told_now ≡ b.told → KeepsJournal h.replay [] 0 (told_side keeper end.keeper) (ghosts.crashes end.keeper)
      → HasNotJoined path end.how (record { input = a; output = b; keeper = told_side keeper end.keeper }) (ghosts.crashes end.keeper)
  not_come path moment o a b keeper mid end h lacks unread unwritten kept = record {
    replay = h.replay;
    stood = openable path [] (told_side keeper mid) moment o h;
    how_is = lacks;
    unread = unread;
    unwritten = unwritten;
    kept = kept;
  }

  came : (tells : ℕ → Type 0) (path : Bool) (principal : Principal) (moment : ℕ) (o : Opened) (a b : Side) (keeper mid : K) (end : Piped K)
      → tells moment → (h : HasOpened path [] (told_side keeper mid) moment o)
      → StandsIn (stood_in o.journal.form (ghosts.held mid)) (ghosts.crashes mid)
      → IsEnd ghosts tells principal program_limits (program_opening [] h.replay.configs moment) o.journal a.told a.told_now b.told
      b.told_now mid end
      → HasCome tells path principal end.how (record { input = a; output = b; keeper = told_side keeper end.keeper })
      (ghosts.crashes end.keeper)
  came tells path principal moment o a b keeper mid end at h stands (inl (inl j)) =
      let kept = keeps h.replay program_limits (program_opening [] h.replay.configs moment) o.journal j.history keeper mid end.keeper h.form
      h.cut h.faults j.kept.keeps in
      inl (record {
        replay = h.replay;
        stood = openable path [] (told_side keeper mid) moment o h;
        opened = moment;
        opened_at = at;
        history = j.history;
        piped = j.piped;
        kept = kept;
        again = opens_again path [] (told_side keeper mid) moment o h j.history (failures_in j.history) (told_side keeper end.keeper)
            (ghosts.crashes end.keeper) refl j.piped.legal j.kept.coded kept;
      })
  came tells path principal moment o a b keeper mid end at h stands (inl (inr u)) =
      inr (not_come path moment o a b keeper mid end h u.0.lacks u.0.unread u.0.unwritten
      (subst (λ (outs : List Outcome). KeepsJournal h.replay outs 0 (told_side keeper end.keeper) (ghosts.crashes end.keeper))
      (law_of_outcomes program_limits (program_opening [] h.replay.configs moment)).none
      (keeps h.replay program_limits (program_opening [] h.replay.configs moment) o.journal [] keeper mid end.keeper h.form h.cut h.faults
      u.1.keeps)))
  came tells path principal moment o a b keeper mid end at h stands (inr u) =
      inr (not_come path moment o a b keeper mid end h u.0.lacks u.0.unread u.0.unwritten
      (rests h.replay o.journal keeper mid end.keeper h.form h.cut h.faults h.bears stands u.1))

  pub come : (tells : ℕ → Type 0) (path : Bool) (principal : Principal) (moment : ℕ) (o : Opened) (a b : Side) (keeper mid : K)
      (end : Piped K)
      → tells moment → HasOpened path [] (told_side keeper mid) moment o
      → StandsIn (stood_in o.journal.form (ghosts.held mid)) (ghosts.crashes mid)
      → IsEnd ghosts tells principal o.manager.limits o.manager.flat o.journal a.told a.told_now b.told b.told_now mid end
      → HasCome tells path principal end.how (record { input = a; output = b; keeper = told_side keeper end.keeper })
      (ghosts.crashes end.keeper)
  come tells path principal moment o a b keeper mid end at h stands e =
      came tells path principal moment o a b keeper mid end at h stands
      (subst (λ (l : Limits). IsEnd ghosts tells principal l (program_opening [] h.replay.configs moment) o.journal a.told a.told_now
      b.told b.told_now mid end) h.new.limits
      (subst (λ (f : Flat). IsEnd ghosts tells principal o.manager.limits f o.journal a.told a.told_now b.told b.told_now mid end)
      h.new.flat e))

  -- a keeper that was settled when its book began is settled after it, unless it failed
  pub end_settled : (tells : ℕ → Type 0) (principal : Principal) (l : Limits) (f : Flat) (j : Journal)
      (left left_now held held_now : Option (List ℕ)) (keeper mid : K) (end : Piped K) → ghosts.faults mid ≡ ghosts.faults keeper
      → ghosts.settled mid → IsEnd ghosts tells principal l f j left left_now held held_now mid end
      → SettledSince (ghosts.faults keeper) (ghosts.faults end.keeper) (ghosts.settled end.keeper)
  end_settled tells principal l f j left left_now held held_now keeper mid end same settled (inl (inl joined)) =
      subst (λ (n : ℕ). SettledSince n (ghosts.faults end.keeper) (ghosts.settled end.keeper)) same joined.kept.keeps.settled
  end_settled tells principal l f j left left_now held held_now keeper mid end same settled (inl (inr none)) =
      subst (λ (n : ℕ). SettledSince n (ghosts.faults end.keeper) (ghosts.settled end.keeper)) same none.1.keeps.settled
  end_settled tells principal l f j left left_now held held_now keeper mid end same settled (inr none) =
      inr (subst ghosts.settled (sym none.1) settled)

  -- it wasn't opened anew
  pub end_asked : (tells : ℕ → Type 0) (principal : Principal) (l : Limits) (f : Flat) (j : Journal)
      (left left_now held held_now : Option (List ℕ)) (mid : K) (end : Piped K)
      → IsEnd ghosts tells principal l f j left left_now held held_now mid end → ghosts.asked end.keeper ≡ ghosts.asked mid
  end_asked tells principal l f j left left_now held held_now mid end (inl (inl joined)) = joined.kept.keeps.asked
  end_asked tells principal l f j left left_now held held_now mid end (inl (inr none)) = none.1.keeps.asked
  end_asked tells principal l f j left left_now held held_now mid end (inr none) = ap ghosts.asked none.1

-- ## Completeness

-- room whenever the history begins is room where it began
pub room_always : (path : Bool) (principal : Principal) (moment : ℕ) (o : Opened) (keeper : Side) (left : Option (List ℕ)) (how : Served)
    → HasOpened path [] keeper moment o → FindsRoom (HasRoomForAll principal o.manager.limits o.manager.flat) left how
    → FindsRoom (HasRoomAlways path keeper.told principal) left how
room_always path principal moment o keeper None how h finds = tt
room_always path principal moment o keeper (Some bytes) how h finds =
    λ always. finds
    (subst (λ (l : Limits). HasRoomForAll principal l o.manager.flat bytes) (sym h.new.limits)
    (subst (λ (f : Flat). HasRoomForAll principal program_limits f bytes) (sym h.new.flat)
    (always moment h.replay (openable path [] keeper moment o h))))

status_end : (ending : StreamEnd) → status_of (end_as ending) ≡ pipe_status ending
status_end AtRest = refl
status_end Unfinished = refl
status_end (BadPdu place _) = refl
status_end (TooLong length) = refl

due : (path : Bool) (keeper : Side) (by how : Served) (status : ℕ) → status_of by ≡ status → IsDue by how
    → IsOrFails path keeper status (status_of how)
due path keeper by how status e (inl is) = inl (inl (ap status_of is ∙ e))
due path keeper by how status e (inr is) = inl (inr (ap status_of is))

ends_so : (path : Bool) (keeper : Side) (bytes : List ℕ) (how : Served) → EndsSo bytes how → EndsAs path keeper bytes (status_of how)
ends_so path keeper bytes how h = record {
  whole = λ small. due path keeper (end_as (items bytes).ending) how (pipe_status (items bytes).ending) (status_end (items bytes).ending)
      (h.whole small);
  worn = λ front begins long goes_on. due path keeper served.Worn how 12 refl (h.worn front begins long goes_on);
}

-- 9 is the status of a connection that is full, and of no other
full_at_9 : (how : Served) → status_of how ≡ 9 → how ≡ served.Full
full_at_9 served.Full e = refl
full_at_9 served.Ended e = absurd cc
full_at_9 served.ReadFault e = absurd cc
full_at_9 served.WriteFault e = absurd cc
full_at_9 served.Truncated e = absurd cc
full_at_9 (served.BadPdu place _) e = absurd cc
full_at_9 (served.TooLong length) e = absurd cc
full_at_9 served.OutOfMemory e = absurd cc
full_at_9 served.Worn e = absurd cc

ends_where : (path : Bool) (keeper : Side) (told : Option (List ℕ)) (source source_now sink sink_now : ℕ) (how : Served)
    → EndsAsItsInput told source source_now sink sink_now how
    → IfSome told (λ bytes. (Rose source source_now → ⊥) → (Rose sink sink_now → ⊥) → status_of how ≢ 9
    → EndsAs path keeper bytes (status_of how))
ends_where path keeper None source source_now sink sink_now how h = tt
ends_where path keeper (Some bytes) source source_now sink sink_now how h =
    λ no_read no_write other. ends_so path keeper bytes how (h no_read no_write (λ is. other (ap status_of is)))

room_where : (path : Bool) (principal : Principal) (stood told : Option (List ℕ)) (how : Served)
    → FindsRoom (HasRoomAlways path stood principal) told how
    → IfSome told (λ bytes. HasRoomAlways path stood principal bytes → status_of how ≢ 9)
room_where path principal stood None how finds = tt
room_where path principal stood (Some bytes) how finds = λ always is. finds always (full_at_9 how is)

pub complete_pipe : (path : Bool) (principal : Principal) (s : Sides) (how : Served)
    → EndsAsItsInput s.input.told s.input.faults s.input.faults_now s.output.faults s.output.faults_now how
    → FindsRoom (HasRoomAlways path s.keeper.told principal) s.input.told how → IsComplete path principal s (status_of how)
complete_pipe path principal s how ends finds = record {
  ends = ends_where path s.keeper s.input.told s.input.faults s.input.faults_now s.output.faults s.output.faults_now how ends;
  room = room_where path principal s.keeper.told s.input.told how finds;
}

or_fails : (path : Bool) (keeper : Side) (due status : ℕ) → (status ≡ 8) ⊎ FailsToOpen path keeper status → IsOrFails path keeper due status
or_fails path keeper due status (inl is) = inl (inr is)
or_fails path keeper due status (inr h) = inr h

unopened_where : (path : Bool) (keeper : Side) (told : Option (List ℕ)) (source source_now sink sink_now : ℕ) (status : ℕ)
    → (status ≡ 8) ⊎ FailsToOpen path keeper status
    → IfSome told (λ bytes. (Rose source source_now → ⊥) → (Rose sink sink_now → ⊥) → status ≢ 9 → EndsAs path keeper bytes status)
unopened_where path keeper None source source_now sink sink_now status h = tt
unopened_where path keeper (Some bytes) source source_now sink sink_now status h =
    λ no_read no_write other. record {
      whole = λ small. or_fails path keeper (pipe_status (items bytes).ending) status h;
      worn = λ front begins long goes_on. or_fails path keeper 12 status h;
    }

unopened_room : (path : Bool) (principal : Principal) (stood told : Option (List ℕ)) (fault : JournalFault)
    → IfSome told (λ bytes. HasRoomAlways path stood principal bytes → status_of_fault fault ≢ 9)
unopened_room path principal stood None fault = tt
unopened_room path principal stood (Some bytes) fault = λ always. not_9 fault

-- there is no manager
pub complete_unopened : (path : Bool) (principal : Principal) (s : Sides) (fault : JournalFault) → IsUnopened path s.keeper fault
    → IsComplete path principal s (status_of_fault fault)
complete_unopened path principal s fault h = record {
  ends = unopened_where path s.keeper s.input.told s.input.faults s.input.faults_now s.output.faults s.output.faults_now
      (status_of_fault fault) (fails path s.keeper fault h);
  room = unopened_room path principal s.keeper.told s.input.told fault;
}

pub not_opened : (tells : ℕ → Type 0) (path : Bool) (principal : Principal) (s : Sides) (now : Crashes) (fault : JournalFault)
    → IsUnopened path s.keeper fault
    → IsUntouched s.input → IsUntouched s.output → HasPiped tells path principal s now (status_of_fault fault)
not_opened tells path principal s now fault h input output = inr (record {
  fault = fault;
  status_is = refl;
  unopened = h;
  input = input;
  output = output;
})
