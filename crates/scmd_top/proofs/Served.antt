-- A server over a book of its own, behind the opening of its journal.
use Rattle.std.proofs.Common.{ℕ, ◌≡◌, ◌++◌, Bool, true, false, List, Option, refl, sym, ap, subst, inl, inr, ◌⊎◌, ⊎_elim}
use Rattle.outside.specs.Causes.{Rose}
use Rattle.scm_model.specs.Entries.{Entry}
use Rattle.scm_model.specs.declared.flat.Config.{Config}
use Rattle.scm_model.specs.declared.flat.Flat.{Flat}
use Rattle.scm_model.specs.declared.flat.Limits.{Limits}
use Rattle.record_journal.specs.Bearing.{StandsIn, stood_in}
use Rattle.record_journal.specs.Crashes.{Crashes}
use Rattle.record_journal.specs.Keepers.{SettledSince}
use Rattle.record_journal.specs.declared.journal.Journal.{Journal}
use Rattle.record_journal.specs.declared.opening.JournalFault.{JournalFault}
use Rattle.scm_book.specs.Ghosts.{Ghosts}
use Rattle.scm_book.specs.Holds.{begun_with, failures_in}
use Rattle.scm_listener.specs.declared.listener.Listening.{Listening}
use Rattle.opening_lines.specs.declared.opening.Opening.{Opening as Beginning}
use Rattle.scm_rules.specs.Histories.{Legal}
use Rattle.scm_rules.specs.Opening.{CanOpen}
use Rattle.scm_restored.specs.declared.Opened.{Opened}
use Rattle.scm_server.specs.Ports.{Told}
use Rattle.scm_serving.specs.Listening.{HandsNothing, listening_at}
use Rattle.scm_serving.specs.Serving.{ServesBook}
use Rattle.scm_serving.specs.declared.serving.BookEnd.{BookEnd}
use Rattle.scm_serving.specs.declared.serving.BookEnd.TheVariants.{Ended, ListenFault, OutOfMemory}
use Rattle.scmd_top.specs.Opening.{FailsToOpen, HasNotOpened, HasOpened, IsUnopened, beginning_if, program_opening, status_of_fault}
use Rattle.scmd_top.specs.Serving.{CanEnd, HasServed, HasServedOver, HasSummary, IsPut, IsServingComplete, exported}
use Rattle.scmd_top.specs.Sides.{IsUntouched, Ports, Side, Sides, side}
use Rattle.scmd_top.specs.Statuses.{program_limits}
use Rattle.scmd_top.proofs.Again.{opens_again}
use Rattle.scmd_top.proofs.Connected.{keeps, rests}
use Rattle.scmd_top.proofs.Openings.{auditable_limits, fails, openable}

-- ## The book

module _ {K : Type 0} (ghosts : Ghosts K) where
  served : (tells : ℕ → Type 0) (path : Bool) (groups : List (List ℕ)) (export : Bool) (moment : ℕ) (o : Opened) (keeper mid now : K)
      (a a' u u' : Told) (begun : Option Beginning) (end : BookEnd) → tells moment
      → (h : HasOpened path groups (side ghosts.held ghosts.faults keeper mid) moment o)
      → begun ≡ beginning_if export groups h.replay.configs moment
      → StandsIn (stood_in o.journal.form (ghosts.held mid)) (ghosts.crashes mid)
      → ServesBook ghosts tells program_limits (program_opening groups h.replay.configs moment) o.journal a a' u u' mid now
      end
      → HasServedOver tells path groups export (side ghosts.held ghosts.faults keeper now) (ghosts.crashes now) a a' u u' begun end
  served tells path groups export moment o keeper mid now a a' u u' begun end at h is stands (inl s) = inl (record {
    replay = h.replay;
    stood = openable path groups (side ghosts.held ghosts.faults keeper mid) moment o h;
    opened = moment;
    opened_at = at;
    opening = begun_with ghosts program_limits (program_opening groups h.replay.configs moment) o.journal mid;
    opens = record { limits = refl; first = refl };
    begins = is;
    history = s.history;
    legal = s.legal;
    kept = keeps ghosts h.replay program_limits (program_opening groups h.replay.configs moment) o.journal s.history keeper mid now
        h.form h.cut h.faults s.kept.keeps;
    again = opens_again path groups (side ghosts.held ghosts.faults keeper mid) moment o h s.history (failures_in s.history)
        (side ghosts.held ghosts.faults keeper now) (ghosts.crashes now) refl s.legal s.kept.coded
        (keeps ghosts h.replay program_limits (program_opening groups h.replay.configs moment) o.journal s.history keeper mid now
        h.form h.cut h.faults s.kept.keeps);
    served = s.served;
    ends = s.ends;
  })
  served tells path groups export moment o keeper mid now a a' u u' begun end at h is stands (inr s) = inr (record {
    replay = h.replay;
    stood = openable path groups (side ghosts.held ghosts.faults keeper mid) moment o h;
    lacks = s.lacks;
    admin = s.admin;
    user = s.user;
    kept = rests ghosts h.replay o.journal keeper mid now h.form h.cut h.faults h.bears stands s.same;
  })

  served_over : (tells : ℕ → Type 0) (path : Bool) (groups : List (List ℕ)) (export : Bool) (moment : ℕ) (o : Opened)
      (keeper mid now : K) (a a' u u' : Told) (begun : Option Beginning) (end : BookEnd) → tells moment
      → (h : HasOpened path groups (side ghosts.held ghosts.faults keeper mid) moment o)
      → begun ≡ beginning_if export groups h.replay.configs moment
      → StandsIn (stood_in o.journal.form (ghosts.held mid)) (ghosts.crashes mid)
      → ServesBook ghosts tells o.manager.limits o.manager.flat o.journal a a' u u' mid now end
      → HasServedOver tells path groups export (side ghosts.held ghosts.faults keeper now) (ghosts.crashes now) a a' u u' begun end
  served_over tells path groups export moment o keeper mid now a a' u u' begun end at h is stands s =
      served tells path groups export moment o keeper mid now a a' u u' begun end at h is stands
      (subst (λ (l : Limits). ServesBook ghosts tells l
      (program_opening groups h.replay.configs moment) o.journal a a' u u' mid now
      end) h.new.limits
      (subst (λ (f : Flat). ServesBook ghosts tells o.manager.limits f o.journal a a' u u' mid now end) h.new.flat s))

  -- both listened, and were served
  pub has_listened : (tells : ℕ → Type 0) (path : Bool) (groups : List (List ℕ)) (export : Bool) (admin user : Listening)
      (input output : Side) (p : Ports) (status moment : ℕ) (o : Opened) (keeper mid now : K) (a u : Told) (begun : Option Beginning)
      (end : BookEnd) → tells moment → (h : HasOpened path groups (side ghosts.held ghosts.faults keeper mid) moment o)
      → begun ≡ beginning_if export groups h.replay.configs moment
      → StandsIn (stood_in o.journal.form (ghosts.held mid)) (ghosts.crashes mid)
      → a ≡ listening_at p.admin admin → u ≡ listening_at p.user user
      → ServesBook ghosts tells o.manager.limits o.manager.flat o.journal a p.admin_now u p.user_now mid now end
      → HasSummary begun end output status
      → HasServed tells path groups export admin user
      (record { input = input; output = output; keeper = side ghosts.held ghosts.faults keeper now }) (ghosts.crashes now) p status
  has_listened tells path groups export admin user input output p status moment o keeper mid now a u begun end at h is stands at_admin
      at_user s wrote =
      inl (record {
        begun = begun;
        end = end;
        served = served_over tells path groups export moment o keeper mid now (listening_at p.admin admin) p.admin_now
            (listening_at p.user user) p.user_now begun end at h is stands
            (subst (λ (l : Told). ServesBook ghosts tells o.manager.limits o.manager.flat o.journal l p.admin_now
            (listening_at p.user user) p.user_now mid now end) at_admin
            (subst (λ (l : Told). ServesBook ghosts tells o.manager.limits o.manager.flat o.journal a p.admin_now l
            p.user_now mid now
            end) at_user s));
        written = wrote;
      })

  -- one failed to listen
  pub has_not_listened : (tells : ℕ → Type 0) (path : Bool) (groups : List (List ℕ)) (export : Bool) (admin user : Listening)
      (input output : Side) (p : Ports) (moment : ℕ) (o : Opened) (keeper mid : K)
      → HasOpened path groups (side ghosts.held ghosts.faults keeper mid) moment o
      → StandsIn (stood_in o.journal.form (ghosts.held mid)) (ghosts.crashes mid) → IsUntouched output
      → HandsNothing p.admin p.admin_now → HandsNothing p.user p.user_now → Rose p.admin.faults p.admin_now.faults
      ⊎ Rose p.user.faults p.user_now.faults
      → HasServed tells path groups export admin user
      (record { input = input; output = output; keeper = side ghosts.held ghosts.faults keeper mid }) (ghosts.crashes mid) p 10
  has_not_listened tells path groups export admin user input output p moment o keeper mid h stands untouched a u cause = inr (inl (record {
    status_is = refl;
    admin = a;
    user = u;
    replay = h.replay;
    stood = openable path groups (side ghosts.held ghosts.faults keeper mid) moment o h;
    cause = cause;
    kept = rests ghosts h.replay o.journal keeper mid mid h.form h.cut h.faults h.bears stands refl;
    output = untouched;
  }))

  -- a keeper that was settled when its book began is settled after it, unless it failed
  pub served_settled : (tells : ℕ → Type 0) (l : Limits) (f : Flat) (j : Journal) (a a' u u' : Told) (keeper mid now : K) (end : BookEnd)
      → ghosts.faults mid ≡ ghosts.faults keeper → ghosts.settled mid → ServesBook ghosts tells l f j a a' u u' mid now end
      → SettledSince (ghosts.faults keeper) (ghosts.faults now) (ghosts.settled now)
  served_settled tells l f j a a' u u' keeper mid now end same settled (inl s) =
      subst (λ (n : ℕ). SettledSince n (ghosts.faults now) (ghosts.settled now)) same s.kept.keeps.settled
  served_settled tells l f j a a' u u' keeper mid now end same settled (inr s) = inr (subst ghosts.settled (sym s.same) settled)

  -- it wasn't opened anew
  pub served_asked : (tells : ℕ → Type 0) (l : Limits) (f : Flat) (j : Journal) (a a' u u' : Told) (mid now : K) (end : BookEnd)
      → ServesBook ghosts tells l f j a a' u u' mid now end → ghosts.asked now ≡ ghosts.asked mid
  served_asked tells l f j a a' u u' mid now end (inl s) = s.kept.keeps.asked
  served_asked tells l f j a a' u u' mid now end (inr s) = ap ghosts.asked s.same

-- ## What can be exported

module _ {K : Type 0} (ghosts : Ghosts K) where
  legal_from : (tells : ℕ → Type 0) (groups : List (List ℕ)) (configs : List Config) (moment : ℕ) (export : Bool) (j : Journal)
      (a a' u u' : Told) (mid now : K) (end : BookEnd) → CanOpen program_limits configs
      → ServesBook ghosts tells program_limits (program_opening groups configs moment) j a a' u u' mid now end
      → CanEnd (beginning_if export groups configs moment) end
  legal_from tells groups configs moment true j a a' u u' mid now (Ended text trail) can (inl s) = record {
    small = auditable_limits;
    can = can;
    whole = s.ends.2;
    legal = subst (λ (h : List Entry). Legal program_limits (program_opening groups configs moment) h) (sym s.ends.1) s.legal;
  }
  legal_from tells groups configs moment true j a a' u u' mid now (Ended text trail) can (inr s) = absurd cc
  legal_from tells groups configs moment false j a a' u u' mid now (Ended text trail) can s = tt
  legal_from tells groups configs moment export j a a' u u' mid now ListenFault can s = tt
  legal_from tells groups configs moment export j a a' u u' mid now OutOfMemory can s = tt

  -- the history of a server can be told from what its manager began with
  pub can_end : (tells : ℕ → Type 0) (path : Bool) (groups : List (List ℕ)) (keeper : Side) (export : Bool) (moment : ℕ) (o : Opened)
      (a a' u u' : Told) (mid now : K) (begun : Option Beginning) (end : BookEnd)
      → (h : HasOpened path groups keeper moment o) → begun ≡ beginning_if export groups h.replay.configs moment
      → ServesBook ghosts tells o.manager.limits o.manager.flat o.journal a a' u u' mid now end → CanEnd begun end
  can_end tells path groups keeper export moment o a a' u u' mid now begun end h is s =
      subst (λ (b : Option Beginning). CanEnd b end) (sym is)
      (legal_from tells groups h.replay.configs moment export o.journal a a' u u' mid now end
      (openable path groups keeper moment o h).can
      (subst (λ (l : Limits). ServesBook ghosts tells l (program_opening groups h.replay.configs moment) o.journal a a' u u'
      mid now end) h.new.limits
      (subst (λ (f : Flat). ServesBook ghosts tells o.manager.limits f o.journal a a' u u' mid now end) h.new.flat s)))

-- there is no manager
pub not_opened : (tells : ℕ → Type 0) (path : Bool) (groups : List (List ℕ)) (export : Bool) (admin user : Listening) (s : Sides)
    (now : Crashes) (p : Ports) (fault : JournalFault) → IsUnopened path s.keeper fault
    → IsUntouched s.input → IsUntouched s.output → p.admin_now ≡ p.admin → p.user_now ≡ p.user
    → HasServed tells path groups export admin user s now p (status_of_fault fault)
not_opened tells path groups export admin user s now p fault h input output a u =
    inr (inr (record { fault = fault; status_is = refl; unopened = h; input = input; output = output }, a, u))

-- ## Completeness

put_complete : (path : Bool) (s : Sides) (p : Ports) (status : ℕ) (text : List ℕ) (begun : Option Beginning)
    → IsPut text begun s.output status → IsServingComplete path s p status
put_complete path s p status text begun (inl w) = λ output a u. inl (inl w.0)
put_complete path s p status text begun (inr (inl w)) = λ output a u. absurd (output w.2)
put_complete path s p status text begun (inr (inr w)) = λ output a u. inl (inr w.0)

written_complete : (tells : ℕ → Type 0) (path : Bool) (groups : List (List ℕ)) (export : Bool) (admin user : Listening) (s : Sides)
    (now : Crashes) (p : Ports) (status : ℕ) (begun : Option Beginning) (end : BookEnd)
    → HasServedOver tells path groups export s.keeper now (listening_at p.admin admin) p.admin_now (listening_at p.user user)
    p.user_now begun end
    → HasSummary begun end s.output status → IsServingComplete path s p status
written_complete tells path groups export admin user s now p status begun (Ended text trail) over w =
    put_complete path s p status (exported begun trail.entries ++ text) begun w.0
written_complete tells path groups export admin user s now p status begun OutOfMemory over w = λ output a u. inl (inr w.0)
written_complete tells path groups export admin user s now p status begun ListenFault (inl h) w =
    λ output a u. ⊎_elim (λ r. absurd (a r)) (λ r. absurd (u r)) h.ends.1
written_complete tells path groups export admin user s now p status begun ListenFault (inr h) w = absurd cc

unopened_complete : (path : Bool) (s : Sides) (p : Ports) (status : ℕ) → (status ≡ 8) ⊎ FailsToOpen path s.keeper status
    → IsServingComplete path s p status
unopened_complete path s p status (inl is) = λ output a u. inl (inr is)
unopened_complete path s p status (inr h) = λ output a u. inr h

not_opened_complete : (path : Bool) (s : Sides) (p : Ports) (status : ℕ) → HasNotOpened path s status → IsServingComplete path s p status
not_opened_complete path s p status h =
    unopened_complete path s p status
    (subst (λ (n : ℕ). (n ≡ 8) ⊎ FailsToOpen path s.keeper n) (sym h.status_is) (fails path s.keeper h.fault h.unopened))

pub complete : (tells : ℕ → Type 0) (path : Bool) (groups : List (List ℕ)) (export : Bool) (admin user : Listening) (s : Sides)
    (now : Crashes) (p : Ports) (status : ℕ) → HasServed tells path groups export admin user s now p status → IsServingComplete path s p status
complete tells path groups export admin user s now p status (inl h) =
    written_complete tells path groups export admin user s now p status h.begun h.end h.served h.written
complete tells path groups export admin user s now p status (inr (inl h)) = λ output a u. ⊎_elim (λ r. absurd (a r))
    (λ r. absurd (u r)) h.cause
complete tells path groups export admin user s now p status (inr (inr h)) = not_opened_complete path s p status h.0
