-- A book that is closed behind its server.
use Rattle.std.proofs.Common.{ℕ, ◌≡◌, ◌∙◌, Bool, true, false, List, length, Option, refl, sym, ap, subst, inl, inr}
use Rattle.std.proofs.lemmas.Bool.{false≢true}
use mathlib.Core.List.{IsPrefix}
use Rattle.scm_model.specs.Entries.{Entry}
use Rattle.scm_rules.specs.Histories.{Legal, state}
use Rattle.scm_rules.specs.Opening.{IsOpening}
use Rattle.book_rule.specs.declared.view.Opening.{Opening}
use Rattle.scm_book.specs.Calls.{Closes, Goes}
use Rattle.scm_book.specs.Ghosts.{Ghosts}
use Rattle.scm_book.proofs.Closing.{closed_whole}
use Rattle.scm_book.specs.Passes.{Known}
use Rattle.scm_book.specs.declared.book.Closed.{Closed}
use Rattle.scm_server.specs.All.{EndsAll, ServedIn}
use Rattle.scm_server.specs.Ports.{Told, was_short}
use Rattle.scm_server.specs.declared.ending.ServeEnd.{ServeEnd}
use Rattle.scm_server.specs.declared.ending.ServeEnd.TheVariants as ends
use Rattle.scm_server.proofs.Still.{served_still}
use Rattle.scm_serving.specs.declared.serving.BookEnd.{BookEnd}
use Rattle.scm_serving.specs.declared.serving.BookEnd.TheVariants.{Ended, ListenFault, OutOfMemory}
use Rattle.scm_serving.specs.Serving.{EndsAs, HasClosed, IsServed, IsTold, lacked_memory}

-- ## How it is told

short_where : (history : List Entry) (services : ℕ) (how : ServeEnd) (end : BookEnd) → IsTold history services how end
    → lacked_memory end ≡ false → was_short how ≡ false
short_where history services ends.Ended end t enough = refl
short_where history services ends.ListenFault end t enough = refl
short_where history services ends.OutOfMemory end t enough = absurd (false≢true (sym enough ∙ ap lacked_memory t))

ends_as : (o : Opening) (history : List Entry) (a a' u u' : Told) (how : ServeEnd) (end : BookEnd)
    → IsTold history (length (state o.limits o.first history).services) how end
    → EndsAll how a a' u u' → EndsAs o history a a' u u' end
ends_as o history a a' u u' ends.Ended (Ended text trail) t e = (t.0, t.1, t.2, e)
ends_as o history a a' u u' ends.Ended ListenFault t e = absurd cc
ends_as o history a a' u u' ends.Ended OutOfMemory t e = (inl e.0, inl e.1)
ends_as o history a a' u u' ends.ListenFault end t e = subst (EndsAs o history a a' u u') (sym t) e
ends_as o history a a' u u' ends.OutOfMemory end t e = subst (EndsAs o history a a' u u') (sym t) e

-- where less is known of memory, less is said
said_where : (tells : ℕ → Type 0) (o : Opening) (log : List Entry) (a a' u u' : Told) (is_short now : Bool)
    → (now ≡ false → is_short ≡ false)
    → ServedIn tells o log a a' u u' is_short → ServedIn tells o log a a' u u' now
said_where tells o log a a' u u' is_short now so s = record {
  admins = s.admins;
  users = s.users;
  admin = s.admin;
  user = s.user;
  handled_admin = λ e. s.handled_admin (so e);
  handled_user = λ e. s.handled_user (so e);
  apart = λ e. s.apart (so e);
}

-- ## The book

module _ {K : Type 0} (ghosts : Ghosts K) where
  -- nothing of its history was let go
  pub closed_past : (o : Opening) (last : Known) (c : Closed K) → o.records ≡ false → Closes ghosts o last c → c.trail.past ≡ 0
  closed_past o last c off cl = (closed_whole ghosts o last c off cl).past

  pub closed_so : (o : Opening) (last : Known) (c : Closed K) (how : ServeEnd) (end : BookEnd) → o.records ≡ false
      → Closes ghosts o last c → IsTold c.trail.entries c.services how end
      → HasClosed ghosts o last.seen how end c.keeper
  closed_so o last c how end off cl t =
      let whole = closed_whole ghosts o last c off cl in record {
        history = c.trail.entries;
        longer = whole.longer;
        legal = whole.legal;
        kept = record { coded = whole.coded; keeps = whole.keeps };
        told_is = subst (λ (n : ℕ). IsTold c.trail.entries n how end) whole.services t;
      }

  served_so : (tells : ℕ → Type 0) (o : Opening) (by last : Known) (moment : ℕ) (a a' u u' : Told) (how : ServeEnd) (end : BookEnd)
      (keeper : K) → IsOpening o.limits o.first
      → by.caller ≡ 0 → Goes o by moment last → ServedIn tells o by.seen a a' u u' (was_short how) → EndsAll how a a' u u'
      → HasClosed ghosts o last.seen how end keeper
      → IsServed ghosts tells o a a' u u' keeper end
  served_so tells o by last moment a a' u u' how end keeper begins nobody goes served over c =
      let longer : IsPrefix by.seen c.history = subst (λ (es : List Entry). IsPrefix es c.history)
      (ap (λ (k : Known). k.seen) (goes.nobody nobody)) c.longer in record {
        history = c.history;
        legal = c.legal;
        kept = c.kept;
        served = said_where tells o c.history a a' u u' (was_short how) (lacked_memory end) (short_where c.history _ how end c.told_is)
            (served_still tells o by.seen c.history a a' u u' (was_short how) begins longer c.legal served);
        ends = ends_as o c.history a a' u u' how end c.told_is over;
      }

  -- the same of a book that began so
  pub served_from : (tells : ℕ → Type 0) (o begun : Opening) → o ≡ begun → (by last : Known) (moment : ℕ) (a a' u u' : Told)
      (how : ServeEnd) (end : BookEnd) (keeper : K) → IsOpening begun.limits begun.first
      → by.caller ≡ 0 → Goes o by moment last → ServedIn tells o by.seen a a' u u' (was_short how) → EndsAll how a a' u u'
      → HasClosed ghosts o last.seen how end keeper
      → IsServed ghosts tells begun a a' u u' keeper end
  served_from tells o begun is by last moment a a' u u' how end keeper begins nobody goes served over c =
      subst (λ (x : Opening). IsServed ghosts tells x a a' u u' keeper end) is
      (served_so tells o by last moment a a' u u' how end keeper
      (subst (λ (x : Opening). IsOpening x.limits x.first) (sym is) begins) nobody goes served over c)
