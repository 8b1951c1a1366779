-- The outcome of serving two listeners.
use Rattle.std.specs.Prelude.{ℕ, ◌≡◌, ◌⊎◌, ◌++◌, Bool, false, List}
use Rattle.scm_model.specs.declared.flat.Principal.TheVariants.{Admin, User}
use mathlib.Core.List.{IsPrefix}
use Rattle.scm_model.specs.Entries.{Entry}
use Rattle.scm_rules.specs.Histories.{Legal}
use Rattle.scm_book.specs.Joins.{TakesIn}
use Rattle.scm_book.specs.Passes.{Known}
use Rattle.book_rule.specs.declared.view.Opening.{Opening}
use Rattle.scm_server.specs.declared.ending.ServeEnd.{ServeEnd}
use Rattle.scm_server.specs.declared.ending.ServeEnd.TheVariants.{Ended, ListenFault, OutOfMemory}
use Rattle.scm_server.specs.Handling.{Handed, IsHandled}
use Rattle.scm_server.specs.Pairs.{Each, Pairwise}
use Rattle.scm_server.specs.Ports.{Apart, Hands, HasFailed, IsClosed, IsOver, Told}

-- a pass by which others were made has seen more
pub record GoesFor (o : Opening) (by by' : Known) : Type 0 where
  pub same : by' ≡ record by { seen = by'.seen; alone = false }
  pub longer : IsPrefix by.seen by'.seen
  pub legal : Legal o.limits o.first by.seen → Legal o.limits o.first by'.seen

-- Each connection that either listener handed out is noted once. Unless memory ran out, it is one of the two cases in this history, an
-- administrator's or a user's, and no caller stands for two of them, of one listener or of both.
pub record ServedIn (tells : ℕ → Type 0) (o : Opening) (log : List Entry) (a a' u u' : Told) (is_short : Bool) : Type 0 where
  pub admins : List Handed
  pub users : List Handed
  pub admin : Hands a a' admins
  pub user : Hands u u' users
  pub handled_admin : is_short ≡ false → Each (IsHandled tells o log Admin) admins
  pub handled_user : is_short ≡ false → Each (IsHandled tells o log User) users
  pub apart : is_short ≡ false → Pairwise Apart (admins ++ users)

-- so it is in each legal history that goes on from what was seen
abbrev pub ServedFrom : (tells : ℕ → Type 0) → Opening → (seen : List Entry) → (a a' u u' : Told) → (is_short : Bool) → Type 0
ServedFrom tells o seen a a' u u' is_short = (log : List Entry) → IsPrefix seen log → Legal o.limits o.first log
    → ServedIn tells o log a a' u u' is_short

-- how serving ended, of how it ended with each
abbrev pub of_both : (admin user : ServeEnd) → ServeEnd
of_both OutOfMemory user = OutOfMemory
of_both ListenFault OutOfMemory = OutOfMemory
of_both ListenFault user = ListenFault
of_both Ended user = user

-- why it ended; a listener that failed didn't end the other
abbrev pub EndsAll : ServeEnd → (a a' u u' : Told) → Type 0
EndsAll Ended a a' u u' = IsClosed a a' × IsClosed u u'
EndsAll ListenFault a a' u u' = (IsOver a a' × IsOver u u') × (HasFailed a a' ⊎ HasFailed u u')
EndsAll OutOfMemory a a' u u' = IsOver a a' × IsOver u u'

-- a pass took three in, one after another
pub record TakesAll (by a b c by' : Known) : Type 0 where
  pub one : Known
  pub two : Known
  pub first : TakesIn by a one
  pub second : TakesIn one b two
  pub third : TakesIn two c by'
