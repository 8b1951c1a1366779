-- A server over a book of its own: its whole history, what it kept, and what became of its connections.
use Rattle.std.specs.Prelude.{ℕ, ◌≡◌, ◌⊎◌, Bool, true, false, List, length, Option}
use mathlib.Core.List.{IsPrefix}
use Rattle.scm_model.specs.Entries.{Entry}
use Rattle.scm_model.specs.declared.flat.Flat.{Flat}
use Rattle.scm_model.specs.declared.flat.Limits.{Limits}
use Rattle.scm_rules.specs.Histories.{Legal, state}
use Rattle.record_journal.specs.declared.journal.Journal.{Journal}
use Rattle.book_rule.specs.declared.view.Opening.{Opening}
use Rattle.scm_book.specs.Ghosts.{Ghosts}
use Rattle.scm_book.specs.Holds.{begun_with}
use Rattle.scm_pipe.specs.Piping.{IsKept}
use Rattle.scm_server.specs.All.{EndsAll, ServedIn}
use Rattle.scm_server.specs.declared.ending.ServeEnd.{ServeEnd}
use Rattle.scm_server.specs.declared.ending.ServeEnd.TheVariants as ends
use Rattle.scm_server.specs.Ports.{Told}
use Rattle.scm_serving.specs.declared.serving.BookEnd.{BookEnd}
use Rattle.scm_serving.specs.declared.serving.BookEnd.TheVariants.{Ended, ListenFault, OutOfMemory}
use Rattle.scm_serving.specs.declared.serving.BookServed.{BookServed}
use Rattle.scm_summary.specs.Summary.{summary}

-- what a whole history came to
abbrev pub summary_of : Opening → List Entry → List ℕ
summary_of o history = summary history (length (state o.limits o.first history).services)

abbrev pub lacked_memory : BookEnd → Bool
lacked_memory OutOfMemory = true
lacked_memory end = false

-- how serving ended; at its end the whole history is returned, and its summary
abbrev pub EndsAs : Opening → List Entry → (a a' u u' : Told) → BookEnd → Type 0
EndsAs o history a a' u u' (Ended text trail) =
    (text ≡ summary_of o history) × (trail.entries ≡ history) × (trail.past ≡ 0) × EndsAll ends.Ended a a' u u'
EndsAs o history a a' u u' ListenFault = EndsAll ends.ListenFault a a' u u'
EndsAs o history a a' u u' OutOfMemory = EndsAll ends.OutOfMemory a a' u u'

-- what is returned for how serving ended, over a history that left so many services
abbrev pub IsTold : List Entry → (services : ℕ) → ServeEnd → BookEnd → Type 0
IsTold history services ends.Ended (Ended text trail) = (text ≡ summary history services) × (trail.entries ≡ history) × (trail.past ≡ 0)
IsTold history services ends.ListenFault end = end ≡ ListenFault
IsTold history services fault end = end ≡ OutOfMemory

module _ {K : Type 0} (ghosts : Ghosts K) where
  -- a book was closed after what was seen: its history is legal, and the keeper has its kept changes
  pub record HasClosed (o : Opening) (seen : List Entry) (how : ServeEnd) (end : BookEnd) (keeper : K) : Type 0 where
    pub history : List Entry
    pub longer : IsPrefix seen history
    pub legal : Legal o.limits o.first history
    pub kept : IsKept ghosts o history keeper
    pub told_is : IsTold history (length (state o.limits o.first history).services) how end

  -- a book was made and closed: its history is legal, the keeper has its kept changes, and the connections of both listeners stand in it
  pub record IsServed (tells : ℕ → Type 0) (o : Opening) (a a' u u' : Told) (keeper : K) (end : BookEnd) : Type 0 where
    pub history : List Entry
    pub legal : Legal o.limits o.first history
    pub kept : IsKept ghosts o history keeper
    pub served : ServedIn tells o history a a' u u' (lacked_memory end)
    pub ends : EndsAs o history a a' u u' end

  -- there was no memory for a book, and nothing was asked of what was handed in
  pub record IsUnserved (a a' u u' : Told) (keeper now : K) (end : BookEnd) : Type 0 where
    pub lacks : end ≡ OutOfMemory
    pub admin : a' ≡ a
    pub user : u' ≡ u
    pub same : now ≡ keeper

  abbrev pub ServesBook : (tells : ℕ → Type 0) → Limits → Flat → Journal → (a a' u u' : Told) → (keeper now : K) → BookEnd → Type 0
  ServesBook tells l f j a a' u u' keeper now end = IsServed tells (begun_with ghosts l f j keeper) a a' u u' now end
      ⊎ IsUnserved a a' u u' keeper now end
