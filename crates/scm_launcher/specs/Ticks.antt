-- Ticks, one after another.
use Rattle.std.specs.Prelude.{ℕ, ◌≡◌, ◌⊎◌, ◌++◌, All, Bool, true, false, List, [], ◌∷◌}
use Rattle.scm_model.specs.declared.steps.Step.TheVariants.{Tick}
use Rattle.book_rule.specs.declared.view.Opening.{Opening}
use Rattle.scm_book.specs.declared.fault.MakeFault.TheVariants as makes
use Rattle.scm_book.specs.declared.processes.TickEnd.{TickEnd}
use Rattle.scm_book.specs.declared.processes.TickEnd.TheVariants as ticks
use Rattle.scm_book.specs.Passes.{Known, room_behind}
use Rattle.scm_book.specs.Reporting.{TickEnds}

-- the limits had no room for it
abbrev pub no_room : TickEnd → Bool
no_room (ticks.Unmade makes.Full) = true
no_room end = false

module _ (tells : ℕ → Type 0) (o : Opening) where
  -- a tick at a moment that the clock tells came to this
  pub record IsTicked (k : Known) (end : TickEnd) (k' : Known) : Type 0 where
    pub moment : ℕ
    pub told : tells moment
    pub ends : TickEnds o k moment end k'

  -- ticks that came to these lead from k to k', one after another
  abbrev pub Chain : Known → Known → List TickEnd → Type 0
  Chain k k' [] = k' ≡ k
  Chain k k' (end ∷ more) = (mid : Known) × IsTicked k end mid × Chain mid k' more

  -- one tick and maybe others before it lead from k to k', and the pass did nothing else; after one that found no room it did nothing more
  pub record TicksOn (k k' : Known) : Type 0 where
    pub before : List TickEnd
    pub last : TickEnd
    pub chain : Chain k k' (before ++ last ∷ [])
    pub room : All (λ end. no_room end ≡ false) before

-- why a ticker ended: it was asked to, or the limits have no room for a tick in the last state that it saw
abbrev pub IsTicksEnd : (asked : Type 0) → Opening → Known → Type 0
IsTicksEnd asked o k' = asked ⊎ (room_behind o k'.seen Tick ≡ false)
