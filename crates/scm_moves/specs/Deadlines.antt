-- Starts are decided by their deadlines.
use Rattle.std.specs.Prelude.{ℕ, Bool, ◌≡◌, ◌<◌, ◌≤◌, ◌++◌, false, max, List, ◌∷◌}
use Rattle.std.specs.List.{list_any}
use Rattle.scm_model.specs.declared.flat.Flat.{Flat}
use Rattle.scm_model.specs.declared.flat.Limits.{Limits}
use Rattle.scm_model.specs.declared.steps.Step.TheVariants.{Tick}
use Rattle.scm_model.specs.Entries.{Entry}
use Rattle.start_plan.specs.Settle.{is_undecided}
use Rattle.scm_rules.specs.Histories.{state}
use Rattle.scm_rules.specs.Start.{deadline_at}

-- whether a start waits to be decided
abbrev pub is_waiting : Flat → ℕ → Bool
is_waiting f number = list_any (is_undecided number) f.plans

-- A start that has begun by the time that some entries were made, by a call or by itself, doesn't wait once a tick came 120 seconds after
-- the moment of these entries or later, nor ever again.
abbrev pub LawOfDeadlines : Limits → Flat → List Entry → Type 0
LawOfDeadlines l f es =
    (begun more rest : List Entry) (moment number : ℕ) → es ≡ begun ++ (more ++ (moment, Tick) ∷ rest)
    → number < (state l f begun).next.plan
    → deadline_at (state l f begun).moment ≤ max (state l f (begun ++ more)).moment moment
    → is_waiting (state l f es) number ≡ false
