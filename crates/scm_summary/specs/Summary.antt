-- What a history amounts to: its steps, the calls of each caller, and the services that are there after it.
use Rattle.std.specs.Prelude.{ℕ, List, ◌++◌, length, codes}
use Rattle.scm_model.specs.Entries.{Entry}
use Rattle.scm_summary.specs.Calls.{calls_from, joined_in}
use Rattle.scm_summary.specs.Lines.{callers_from, numbered}

-- Callers have the numbers from 1 on, in the order in which they joined.
abbrev pub summary : List Entry → (services : ℕ) → List ℕ
summary h services =
    numbered (codes "steps ") (length h)
    ++ (callers_from 1 (calls_from h 1 (joined_in h))
    ++ numbered (codes "services ") services)
