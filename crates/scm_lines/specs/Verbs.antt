-- The words that say what a line's step is.
use Rattle.std.specs.Prelude.{ℕ, Bool, true, false, List, Option, None, Some, bytes_eq, codes, if◌then◌else◌}
use Rattle.scm_lines.specs.declared.verb.Verb.{Verb}
use Rattle.scm_lines.specs.declared.verb.Verb.TheVariants as verb

unfoldable pub verb_at : List ℕ → Option Verb
verb_at word =
    if bytes_eq word (codes "join") then Some verb.Join
    else if bytes_eq word (codes "call") then Some verb.Call
    else if bytes_eq word (codes "failcall") then Some verb.FailCall
    else if bytes_eq word (codes "end") then Some verb.End
    else if bytes_eq word (codes "take") then Some verb.Take
    else if bytes_eq word (codes "launched") then Some verb.Launched
    else if bytes_eq word (codes "unlaunched") then Some verb.Unlaunched
    else if bytes_eq word (codes "report") then Some verb.Report
    else if bytes_eq word (codes "ended") then Some verb.Ended
    else if bytes_eq word (codes "control") then Some verb.Control
    else if bytes_eq word (codes "tick") then Some verb.Tick
    else if bytes_eq word (codes "raise") then Some verb.Raise
    else if bytes_eq word (codes "gone") then Some verb.Gone
    else if bytes_eq word (codes "nomem") then Some verb.NoMemory
    else None

-- whether appends of the step's change fail
abbrev pub fails_by : Verb → Bool
fails_by verb.FailCall = true
fails_by other = false
