-- What the kept changes of a history come to.
use Rattle.std.specs.Prelude.{◌≡◌, not, List, filter, map}
use Rattle.scm_model.specs.declared.flat.Config.{Config}
use Rattle.scm_model.specs.declared.flat.Flat.{Flat}
use Rattle.scm_model.specs.declared.flat.Limits.{Limits}
use Rattle.scm_model.specs.declared.flat.Service.{Service}
use Rattle.scm_model.specs.Entries.{Entry}
pub use Rattle.record_journal.specs.Replay.{after_change, replaced_by, replayed}
use Rattle.scm_rules.specs.Histories.{state}
use Rattle.scm_history.specs.Kept.{kept_changes}

abbrev pub unmarked : List Service → List Config
unmarked rows =
    map (λ (row : Service). row.config) (filter (λ (row : Service). not row.marked) rows)

-- the services that aren't marked are configured as a replay of the kept changes says, in order
abbrev pub UnmarkedAreKept : Limits → Flat → List Entry → Type 0
UnmarkedAreKept l f es =
    unmarked (state l f es).services ≡ replayed (unmarked f.services) (kept_changes l f es)
