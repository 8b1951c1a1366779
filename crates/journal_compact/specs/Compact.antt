-- The compact text of configurations, and how it is read.
use Rattle.std.specs.Prelude.{ℕ, List, ◌++◌, All, length}
use Rattle.std.specs.List.{flat_map}
use Rattle.scm_model.specs.declared.flat.Config.{Config}
use Rattle.scm_model.specs.declared.steps.Change.TheVariants.{Created}
use Rattle.scm_model.specs.declared.steps.Form.TheVariants.{Second}
use Rattle.record_journal.specs.Format.{HasEntry, entry_bytes, header}
use Rattle.record_journal.specs.declared.replaying.Replay.{Replay}

-- the entry that creates a service with a configuration
abbrev pub created_entry : Config → List ℕ
created_entry config = entry_bytes (Created config)

-- the header of form 2, and an entry for each configuration, in order
abbrev pub compact_text : List Config → List ℕ
compact_text configs = header ++ flat_map created_entry configs

-- a configuration has an entry that creates a service with it
abbrev pub HasCreated : Config → Type 0
HasCreated config = HasEntry (Created config)

abbrev pub HaveEntries : List Config → Type 0
HaveEntries configs = All HasCreated configs

-- these configurations, and all bytes of their compact text are kept
abbrev pub compact_replay : List Config → Replay
compact_replay configs = record { configs = configs; kept = length (compact_text configs); form = Second }
