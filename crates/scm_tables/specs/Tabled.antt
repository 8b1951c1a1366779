-- The manager's lists, and for how many rows more there is room in them.
use Rattle.std.specs.Prelude.{ℕ, ◌≡◌, ◌<◌, ◌≤◌, List, Option, Some, All, AllPairs, length}
use Rattle.dependency_index.specs.declared.keeping.Spare.{Spare as NeedSpare}
use Rattle.dependency_index.specs.Indexed.{as_spare}
use Rattle.record_table.specs.declared.texts.Spare.{Spare as RowSpare}
use Rattle.record_table.specs.Recorded.{spare_of as texts_of}
use Rattle.scm_model.specs.declared.flat.Config.{Config}
use Rattle.scm_model.specs.declared.flat.Flat.{Flat}
use Rattle.scm_model.specs.declared.flat.Limits.{Limits}
use Rattle.scm_model.specs.declared.flat.Service.{Service}

-- the texts and needs of the service that comes or changes, and the texts by which it is found
pub record NeedRoom : Type 0 where
  pub index : Option NeedSpare
  pub rows : Option RowSpare

-- for how many rows more there is memory, and for which service that comes or changes
pub record Spare : Type 0 where
  pub services : ℕ  -- each with a place for what becomes due of it
  pub needs : NeedRoom
  pub handles : ℕ
  pub callers : ℕ
  pub registrations : ℕ
  pub plans : ℕ
  pub dues : ℕ  -- beside a place for each service
  pub tried : ℕ  -- for how many services that the next plan will have tried
  pub starts : ℕ  -- for how many plans without a caller
  pub entries : ℕ  -- for how many services that each of these goes by
  pub commands : ℕ

pub record Tabled : Type 0 where
  pub flat : Flat
  pub limits : Limits
  pub spare : Spare

-- rows stand in order of number, below the next one
pub record AreInOrder {R : Type 0} (number_of : R → ℕ) (next : ℕ) (rows : List R) : Type 0 where
  pub below : All (λ (row : R). number_of row < next) rows
  pub rising : AllPairs (λ (a b : R). number_of a < number_of b) rows

abbrev pub AreByNumber : ℕ → List Service → Type 0
AreByNumber next rows = AreInOrder (λ (row : Service). row.number) next rows

-- a path and a command that can be launched, and a name that registrations can be told
pub record HasShortTexts (config : Config) : Type 0 where
  pub path : length config.path ≤ 2048
  pub command : length config.command ≤ 2048
  pub name : length config.name ≤ 256

-- the room for a service that gets this configuration
abbrev pub need_room : Config → NeedRoom
need_room config = record {
  index = Some (as_spare config.name config.group config.needs);
  rows = Some (texts_of config);
}

abbrev pub HasNeedRoom : Spare → Config → Type 0
HasNeedRoom spare config = spare.needs ≡ need_room config

abbrev pub HasShort : Service → Type 0
HasShort row = HasShortTexts row.config
