-- Histories whose lines can be read.
use Rattle.std.specs.Prelude.{◌<◌, ◌^◌, All, List}
use Rattle.std.specs.List.{AllByRecursion}
use Rattle.scm_model.specs.Entries.{Entry}
use Rattle.service_record.specs.Spelling.{IsUnit}
use Rattle.scm_lines.specs.Entries.{HasLine}
use Rattle.opening_lines.specs.declared.opening.Opening.{Opening}
use Rattle.opening_lines.specs.Heads.{HasRecord}

-- a moment, texts and configurations that lines can say
pub record IsFitting (o : Opening) : Type 0 where
  pub moment : o.moment < 2 ^ 64
  pub groups : All (All IsUnit) o.groups
  pub configs : All HasRecord o.configs

-- numbers of the bits that they are written with, and texts, records and bodies that can be read
pub record IsReadable (o : Opening) (h : List Entry) : Type 0 where
  pub moment : o.moment < 2 ^ 64
  pub groups : AllByRecursion (λ group. All IsUnit group) o.groups
  pub configs : AllByRecursion HasRecord o.configs
  pub entries : AllByRecursion HasLine h
