-- Items that are held without memory.
use Rattle.std.specs.Prelude.{◌≤◌, List, length}
use Rattle.std.specs.List.{AllByRecursion}
use Rattle.scm_shapes.specs.declared.item.Item.{Item}
use Rattle.scm_shapes.specs.declared.item.Item.TheVariants as item

-- a handle or a number
abbrev pub IsPlain : Item → Type 0
IsPlain item.Handle = Unit {0}
IsPlain item.Number = Unit {0}
IsPlain (item.NumberTo most) = Unit {0}
IsPlain item.SomeNumber = Unit {0}
IsPlain _ = ⊥

-- these alone, and few of them
pub record ArePlain (shape : List Item) : Type 0 where
  pub few : length shape ≤ 8
  pub plain : AllByRecursion IsPlain shape
