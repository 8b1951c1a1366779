-- The lists that are kept of who has a name, of who names whom, and of groups.
use Rattle.std.specs.Prelude.{ℕ, ◌≡◌, ◌≤◌, ◌<◌, Bool, true, false, not, ◌==◌, List, filter, IfSome}
use Rattle.std.specs.List.{list_any, IsDistinct, AllByRecursion}
use Rattle.std.specs.Prelude.{eqb}
use Rattle.scm_text.specs.Fold.{same_text}
use Rattle.scm_text.specs.Numbers.{has}
use Rattle.scm_model.specs.declared.flat.Need.{Need}
use Rattle.number_lists.specs.UnderName.{UnderName, at, room}
use Rattle.row_slab.specs.Rowed.{AreRisingBy}
use Rattle.scm_model.specs.declared.flat.NeedRow.{NeedRow}
use Rattle.dependency_index.specs.declared.keeping.KeptLists.{KeptLists}
use Rattle.dependency_index.specs.declared.keeping.Spare.{Spare}
use Rattle.dependency_index.specs.declared.index.DependencyIndex.TheInside.{Inside}
use Rattle.dependency_index.specs.Naming.{is_for, names}
use Rattle.scm_model.specs.Needs.{numbers_of, with_row}

abbrev pub key_of : NeedRow → ℕ
key_of row = row.number

abbrev pub is_row : ℕ → NeedRow → Bool
is_row number row = row.number == number

-- whether needs name the service of this name
abbrev pub name_it : List ℕ → List Need → Bool
name_it name needs = list_any (is_for name) needs

abbrev pub row_in_group : List ℕ → NeedRow → Bool
row_in_group group row = same_text row.group group

abbrev pub row_has_name : List ℕ → NeedRow → Bool
row_has_name name row = same_text row.name name

-- the services of this name
abbrev pub called_of : List NeedRow → List ℕ → List ℕ
called_of rows name = numbers_of (filter (row_has_name name) rows)

-- the services that name the one of this name
abbrev pub naming_of : List NeedRow → List ℕ → List ℕ
naming_of rows name = numbers_of (filter (names name) rows)

-- the services of a group
abbrev pub members_of : List NeedRow → List ℕ → List ℕ
members_of rows group = numbers_of (filter (row_in_group group) rows)

-- there is room for a number more under each name that the needs have
abbrev pub IsReady : UnderName → List Need → Type 0
IsReady lists needs = (name : List ℕ) → name_it name needs ≡ true → 1 ≤ room lists name

abbrev pub TellsCalled : UnderName → List NeedRow → Type 0
TellsCalled lists rows = (name : List ℕ) → at lists name ≡ called_of rows name

abbrev pub TellsNaming : UnderName → List NeedRow → Type 0
TellsNaming lists rows = (name : List ℕ) → at lists name ≡ naming_of rows name

abbrev pub TellsMembers : UnderName → List NeedRow → Type 0
TellsMembers lists rows = (group : List ℕ) → at lists group ≡ members_of rows group

-- the lists are those of the rows
pub record AreOf (lists : KeptLists) (rows : List NeedRow) : Type 0 where
  pub called : TellsCalled lists.called rows
  pub named : TellsNaming lists.named rows
  pub grouped : TellsMembers lists.grouped rows

-- each text has the same numbers under it
pub record SameNumbers (old new : KeptLists) : Type 0 where
  pub called : (name : List ℕ) → at new.called name ≡ at old.called name
  pub named : (name : List ℕ) → at new.named name ≡ at old.named name
  pub grouped : (group : List ℕ) → at new.grouped group ≡ at old.grouped group

-- no text has less room
pub record KeepsRoom (old new : KeptLists) : Type 0 where
  pub called : (name : List ℕ) → room old.called name ≤ room new.called name
  pub named : (name : List ℕ) → room old.named name ≤ room new.named name
  pub grouped : (group : List ℕ) → room old.grouped group ≤ room new.grouped group

-- there is room for a number under the texts of a row
pub record HasTexts (lists : KeptLists) (row : Spare) : Type 0 where
  pub name : 1 ≤ room lists.called row.name
  pub needs : IsReady lists.named row.needs
  pub group : 1 ≤ room lists.grouped row.group

-- a service that has no row yet comes after all others
abbrev pub IsNext : List NeedRow → ℕ → Type 0
IsNext rows number = has (numbers_of rows) number ≡ false → AllByRecursion (λ (row : NeedRow). row.number < number) rows

-- the row that a service gets
abbrev pub row_from : Spare → ℕ → NeedRow
row_from spare number = record { number = number; name = spare.name; group = spare.group; needs = spare.needs }

abbrev pub without_row : List NeedRow → ℕ → List NeedRow
without_row rows number = filter (λ (row : NeedRow). not (is_row number row)) rows

-- lists of the other services' rows come to be those of all rows
abbrev pub Enters : KeptLists → KeptLists → Spare → ℕ → Type 0
Enters old new spare number =
    (rows : List NeedRow) → AreRisingBy key_of rows → IsNext rows number → AreOf old (without_row rows number)
    → AreOf new (with_row rows (row_from spare number))

-- there is room for a row
pub record HasRoom (index : Inside) (row : Spare) : Type 0 where
  pub rows : 1 ≤ index.rows.room
  pub texts : HasTexts index.lists row

-- rows stand in order of number, and the lists are theirs; there is room for the rows that it was made for
pub record IsKept (index : Inside) : Type 0 where
  pub once : IsDistinct eqb (numbers_of index.rows.items)
  pub rising : AreRisingBy key_of index.rows.items
  pub lists : AreOf index.lists index.rows.items
  pub room : IfSome index.spare (HasRoom index)
  pub next : IfSome index.next (HasRoom index)
