-- The numbers that are kept under each text, and what is always true of a table's fields.
use Rattle.std.specs.Prelude.{ℕ, ◌≡◌, ◌+◌, ◌≤◌, ◌==◌, ◌&&◌, not, Bool, List, [], ◌∷◌, IfSome, if◌then◌else◌}
use Rattle.scm_text.specs.Fold.{same_text}
use Rattle.number_lists.specs.Rising.{with_number, without_number}
use Rattle.number_lists.specs.UnderName.{UnderName, Changes, at, room}
use Rattle.number_pairs.specs.declared.pairs.Pair.{Pair}
use Rattle.number_pairs.specs.Keyed.{numbers_under}
use Rattle.scm_model.specs.Processes.{currents_in}
use Rattle.scm_model.specs.declared.flat.Service.{Service}
use Rattle.record_table.specs.declared.texts.KeptTexts.{KeptTexts}
use Rattle.record_table.specs.declared.texts.Spare.{Spare}
use Rattle.record_table.specs.declared.table.RecordTable.TheInside.{Inside}
use Rattle.row_slab.specs.Rowed.{AreRisingBy}
use Rattle.record_table.specs.Recorded.{Recorded, is_displayed, is_member, is_named, number_of, numbers_with}

-- ## Lists under texts

-- the list under each text is that of the services that have it
abbrev pub Indexes : (List ℕ → Service → Bool) → UnderName → List Service → Type 0
Indexes has_text lists rows = (text : List ℕ) → at lists text ≡ numbers_with (has_text text) rows

-- each text has the same numbers under it
abbrev pub Keeps : UnderName → UnderName → Type 0
Keeps old new = (text : List ℕ) → at new text ≡ at old text

-- a number leaves the list of one text and comes into that of another
abbrev pub relisted : List ℕ → List ℕ → ℕ → List ℕ → List ℕ → List ℕ
relisted before after number text numbers =
    let less = if same_text before text then without_number numbers number else numbers in
    if same_text after text then with_number less number else less

abbrev pub Moves : UnderName → UnderName → List ℕ → List ℕ → ℕ → Type 0
Moves old new before after number =
    (text : List ℕ) → at new text ≡ relisted before after number text (at old text)

-- ## The same of names, display names and groups

pub record AreOf (texts : KeptTexts) (rows : List Service) : Type 0 where
  pub names : Indexes is_named texts.names rows
  pub displays : Indexes is_displayed texts.displays rows
  pub groups : Indexes is_member texts.groups rows

pub record KeepEach (old new : KeptTexts) : Type 0 where
  pub names : Keeps old.names new.names
  pub displays : Keeps old.displays new.displays
  pub groups : Keeps old.groups new.groups

-- no text loses room
pub record KeepRooms (old new : KeptTexts) : Type 0 where
  pub names : (text : List ℕ) → room old.names text ≤ room new.names text
  pub displays : (text : List ℕ) → room old.displays text ≤ room new.displays text
  pub groups : (text : List ℕ) → room old.groups text ≤ room new.groups text

-- the list under each text of a row changes
pub record ChangeEach (old new : KeptTexts) (row : Spare) (change : List ℕ → List ℕ) : Type 0 where
  pub names : Changes old.names new.names row.name change
  pub displays : Changes old.displays new.displays row.display change
  pub groups : Changes old.groups new.groups row.group change

abbrev pub EnterEach : KeptTexts → KeptTexts → Spare → ℕ → Type 0
EnterEach old new row number = ChangeEach old new row (λ numbers. with_number numbers number)

abbrev pub LeaveEach : KeptTexts → KeptTexts → Spare → ℕ → Type 0
LeaveEach old new row number = ChangeEach old new row (λ numbers. without_number numbers number)

-- a number leaves the texts of one row and comes under those of another
pub record MoveEach (old new : KeptTexts) (before after : Spare) (number : ℕ) : Type 0 where
  pub names : Moves old.names new.names before.name after.name number
  pub displays : Moves old.displays new.displays before.display after.display number
  pub groups : Moves old.groups new.groups before.group after.group number

-- there is room for a number under each text of a row
pub record HasTexts (texts : KeptTexts) (row : Spare) : Type 0 where
  pub name : 1 ≤ room texts.names row.name
  pub display : 1 ≤ room texts.displays row.display
  pub group : 1 ≤ room texts.groups row.group

-- ## Services under their processes

-- the numbers under each process are those of the services whose current process it is
abbrev pub AreByProcess : List Pair → List Service → Type 0
AreByProcess pairs rows = (process : ℕ) → numbers_under process pairs ≡ currents_in process rows

-- whether a service with a process is listed under a process; 0 is none
abbrev pub is_under : ℕ → ℕ → Bool
is_under process own = not (process == 0) && own == process

-- the numbers under the own process of a service change, and those under each other process stay
abbrev pub ChangesOf : ℕ → List Pair → List Pair → (List ℕ → List ℕ) → Type 0
ChangesOf own old new change = (process : ℕ) → numbers_under process new ≡
    (if is_under process own then change (numbers_under process old) else numbers_under process old)

-- a number moves from those under one process to those under another, unless both are the same process
abbrev pub moved_under : ℕ → ℕ → ℕ → ℕ → List ℕ → List ℕ
moved_under before after number process numbers =
    if before == after then numbers else
    let less = if is_under process before then without_number numbers number else numbers in
    if is_under process after then with_number less number else less

abbrev pub MovesUnder : List Pair → List Pair → ℕ → ℕ → ℕ → Type 0
MovesUnder old new before after number =
    (process : ℕ) → numbers_under process new ≡ moved_under before after number process (numbers_under process old)

-- how many services have no process, each of which may be listed under one without memory
abbrev pub idle_at : ℕ → ℕ
idle_at process = if process == 0 then 1 else 0

abbrev pub idle : List Service → ℕ
idle [] = 0
idle (row ∷ rows) = idle_at row.process + idle rows

-- ## A table

pub record HasRoom (table : Inside) (row : Spare) : Type 0 where
  pub rows : 1 ≤ table.rows.room
  pub processes : 1 + idle table.rows.items ≤ table.processes.room
  pub texts : HasTexts table.texts row

pub record IsKept (table : Inside) : Type 0 where
  pub rising : AreRisingBy number_of table.rows.items
  pub texts : AreOf table.texts table.rows.items
  pub processes : AreByProcess table.processes.items table.rows.items
  pub room : idle table.rows.items ≤ table.processes.room
  pub spare : IfSome table.spare (HasRoom table)

abbrev pub recorded : Inside → Recorded
recorded table = record { services = table.rows.items; spare = table.spare }
