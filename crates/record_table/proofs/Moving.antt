-- Lists under texts, as services come, go and change.
use Rattle.std.proofs.Common.{ℕ, ◌≡◌, ◌+◌, ◌<◌, ◌≤◌, ◌∙◌, Bool, true, false, not, cond, List, [], ◌∷◌, ◌++◌, Some, refl, sym, ap, find}
use Rattle.std.proofs.Common.{filter, map, eqb, Option, None, arith}
use Rattle.std.specs.List.{AllByRecursion}
use Rattle.scm_text.specs.Fold.{same_text}
use Rattle.scm_model.specs.declared.flat.Config.{Config}
use Rattle.scm_model.specs.declared.flat.Service.{Service}
use Rattle.number_lists.specs.Rising.{with_number, without_number}
use Rattle.number_lists.specs.UnderName.{UnderName, at, Changes}
use Rattle.number_pairs.specs.declared.pairs.Pair.{Pair}
use Rattle.scm_text.specs.Roomed.{Roomed}
use Rattle.std.specs.Prelude.{IfSome}
use Rattle.row_slab.specs.Rowed.{Rowed, AreRisingBy, altered_at}
use Rattle.record_table.specs.declared.texts.KeptTexts.{KeptTexts}
use Rattle.record_table.specs.declared.texts.Spare.{Spare}
use Rattle.record_table.specs.declared.table.RecordTable.TheInside.{Inside}
use Rattle.record_table.specs.Kept.{AreOf, ChangeEach, HasRoom, HasTexts, KeepEach, KeepRooms, MoveEach, Moves, Indexes, idle, relisted}
use Rattle.record_table.specs.Recorded.{number_of, has_number, spare_of, with_config}
use Rattle.record_table.proofs.Groups as groups
use Rattle.record_table.proofs.Groups.{numbers_if}

module _ (text_of : Config → List ℕ) where
  abbrev has_text : List ℕ → Service → Bool
  has_text text row = same_text (text_of row.config) text

  listed : (before after : UnderName) (rows : List Service) (new : Service) (text : List ℕ) → Indexes has_text before rows
      → text ≡ text_of new.config → AllByRecursion (λ (row : Service). row.number < new.number) rows
      → Changes before after text (λ numbers. with_number numbers new.number) → Indexes has_text after (rows ++ new ∷ [])
  listed before after rows new text lists is above changes q =
      changes.lists q ∙ ap (λ g. cond (same_text g q) (with_number (at before q) new.number) (at before q)) is
      ∙ ap (λ l. cond (same_text (text_of new.config) q) (with_number l new.number) l) (lists q)
      ∙ sym (groups.pushed (has_text q) rows new above)

  -- a number is taken from its text's list, and so from every list
  less : (rows : List Service) (gone : Service) (n : ℕ) → AreRisingBy number_of rows → find (has_number n) rows ≡ Some gone → (q : List ℕ)
      → cond (same_text (text_of gone.config) q) (without_number (numbers_if (has_text q) rows) n)
      (numbers_if (has_text q) rows) ≡ without_number (numbers_if (has_text q) rows) n
  less rows gone n rising found q =
      elim (same_text (text_of gone.config) q) as (λ b. same_text (text_of gone.config) q ≡ b
      → cond b (without_number (numbers_if (has_text q) rows) n) (numbers_if (has_text q) rows) ≡ without_number
      (numbers_if (has_text q) rows) n) [
        | true ↦ λ e. refl
        | false ↦ λ e. sym (groups.unlisted (has_text q) rows gone n rising found e)
      ] refl

  left : (before after : UnderName) (rows : List Service) (gone : Service) (n : ℕ) → Indexes has_text before rows
      → AreRisingBy number_of rows
      → find (has_number n) rows ≡ Some gone
      → Changes before after (text_of gone.config) (λ numbers. without_number numbers n)
      → Indexes has_text after (filter (λ (row : Service). not (has_number n row)) rows)
  left before after rows gone n lists rising found takes q =
      takes.lists q ∙ ap (λ l. cond (same_text (text_of gone.config) q) (without_number l n) l) (lists q)
      ∙ less rows gone n rising found q ∙ sym (groups.removed (has_text q) rows n)

  exchanged_text : (before after : UnderName) (rows : List Service) (old : Service) (n : ℕ) (config : Config) → Indexes has_text before rows
      → AreRisingBy number_of rows → find (has_number n) rows ≡ Some old
      → Moves before after (text_of old.config) (text_of config) n → Indexes has_text after
      (map (altered_at number_of n (with_config config)) rows)
  exchanged_text before after rows old n config lists rising found moves q =
      moves q ∙ ap (relisted (text_of old.config) (text_of config) n q) (lists q)
      ∙ ap (λ l. cond (same_text (text_of config) q) (with_number l n) l) (less rows old n rising found q)
      ∙ sym (groups.replaced (has_text q) rows old n (with_config config) (same_text (text_of config) q) refl refl rising
      found)

  lives_on : (lists : UnderName) (rows : List Service) (change : Service → Service) → Indexes has_text lists rows
      → ((row : Service) → (change row).number ≡ row.number) → ((row : Service) → (change row).config ≡ row.config)
      → Indexes has_text lists (map change rows)
  lives_on lists rows change told numbers configs q = told q ∙ sym (groups.same_members (has_text q) change rows numbers
      (λ (row : Service). ap (λ (c : Config). same_text (text_of c) q) (configs row)))

-- a number that is moved: taken, put, and the text forgotten if nothing is under it
pub moved_is : (old middle put new : UnderName) (before after : List ℕ) (n : ℕ)
    → Changes old middle before (λ numbers. without_number numbers n) → Changes middle put after (λ numbers. with_number numbers n)
    → Changes put new before (λ numbers. numbers) → Moves old new before after n
moved_is old middle put new before after n takes puts tidies q =
    tidies.lists q ∙ elim (same_text before q) as (λ b. cond b (at put q) (at put q) ≡ at put q) [ true ↦ refl | false ↦ refl ]
    ∙ puts.lists q ∙ ap (λ l. cond (same_text after q) (with_number l n) l) (takes.lists q)

-- ## The same of names, display names and groups

pub entered : (before after : KeptTexts) (rows : List Service) (new : Service) (spare : Spare) → AreOf before rows
    → spare ≡ spare_of new.config → AllByRecursion (λ (row : Service). row.number < new.number) rows
    → ChangeEach before after spare (λ numbers. with_number numbers new.number) → AreOf after (rows ++ new ∷ [])
entered before after rows new spare lists is above changes = record {
  names = listed (λ (c : Config). c.name) before.names after.names rows new spare.name lists.names
      (ap (λ (s : Spare). s.name) is) above changes.names;
  displays = listed (λ (c : Config). c.display) before.displays after.displays rows new spare.display lists.displays
      (ap (λ (s : Spare). s.display) is) above changes.displays;
  groups = listed (λ (c : Config). c.group) before.groups after.groups rows new spare.group lists.groups
      (ap (λ (s : Spare). s.group) is) above changes.groups;
}

pub gone_from : (before after : KeptTexts) (rows : List Service) (gone : Service) (n : ℕ) → AreOf before rows → AreRisingBy number_of rows
    → find (has_number n) rows ≡ Some gone
    → ChangeEach before after (spare_of gone.config) (λ numbers. without_number numbers n)
    → AreOf after (filter (λ (row : Service). not (has_number n row)) rows)
gone_from before after rows gone n lists rising found changes = record {
  names = left (λ (c : Config). c.name) before.names after.names rows gone n lists.names rising found changes.names;
  displays = left (λ (c : Config). c.display) before.displays after.displays rows gone n lists.displays rising found changes.displays;
  groups = left (λ (c : Config). c.group) before.groups after.groups rows gone n lists.groups rising found changes.groups;
}

pub exchanged_each : (before after : KeptTexts) (rows : List Service) (old : Service) (n : ℕ) (config : Config) → AreOf before rows
    → AreRisingBy number_of rows → find (has_number n) rows ≡ Some old
    → MoveEach before after (spare_of old.config) (spare_of config) n → AreOf after (map (altered_at number_of n (with_config config)) rows)
exchanged_each before after rows old n config lists rising found moves = record {
  names = exchanged_text (λ (c : Config). c.name) before.names after.names rows old n config lists.names rising found moves.names;
  displays = exchanged_text (λ (c : Config). c.display) before.displays after.displays rows old n config lists.displays rising found
      moves.displays;
  groups = exchanged_text (λ (c : Config). c.group) before.groups after.groups rows old n config lists.groups rising found moves.groups;
}

-- changes that leave numbers and configurations
pub lives_each : (texts : KeptTexts) (rows : List Service) (change : Service → Service) → AreOf texts rows
    → ((row : Service) → (change row).number ≡ row.number) → ((row : Service) → (change row).config ≡ row.config)
    → AreOf texts (map change rows)
lives_each texts rows change lists numbers configs = record {
  names = lives_on (λ (c : Config). c.name) texts.names rows change lists.names numbers configs;
  displays = lives_on (λ (c : Config). c.display) texts.displays rows change lists.displays numbers configs;
  groups = lives_on (λ (c : Config). c.group) texts.groups rows change lists.groups numbers configs;
}

pub lives : (texts : KeptTexts) (rows : List Service) (n : ℕ) (change : Service → Service) → AreOf texts rows
    → ((row : Service) → (change row).number ≡ row.number) → ((row : Service) → (change row).config ≡ row.config)
    → AreOf texts (map (altered_at number_of n change) rows)
lives texts rows n change lists numbers configs = lives_each texts rows (altered_at number_of n change) lists same_numbers same_configs
  where
    same_numbers : (row : Service) → (altered_at number_of n change row).number ≡ row.number
    same_numbers row = elim (eqb row.number n) as (λ b. (cond b (change row) row).number ≡ row.number) [ true ↦ numbers row | false ↦ refl ]

    same_configs : (row : Service) → (altered_at number_of n change row).config ≡ row.config
    same_configs row = elim (eqb row.number n) as (λ b. (cond b (change row) row).config ≡ row.config) [ true ↦ configs row | false ↦ refl ]

-- lists with the same numbers are those of the same rows
pub still_of : (old new : KeptTexts) (rows : List Service) → KeepEach old new → AreOf old rows → AreOf new rows
still_of old new rows same lists = record {
  names = λ (text : List ℕ). same.names text ∙ lists.names text;
  displays = λ (text : List ℕ). same.displays text ∙ lists.displays text;
  groups = λ (text : List ℕ). same.groups text ∙ lists.groups text;
}

-- there is room for a row as long as there was
pub still_room : (spare : Option Spare) (table : Inside) (rows : Rowed Service) → rows.room ≡ table.rows.room
    → idle rows.items ≡ idle table.rows.items → IfSome spare (HasRoom table)
    → IfSome spare (HasRoom (record table { rows = rows }))
still_room None table rows same idles had = tt
still_room (Some row) table rows same idles had =
    record { rows = rw same had.rows; processes = rw idles had.processes; texts = had.texts }

-- there is room under the texts of a row as long as no text loses room
pub still_texts : (spare : Option Spare) (old new : KeptTexts) → KeepRooms old new → IfSome spare (HasTexts old)
    → IfSome spare (HasTexts new)
still_texts None old new rooms had = tt
still_texts (Some row) old new rooms had = record {
  name = omega (arith, had.name, rooms.names row.name);
  display = omega (arith, had.display, rooms.displays row.display);
  group = omega (arith, had.group, rooms.groups row.group);
}

-- there is room for a row where there is no less, and under its texts; and where no more services without a process come than room
pub more_room : (spare : Option Spare) (table : Inside) (rows : Rowed Service) (texts : KeptTexts) (processes : Roomed Pair)
    → table.rows.room ≤ rows.room → table.processes.room + idle rows.items ≤ processes.room + idle table.rows.items
    → (IfSome spare (HasTexts table.texts) → IfSome spare (HasTexts texts)) → IfSome spare (HasRoom table)
    → IfSome spare (HasRoom (record table { rows = rows; texts = texts; processes = processes }))
more_room None table rows texts processes more too kept had = tt
more_room (Some row) table rows texts processes more too kept had = record {
  rows = omega (arith, more, had.rows);
  processes = omega (arith, too, had.processes);
  texts = kept had.texts;
}
