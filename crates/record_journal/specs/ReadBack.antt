-- Changes whose journal is read back.
use Rattle.std.specs.Prelude.{ℕ, ◌≡◌, ◌≤◌, true, List, [], ◌∷◌, ◌++◌, length, map, set, Ok}
use Rattle.std.specs.List.{flat_map}
use Rattle.scm_model.specs.declared.flat.Config.{Config}
use Rattle.scm_model.specs.declared.steps.Change.{Change}
use Rattle.record_journal.specs.Entries.{IsPart, can_replay, read_journal}
use Rattle.record_journal.specs.Format.{HasEntryIn, entry_bytes, entry_in, header_of, held_change, held_in, switch}
use Rattle.record_journal.specs.Replay.{after_change, replayed}
use Rattle.scm_model.specs.declared.steps.Form.{Form}
use Rattle.scm_model.specs.declared.steps.Form.TheVariants.{First, Second}
use Rattle.record_journal.specs.declared.replaying.Replay.{Replay}

-- each has an entry of a form, and can be replayed after those before it
abbrev pub AreReplayableIn : Form → List Config → List Change → Type 0
AreReplayableIn form configs [] = Unit {0}
AreReplayableIn form configs (change ∷ changes) =
    HasEntryIn form change × (can_replay configs (held_in form change) ≡ true)
    × AreReplayableIn form (after_change configs (held_in form change)) changes

abbrev pub AreReplayable : List Config → List Change → Type 0
AreReplayable configs changes = AreReplayableIn Second configs changes

-- ## Journals

-- the header of a form and the entries of changes
abbrev pub journal_in : Form → List Change → List ℕ
journal_in form changes = header_of form ++ flat_map (entry_in form) changes

abbrev pub journal : List Change → List ℕ
journal changes = journal_in Second changes

-- a journal of form 1 that goes on in form 2
abbrev pub upgraded : List Change → List Change → List ℕ
upgraded old changes = journal_in First old ++ switch ++ flat_map entry_bytes changes

-- what the changes of a journal of form 1 come to
abbrev pub old_configs : List Change → List Config
old_configs old = replayed [] (map held_change old)

-- changes of form 1, and changes of form 2 after them
abbrev pub AreUpgraded : List Change → List Change → Type 0
AreUpgraded old changes = AreReplayableIn First [] old × AreReplayable (old_configs old) changes

-- ## What is read of them

-- with a part of an entry of this form after them the bytes are read as these configurations
abbrev pub IsReadBack : List ℕ → Form → List Config → Type 0
IsReadBack bytes form configs =
    (tail : List ℕ) → IsPart form tail
    → read_journal (bytes ++ tail)
    ≡ Ok (record { configs = configs; kept = length bytes; form = form })

-- a front of some bytes that isn't all of them is a part of an entry of this form
abbrev pub HasParts : Form → List ℕ → Type 0
HasParts form bytes =
    (front more : List ℕ) → bytes ≡ front ++ more → 1 ≤ length more → IsPart form front

-- with any one byte changed all is kept, where it is read at all
abbrev pub IsNotCut : List ℕ → Type 0
IsNotCut bytes =
    (place byte : ℕ) (replay : Replay)
    → read_journal (set bytes place byte) ≡ Ok replay
    → replay.kept ≡ length bytes
