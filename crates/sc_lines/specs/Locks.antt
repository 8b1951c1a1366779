-- The lock of the database.
use Rattle.std.specs.Prelude.{ℕ, not, ◌==◌, List, [], ◌∷◌, codes}
use Rattle.sc_lines.specs.Levels.{flag_name}
use Rattle.sc_lines.specs.Lines.{Field, Named, Text, Word, lines}

abbrev pub lock_fields : (held owner : List ℕ) → (seconds : ℕ) → List Field
lock_fields held owner seconds =
    Word (codes "IsLocked: ") held ∷ Text (codes "LockOwner: ") owner ∷ Named (codes "LockDuration: ") seconds
    (codes "(seconds since acquired)") ∷ []

abbrev pub lock_text : (held : ℕ) → (owner : List ℕ) → (seconds : ℕ) → List ℕ
lock_text held owner seconds = lines (lock_fields (flag_name (not (held == 0))) owner seconds)
