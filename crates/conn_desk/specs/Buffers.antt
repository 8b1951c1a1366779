-- The memory of a buffer.
use Rattle.std.specs.Prelude.{ℕ, ◌+◌, length, Option, None, Some}
use Rattle.scm_text.specs.Roomed.{Roomed}

-- for how many bytes a buffer has memory, if there is one
abbrev pub size_of : Option (Roomed ℕ) → ℕ
size_of None = 0
size_of (Some buffer) = buffer.room + length buffer.items
