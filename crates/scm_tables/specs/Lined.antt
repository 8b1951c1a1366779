-- What the launch of a process is to have.
use Rattle.std.specs.Prelude.{ℕ, Bool, List, [], if◌then◌else◌}

-- the words of a service's, or the one word of a command's
pub record Lined : Type 0 where
  pub command : Bool
  pub words : List (List ℕ)

-- a command's is launched without words
abbrev pub words_told : Lined → List (List ℕ)
words_told line = if line.command then [] else line.words

abbrev pub emptied_line : Lined → Lined
emptied_line line = record line { words = [] }
