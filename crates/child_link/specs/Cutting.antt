-- What is kept of a line that comes byte by byte.
use Rattle.std.specs.Prelude.{ℕ, ◌==◌, List, [], ◌∷◌, ◌++◌, take, if◌then◌else◌}

-- of the bytes before a line's feed, as many are kept
abbrev pub kept : List ℕ → List ℕ
kept front = take 4096 front

-- what is kept with a byte more, which may be the feed
abbrev pub kept_with : List ℕ → ℕ → List ℕ
kept_with front byte = if byte == 10 then front ++ byte ∷ [] else kept (front ++ byte ∷ [])

-- what is kept of a line, by the bytes before its feed
abbrev pub kept_line : List ℕ → List ℕ
kept_line front = kept front ++ 10 ∷ []
