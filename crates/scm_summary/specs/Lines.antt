-- The lines of summaries.
use Rattle.std.specs.Prelude.{ℕ, ◌+◌, List, [], ◌∷◌, ◌++◌, codes, decimal}

-- a word, a number and a line feed
abbrev pub numbered : List ℕ → ℕ → List ℕ
numbered word number = word ++ (decimal number ++ 10 ∷ [])

-- how many calls a caller made
abbrev pub caller_line : (caller calls : ℕ) → List ℕ
caller_line caller calls = codes "caller " ++ (decimal caller ++ numbered (codes " calls ") calls)

-- the same of callers that follow each other, from this one on
abbrev pub callers_from : ℕ → List ℕ → List ℕ
callers_from caller [] = []
callers_from caller (calls ∷ more) = caller_line caller calls ++ callers_from (caller + 1) more
