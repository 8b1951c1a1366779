-- At which paths something was opened.
use Rattle.std.specs.Prelude.{ℕ, ◌≡◌, ◌⊎◌, List, [], ◌∷◌, ◌++◌, Option, None, Some, Result, Ok, Err, option_map}
use Rattle.std.specs.Borrow.{Bor}

-- the text that is lent, if one is
abbrev pub text_of : Option (Bor (List ℕ)) → Option (List ℕ)
text_of None = None
text_of (Some text) = Some text.now

-- the paths in order, none for an opening without one; where they are told
abbrev pub Paths : Type 0
Paths = Option (List (Option (List ℕ)))

-- one path more
abbrev pub with_path : Paths → Option (List ℕ) → Paths
with_path asked path = option_map (λ paths. paths ++ path ∷ []) asked

-- the path was asked for, or none was
abbrev pub IsAsked : Option (List ℕ) → Paths → Paths → Type 0
IsAsked path old new = (new ≡ with_path old path) ⊎ (new ≡ old)

-- an opening asked for the path; one that failed may have
abbrev pub Asks : {T E : Type 0} → Option (List ℕ) → Paths → Paths → Result T E → Type 0
Asks path old new (Ok done) = new ≡ with_path old path
Asks path old new (Err fault) = IsAsked path old new
