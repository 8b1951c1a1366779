-- Connections that were dialled, and given back.
use Rattle.std.specs.Prelude.{ℕ, ◌≡◌, ◌++◌, List, [], ◌∷◌, Option, None, Some, option_map}

-- what a dialer tells of a connection that was given back
pub record PastConnection : Type 0 where
  -- where it was dialled to
  pub address : Option (List ℕ)
  -- what the peer sent and wasn't read
  pub left : Option (List ℕ)
  pub written : Option (List ℕ)

-- these connections and one more
abbrev pub with_past : Option (List PastConnection) → (address left written : Option (List ℕ)) → Option (List PastConnection)
with_past past address left written = option_map (λ ps. ps ++ record { address = address; left = left; written = written } ∷ []) past

-- The connections that were given back are these and one more, to this address; where the dialer tells.
abbrev pub IsGivenBack : (past past_now : Option (List PastConnection)) → (address : List ℕ) → (left written : Option (List ℕ)) → Type 0
IsGivenBack None past_now address left written = past_now ≡ None
IsGivenBack (Some ps) past_now address left written = past_now ≡ Some (ps
    ++ record { address = Some address; left = left; written = written } ∷ [])
