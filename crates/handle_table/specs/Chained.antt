-- Handles under their numbers, in chains.
use Rattle.std.specs.Prelude.{ℕ, ◌≡◌, ◌<◌, Bool, false, ◌==◌, is_none, List, map, Option, None, Some, nat_eq, option_and_then, option_map}
use Rattle.std.specs.Map.{lookup}
use Rattle.scm_model.specs.declared.flat.HandleRow.{HandleRow}
use Rattle.handle_table.specs.Numbered.{AreNumbered}
use Rattle.handle_table.specs.declared.rows.Node.{Node}

abbrev pub node_at : List (ℕ × Node) → ℕ → Option Node
node_at nodes number = lookup (nat_eq number) nodes

abbrev pub with_older : Option ℕ → Node → Node
with_older older node = record node { older = older }

abbrev pub with_newer : Option ℕ → Node → Node
with_newer newer node = record node { newer = newer }

abbrev pub is_number : ℕ → Option ℕ → Bool
is_number number None = false
is_number number (Some other) = other == number

-- no handle of its caller came after it
abbrev pub is_newest : Node → Bool
is_newest node = is_none node.newer

-- which caller has the handle with a number, and which of its handles came just before it and just after it
abbrev pub holder_of : List (ℕ × Node) → ℕ → Option ℕ
holder_of nodes number = option_map (λ (node : Node). node.row.caller) (node_at nodes number)

abbrev pub older_of : List (ℕ × Node) → ℕ → Option ℕ
older_of nodes number = option_and_then (λ (node : Node). node.older) (node_at nodes number)

abbrev pub newer_of : List (ℕ × Node) → ℕ → Option ℕ
newer_of nodes number = option_and_then (λ (node : Node). node.newer) (node_at nodes number)

-- The numbers of each caller are a chain: older and newer are each the other turned round, an older number is below a
-- newer one of the same caller, and the newest is the one with no newer.
pub record IsChain (caller older newer newest : ℕ → Option ℕ) : Type 0 where
  pub back : (n m : ℕ) → newer n ≡ Some m → older m ≡ Some n
  pub forth : (n m : ℕ) → older m ≡ Some n → newer n ≡ Some m
  pub order : (n m : ℕ) → older m ≡ Some n → n < m
  pub alike : (n m : ℕ) → older m ≡ Some n → caller n ≡ caller m
  pub first : (c n : ℕ) → newest c ≡ Some n → (caller n ≡ Some c) × (newer n ≡ None)
  pub is_newest : (c n : ℕ) → caller n ≡ Some c → newer n ≡ None → newest c ≡ Some n

abbrev pub AreLinked : List (ℕ × Node) → List (ℕ × ℕ) → Type 0
AreLinked nodes newest = IsChain (holder_of nodes) (older_of nodes) (newer_of nodes) (λ (c : ℕ). lookup (nat_eq c) newest)

-- the handles, each under its number
abbrev pub rows_of : List (ℕ × Node) → List (ℕ × HandleRow)
rows_of nodes = map (λ (entry : ℕ × Node). (entry.0, entry.1.row)) nodes

pub record AreChained (nodes : List (ℕ × Node)) (newest : List (ℕ × ℕ)) : Type 0 where
  pub numbered : AreNumbered (rows_of nodes)
  pub linked : AreLinked nodes newest
