-- A child in memory, the outcome of a wait for it, and what is told of its input when that has ended.
use Rattle.std.specs.Prelude.{ℕ, Bool, IsTrue, IfSome, List, Option}
use Rattle.outside.specs.InMemory.{GivingMemory}

-- the child has ended, where the object tells it
abbrev pub HasEnded : Option Bool → Type 0
HasEnded told = IfSome told (λ ended. IsTrue ended)

pub record ChildInMemory : Type 0 where
  pub pid : ℕ
  -- what it writes
  pub output : GivingMemory
  pub ended : Bool
  -- whether each wait to come is to fail, the next one last
  pub waits : List Bool
  -- how many waits failed
  pub failed_waits : ℕ

-- ## Its input

-- what a feed held when it ended, where it tells that, and how often it had failed
pub record FeedPast : Type 0 where
  pub held : Option (List ℕ)
  pub faults : ℕ

abbrev pub feed_past : Option (List ℕ) → ℕ → FeedPast
feed_past held faults = record { held = held; faults = faults }
