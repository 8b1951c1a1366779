-- A source and a sink in memory, with what becomes of their calls.
use Rattle.std.specs.Prelude.{ℕ, Bool, List}

pub record GivingMemory : Type 0 where
  -- the bytes that are still to come
  pub left : List ℕ
  -- at most so many of them are given at a time, and one at least
  pub piece : ℕ
  -- whether each call to come is to fail, the next one last
  pub fails : List Bool
  pub faults : ℕ

pub record HoldingMemory : Type 0 where
  pub held : List ℕ
  -- how many bytes more find room without memory
  pub room : ℕ
  -- at most so many are taken at a time, and one at least
  pub piece : ℕ
  -- whether each call to come is to fail, the next one last
  pub fails : List Bool
  pub faults : ℕ
