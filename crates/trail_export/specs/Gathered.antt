-- What is written to a sink by way of bytes that are gathered beside it.
use Rattle.std.specs.Prelude.{ℕ, List, length, Option, Some, None, Result}
use Rattle.std.specs.Io.KnownBytes.{append_known}
use Rattle.outside.specs.Written.{Writes}

-- a sink holds some bytes, and others are gathered; just these bytes were written after both, or at an error a front of them
abbrev pub Gathers : {T E : Type 0} → Option (List ℕ) → List ℕ → Option (List ℕ) → List ℕ → Result T E → List ℕ → Type 0
Gathers held gathered held_now gathered_now result bytes =
    Writes (append_known held gathered) (append_known held_now gathered_now) result bytes

-- how many bytes the sink holds, where it tells them
abbrev pub held_size : Option (List ℕ) → ℕ
held_size None = 0
held_size (Some bytes) = length bytes
