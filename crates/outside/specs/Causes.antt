-- Counts of faults.
use Rattle.std.specs.Prelude.{ℕ, ◌≡◌, ◌+◌, ◌-◌, ◌^◌, ◌≤◌, min, Result, OnErr, OnOk}

-- The count rose between the two moments. At the greatest number that it can be it stays.
abbrev pub Rose : ℕ → ℕ → Type 0
Rose before now = min (before + 1) (2 ^ 64 - 1) ≤ now

-- the count never falls; it rose where the call answered an error, and is the same where it answered none
pub record HasCause {T E : Type 0} (before now : ℕ) (result : Result T E) : Type 0 where
  pub grows : before ≤ now
  pub rose : OnErr result (Rose before now)
  pub kept : OnOk result (now ≡ before)

-- ## A source and a sink

-- the source failed, and the sink did not
abbrev pub ReadFailed : (source source_now sink sink_now : ℕ) → Type 0
ReadFailed source source_now sink sink_now = Rose source source_now × (sink_now ≡ sink)

-- the sink failed, and the source did not
abbrev pub WriteFailed : (source source_now sink sink_now : ℕ) → Type 0
WriteFailed source source_now sink sink_now = (source_now ≡ source) × Rose sink sink_now

-- neither failed
abbrev pub NeitherFailed : (source source_now sink sink_now : ℕ) → Type 0
NeitherFailed source source_now sink sink_now = (source_now ≡ source) × (sink_now ≡ sink)
