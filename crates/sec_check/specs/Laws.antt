-- Which entry decides a right.
use Rattle.std.specs.Prelude.{ℕ, ◌≡◌, ◌==◌, ◌<◌, ◌^◌, Bool, List, Option, None, Some, find, if◌then◌else◌}
use Rattle.std.specs.Int.{bit_at}
use Rattle.std.specs.List.{AllByRecursion}
use Rattle.sec_desc.specs.declared.value.Ace.{Ace}
use Rattle.sec_check.specs.Allowed.{maximum, passes}
use Rattle.scm_text.specs.Numbers.{has_bits}

-- the entries' masks have 32 bits
abbrev pub AreSmall : List Ace → Type 0
AreSmall aces = AllByRecursion (λ (ace : Ace). ace.mask < 2 ^ 32) aces

abbrev pub has_bit : ℕ → Ace → Bool
has_bit i ace = bit_at ace.mask i == 1

-- 1 if the entry is an allow
abbrev pub bit_of : Option Ace → ℕ
bit_of None = 0
bit_of (Some ace) = if ace.deny then 0 else 1

-- a bit is allowed if the first entry that has it is an allow
abbrev pub FirstEntryDecides : Type 0
FirstEntryDecides = (aces : List Ace) (i : ℕ) → AreSmall aces → bit_at (maximum aces) i ≡ bit_of (find (has_bit i) aces)

-- rights are allowed if each of their bits is
abbrev pub EachBitPasses : Type 0
EachBitPasses = (aces : List Ace) (desired : ℕ) → AreSmall aces → desired < 2 ^ 32 → passes desired aces ≡ has_bits (maximum aces) desired
