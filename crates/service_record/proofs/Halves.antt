-- A surrogate has no partner exactly where a second half stands with no first half before it, or lacks behind one.
use Rattle.std.proofs.Common.{◌≡◌, ℕ, Bool, true, false, List, [], ◌∷◌, refl, arith}
use Rattle.std.specs.Prelude.{if◌then◌else◌, is_some}
use Rattle.std.specs.Char.Utf16.{has_unpaired_surrogate, utf16_chars, is_high_surrogate, is_low_surrogate, lone_unit_char}
use Rattle.std.proofs.Common.{inl, inr}
use Rattle.std.proofs.lemmas.Bool.{cases_Bool}
use Rattle.std.proofs.lemmas.Grind.{common_steps}

-- whether a surrogate has no partner, where a second half has to come or not
unfoldable pub is_unpaired : Bool → List ℕ → Bool
is_unpaired pending [] = pending
is_unpaired pending (u ∷ us) = if pending then (if is_low_surrogate u then is_unpaired (is_high_surrogate u) us else true)
    else (if is_low_surrogate u then true else is_unpaired (is_high_surrogate u) us)

-- what is no first half stands by itself
lone_front : (u : ℕ) (us : List ℕ) → is_high_surrogate u ≡ false → utf16_chars (u ∷ us) ≡ lone_unit_char u ∷ utf16_chars us
unfolding utf16_chars
lone_front u [] low = refl
lone_front u (v ∷ us) low = rw low refl

lone_high : (u : ℕ) → is_high_surrogate u ≡ true → is_some (lone_unit_char u) ≡ false
lone_high u high = grind (arith, common_steps)

lone_low : (u : ℕ) → is_low_surrogate u ≡ true → is_some (lone_unit_char u) ≡ false
lone_low u low = grind (arith, common_steps)

lone_other : (u : ℕ) → is_high_surrogate u ≡ false → is_low_surrogate u ≡ false → is_some (lone_unit_char u) ≡ true
lone_other u high low = grind (arith, common_steps)

high_not_low : (u : ℕ) → is_high_surrogate u ≡ true → is_low_surrogate u ≡ false
high_not_low u high = grind (arith, common_steps)

low_not_high : (u : ℕ) → is_low_surrogate u ≡ true → is_high_surrogate u ≡ false
low_not_high u low = grind (arith, common_steps)

-- a list, and the same list behind a first half
pub record AreSo (us : List ℕ) : Type 0 where
  pub so : has_unpaired_surrogate us ≡ is_unpaired false us
  pub behind : (h : ℕ) → is_high_surrogate h ≡ true → has_unpaired_surrogate (h ∷ us) ≡ is_unpaired true us

-- behind a first half, by whether a second half comes
low_behind : (h u : ℕ) (us : List ℕ) → is_high_surrogate h ≡ true → is_low_surrogate u ≡ true → AreSo us
    → has_unpaired_surrogate (h ∷ u ∷ us) ≡ is_unpaired true (u ∷ us)
unfolding utf16_chars is_unpaired
low_behind h u us high low rest = rw (high, low, low_not_high u low) rest.so

other_behind : (h u : ℕ) (us : List ℕ) → is_high_surrogate h ≡ true → is_low_surrogate u ≡ false
    → has_unpaired_surrogate (h ∷ u ∷ us) ≡ is_unpaired true (u ∷ us)
unfolding utf16_chars is_unpaired
other_behind h u us high low = rw (high, low, lone_high h high) refl

-- at the front, by what the unit is
high_front : (u : ℕ) (us : List ℕ) → is_high_surrogate u ≡ true → AreSo us → has_unpaired_surrogate (u ∷ us) ≡ is_unpaired false (u ∷ us)
unfolding is_unpaired
high_front u us high rest = rw (high_not_low u high, high) (rest.behind u high)

low_front : (u : ℕ) (us : List ℕ) → is_low_surrogate u ≡ true → has_unpaired_surrogate (u ∷ us) ≡ is_unpaired false (u ∷ us)
unfolding is_unpaired
low_front u us low = rw (lone_front u us (low_not_high u low), lone_low u low, low) refl

other_front : (u : ℕ) (us : List ℕ) → is_high_surrogate u ≡ false → is_low_surrogate u ≡ false → AreSo us
    → has_unpaired_surrogate (u ∷ us) ≡ is_unpaired false (u ∷ us)
unfolding is_unpaired
other_front u us high low rest = rw (lone_front u us high, lone_other u high low, low, high) rest.so

front_of : (u : ℕ) (us : List ℕ) → AreSo us → has_unpaired_surrogate (u ∷ us) ≡ is_unpaired false (u ∷ us)
front_of u us rest = elim (cases_Bool (is_high_surrogate u)) [
  | inl high ↦ high_front u us high rest
  | inr high ↦ elim (cases_Bool (is_low_surrogate u)) [ inl low ↦ low_front u us low | inr low ↦ other_front u us high low rest ]
]

behind_of : (u : ℕ) (us : List ℕ) → AreSo us → (h : ℕ) → is_high_surrogate h ≡ true
    → has_unpaired_surrogate (h ∷ u ∷ us) ≡ is_unpaired true (u ∷ us)
behind_of u us rest h high = elim (cases_Bool (is_low_surrogate u)) [
  | inl low ↦ low_behind h u us high low rest
  | inr low ↦ other_behind h u us high low
]

none_behind : (h : ℕ) → is_high_surrogate h ≡ true → has_unpaired_surrogate (h ∷ []) ≡ is_unpaired true []
unfolding utf16_chars is_unpaired
none_behind h high = rw (lone_high h high) refl

none_so : has_unpaired_surrogate [] ≡ is_unpaired false []
unfolding utf16_chars is_unpaired
none_so = refl

are_so : (us : List ℕ) → AreSo us
are_so [] = record { so = none_so; behind = none_behind }
are_so (u ∷ us) = record { so = front_of u us (are_so us); behind = behind_of u us (are_so us) }

pub unpaired_so : (us : List ℕ) → has_unpaired_surrogate us ≡ is_unpaired false us
unpaired_so us = (are_so us).so
