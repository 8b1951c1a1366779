-- Items of one kind, one after the other.
use Rattle.std.specs.Prelude.{◌≡◌, ℕ, suc, zero, List, [], ◌∷◌, length, Result, Ok}
use Rattle.ndr_body.specs.declared.fault.BodyFault.{BodyFault}
use Rattle.ndr_body.specs.Reading.{◌>>=◌}
use Rattle.ndr_body.specs.Writing.{Draft, put_text}

-- items stand one after the other
abbrev pub EachStands : {A : Type 0} → (List ℕ → ℕ → A → ℕ → Type 0) → List ℕ → ℕ → List A → ℕ → Type 0
EachStands There bytes place [] after = after ≡ place
EachStands There bytes place (value ∷ values) after = (middle : ℕ) × There bytes place value middle
    × EachStands There bytes middle values after

-- so many do
pub record CountedStand {A : Type 0} (count : ℕ) (There : List ℕ → ℕ → A → ℕ → Type 0) (bytes : List ℕ) (place : ℕ) (values : List A)
    (after : ℕ) : Type 0 where
  pub counted : length values ≡ count
  pub stand : EachStands There bytes place values after

-- so many are read
unfoldable pub each_at : {A : Type 0} → (List ℕ → ℕ → Result (A × ℕ) BodyFault) → ℕ → List ℕ → ℕ → Result (List A × ℕ) BodyFault
each_at item_at zero body place = Ok ([], place)
each_at item_at (suc n) body place = do
  first ← item_at body place
  others ← each_at item_at n body first.1
  Ok (first.0 ∷ others.0, others.1)

-- texts are written
abbrev pub put_each : List (List ℕ) → Draft → Draft
put_each [] d = d
put_each (text ∷ texts) d = put_each texts (put_text text d)
