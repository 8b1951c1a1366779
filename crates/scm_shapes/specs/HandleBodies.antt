-- Bodies of a handle and at most two numbers, which hold no value of another kind.
use Rattle.std.specs.Prelude.{ℕ, Bool, true, false, ◌&&◌, List, [], ◌∷◌, drop, Result, Ok}
use Rattle.ndr_body.specs.declared.fault.BodyFault.{BodyFault}
use Rattle.ndr_body.specs.Reading.{◌>>=◌, number_at, handle_at, ended_at}
use Rattle.scm_shapes.specs.declared.item.Item.{Item}
use Rattle.scm_shapes.specs.declared.item.Item.TheVariants as item
use Rattle.scm_shapes.specs.declared.item.Value.{Value}
use Rattle.scm_shapes.specs.declared.item.Value.TheVariants as value
use Rattle.scm_shapes.specs.declared.handle_body.HandleBody.{HandleBody}
use Rattle.scm_shapes.specs.Parts.{Reads}
use Rattle.scm_shapes.specs.Ranges.{within_at}
use Rattle.scm_shapes.specs.Shapes.{after, first_handle, first_number}

abbrev pub is_numeric : Item → Bool
is_numeric item.Number = true
is_numeric (item.NumberTo most) = true
is_numeric _ = false

abbrev pub is_handle_body : List Item → Bool
is_handle_body (item.Handle ∷ []) = true
is_handle_body (item.Handle ∷ first ∷ []) = is_numeric first
is_handle_body (item.Handle ∷ first ∷ second ∷ []) = is_numeric first && is_numeric second
is_handle_body _ = false

-- what the values of such a body are; a number that it doesn't have is 0
abbrev pub handle_body_of : List Value → HandleBody
handle_body_of vs = record { handle = first_handle vs; first = first_number (after 1 vs); second = first_number (after 2 vs) }

abbrev pub handle_body_values : HandleBody → List Value
handle_body_values held = value.Handle held.handle ∷ value.Number held.first ∷ value.Number held.second ∷ []

-- the number that some items begin with
unfoldable pub next_number_at : List Item → Reads ℕ
next_number_at [] body place = Ok (0, place)
next_number_at (item.NumberTo most ∷ items) body place = within_at most body place
next_number_at (kind ∷ items) body place = number_at body place

-- a handle and the numbers after it, or the first fault
unfoldable pub handle_body_at : List Item → List ℕ → Result HandleBody BodyFault
handle_body_at numbers body = do
  handle ← handle_at body 0
  first ← next_number_at numbers body handle.1
  second ← next_number_at (drop 1 numbers) body first.1
  ended ← ended_at body second.1
  Ok (record { handle = handle.0; first = first.0; second = second.0 })
