-- A handle and numbers that are read at once are the values of their body.
use Rattle.std.proofs.Common.{◌≡◌, ℕ, Bool, true, false, List, [], ◌∷◌, drop, Result, Ok, Err, refl}
use Rattle.std.specs.Prelude.{IsTrue, ◌&&◌}
use Rattle.ndr_body.specs.declared.fault.BodyFault.{BodyFault}
use Rattle.ndr_body.specs.Reading.{◌>>=◌, handle_at, ended_at}
use Rattle.scm_shapes.specs.declared.item.Item.{Item}
use Rattle.scm_shapes.specs.declared.item.Item.TheVariants as item
use Rattle.scm_shapes.specs.declared.item.Value.{Value}
use Rattle.scm_shapes.specs.declared.item.Value.TheVariants as value
use Rattle.scm_shapes.specs.declared.handle_body.HandleBody.{HandleBody}
use Rattle.scm_shapes.specs.Parts.{made}
use Rattle.scm_shapes.specs.Calls.{read_as}
use Rattle.scm_shapes.specs.Shapes.{item_at, values_at, closed_at, body_values}
use Rattle.scm_shapes.specs.HandleBodies.{is_numeric, is_handle_body, handle_body_of, next_number_at, handle_body_at}

-- ## The two orders of reading, over any way to read the items

-- the numbers after a handle, and the end
abbrev at_once : List ℕ → (ℕ → Result (ℕ × ℕ) BodyFault) → (ℕ → Result (ℕ × ℕ) BodyFault) → Result (ℕ × ℕ) BodyFault
    → Result HandleBody BodyFault
at_once body first_at second_at handle = handle >>= λ h. first_at h.1 >>= λ a. second_at a.1 >>= λ b. ended_at body b.1 >>= λ ended. Ok
    (record { handle = h.0; first = a.0; second = b.0 })

-- a value before others
abbrev with_first : Value → Result (List Value × ℕ) BodyFault → Result (List Value × ℕ) BodyFault
with_first first read = read >>= λ others. Ok (first ∷ others.0, others.1)

-- a number, and the values after it
abbrev number_and : Result (ℕ × ℕ) BodyFault → (ℕ → Result (List Value × ℕ) BodyFault) → Result (List Value × ℕ) BodyFault
number_and number more = made value.Number number >>= λ first. with_first first.0 (more first.1)

-- values, and the end
abbrev whole : List ℕ → Result (List Value × ℕ) BodyFault → Result HandleBody BodyFault
whole body read = (read >>= λ values. closed_at values.0 body values.1 >>= λ closed. Ok values.0) >>= λ vs. Ok (handle_body_of vs)

-- a handle, the values after it, and the end
abbrev by_values : List ℕ → (ℕ → Result (List Value × ℕ) BodyFault) → Result (ℕ × ℕ) BodyFault → Result HandleBody BodyFault
by_values body more handle = whole body (made value.Handle handle >>= λ first. with_first first.0 (more first.1))

-- no value
abbrev nothing : ℕ → Result (List Value × ℕ) BodyFault
nothing place = Ok ([], place)

-- no number
abbrev zero_at : ℕ → Result (ℕ × ℕ) BodyFault
zero_at place = Ok (0, place)

ended : (vs : List Value) (end : Result (Unit {0}) BodyFault) → (end >>= λ closed. Ok (handle_body_of vs)) ≡
    ((end >>= λ closed. Ok vs) >>= λ vs. Ok (handle_body_of vs))
ended vs (Ok x) = refl
ended vs (Err e) = refl

none : (body : List ℕ) (handle : Result (ℕ × ℕ) BodyFault) → at_once body zero_at zero_at handle ≡ by_values body nothing handle
unfolding closed_at
none body (Ok h) = ended (value.Handle h.0 ∷ []) (ended_at body h.1)
none body (Err e) = refl

one_after : (body : List ℕ) (h : ℕ) (first : Result (ℕ × ℕ) BodyFault)
    → (first >>= λ a. ended_at body a.1 >>= λ ended. Ok (record { handle = h; first = a.0; second = 0 })) ≡ whole body
    (with_first (value.Handle h) (number_and first nothing))
unfolding closed_at
one_after body h (Ok a) = ended (value.Handle h ∷ value.Number a.0 ∷ []) (ended_at body a.1)
one_after body h (Err e) = refl

one : (body : List ℕ) (first_at : ℕ → Result (ℕ × ℕ) BodyFault) (handle : Result (ℕ × ℕ) BodyFault)
    → at_once body first_at zero_at handle ≡ by_values body (λ p. number_and (first_at p) nothing) handle
one body first_at (Ok h) = one_after body h.0 (first_at h.1)
one body first_at (Err e) = refl

second_after : (body : List ℕ) (h a : ℕ) (second : Result (ℕ × ℕ) BodyFault)
    → (second >>= λ b. ended_at body b.1 >>= λ ended. Ok (record { handle = h; first = a; second = b.0 })) ≡ whole body
    (with_first (value.Handle h) (with_first (value.Number a) (number_and second nothing)))
unfolding closed_at
second_after body h a (Ok b) = ended (value.Handle h ∷ value.Number a ∷ value.Number b.0 ∷ []) (ended_at body b.1)
second_after body h a (Err e) = refl

both_after : (body : List ℕ) (h : ℕ) (second_at : ℕ → Result (ℕ × ℕ) BodyFault) (first : Result (ℕ × ℕ) BodyFault)
    → (first >>= λ a. second_at a.1 >>= λ b. ended_at body b.1 >>= λ ended. Ok (record { handle = h; first = a.0; second = b.0 }))
    ≡ whole body (with_first (value.Handle h) (number_and first (λ p. number_and (second_at p) nothing)))
both_after body h second_at (Ok a) = second_after body h a.0 (second_at a.1)
both_after body h second_at (Err e) = refl

both : (body : List ℕ) (first_at second_at : ℕ → Result (ℕ × ℕ) BodyFault) (handle : Result (ℕ × ℕ) BodyFault)
    → at_once body first_at second_at handle ≡ by_values body (λ p. number_and (first_at p) (λ q. number_and (second_at q) nothing)) handle
both body first_at second_at (Ok h) = both_after body h.0 second_at (first_at h.1)
both body first_at second_at (Err e) = refl

-- ## Shapes

both_numbers : (a b : Bool) → IsTrue (a && b) → IsTrue a × IsTrue b
both_numbers true true h = (refl, refl)
both_numbers true false h = absurd cc
both_numbers false b h = absurd cc

module _ (body : List ℕ) where
  one_read : (first : Item) → IsTrue (is_numeric first) → handle_body_at (first ∷ []) body ≡ read_as
      (item.Handle ∷ first ∷ []) handle_body_of body
  unfolding handle_body_at body_values values_at item_at next_number_at
  one_read item.Number h = one body (next_number_at (item.Number ∷ []) body) (handle_at body 0)
  one_read (item.NumberTo most) h = one body (next_number_at (item.NumberTo most ∷ []) body) (handle_at body 0)
  one_read _ h = absurd cc

  both_read : (first second : Item) → IsTrue (is_numeric first) → IsTrue (is_numeric second)
      → handle_body_at (first ∷ second ∷ []) body ≡ read_as (item.Handle ∷ first ∷ second ∷ []) handle_body_of body
  unfolding handle_body_at body_values values_at item_at next_number_at
  both_read item.Number item.Number h k = both body (next_number_at (item.Number ∷ []) body) (next_number_at (item.Number ∷ []) body)
      (handle_at body 0)
  both_read item.Number (item.NumberTo most) h k = both body (next_number_at (item.Number ∷ []) body)
      (next_number_at (item.NumberTo most ∷ []) body) (handle_at body 0)
  both_read (item.NumberTo most) item.Number h k = both body (next_number_at (item.NumberTo most ∷ []) body)
      (next_number_at (item.Number ∷ []) body) (handle_at body 0)
  both_read (item.NumberTo most) (item.NumberTo more) h k = both body (next_number_at (item.NumberTo most ∷ []) body)
      (next_number_at (item.NumberTo more ∷ []) body) (handle_at body 0)
  both_read item.Number _ h k = absurd cc
  both_read (item.NumberTo most) _ h k = absurd cc
  both_read _ second h k = absurd cc

  pub read_at_once : (shape : List Item) → IsTrue (is_handle_body shape)
      → handle_body_at (drop 1 shape) body ≡ read_as shape handle_body_of body
  unfolding handle_body_at body_values values_at item_at next_number_at
  read_at_once (item.Handle ∷ []) h = none body (handle_at body 0)
  read_at_once (item.Handle ∷ first ∷ []) h = one_read first h
  read_at_once (item.Handle ∷ first ∷ second ∷ []) h = let are = both_numbers (is_numeric first) (is_numeric second) h in
      both_read first second are.0 are.1
  read_at_once _ h = absurd cc
