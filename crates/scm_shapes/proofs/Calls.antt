-- What holds of the calls of every codec.
use Rattle.std.proofs.Common.{◌≡◌, ℕ, List, map, Option, Some, Result, Ok, Err, refl, sym, ap, subst, ◌∙◌}
use Rattle.std.specs.Prelude.{IfOk}
use Rattle.ndr_body.specs.declared.fault.BodyFault.{BodyFault}
use Rattle.ndr_body.specs.declared.fault.BodyFault.TheVariants.{Short, BadString, BadCount, Trailing, OutOfMemory}
use Rattle.ndr_body.specs.Reading.{◌>>=◌, Fails, Gives}
use Rattle.ndr_body.proofs.Spelled.{IsBytes, bind_ok, ok_is}
use Rattle.scm_shapes.specs.declared.item.Item.{Item}
use Rattle.scm_shapes.specs.declared.item.Value.{Value}
use Rattle.scm_shapes.specs.Shapes.{body_values, body_bytes}
use Rattle.scm_shapes.specs.Laws.{CanHoldAll, as_read}
use Rattle.scm_shapes.specs.Calls.{read_as, shape_in, made_in, Codec, Spells}
use Rattle.scm_shapes.proofs.Exact.{body_found, body_read, body_fits}
use Rattle.scm_shapes.proofs.Back.{body_again, body_ranged, body_same}

module _ {Kind R : Type 0} (shape_of : Kind → List Item) (from : Kind → List Value → R) (kind_of : R → Option Kind) (values_of : R
    → List Value) (codec : Codec shape_of from kind_of values_of) where
  is_again : (kind : Kind) (r : R) → kind_of r ≡ Some kind → from kind (values_of r) ≡ r
  is_again kind r e = subst (λ (o : Option Kind). made_in from o (values_of r) r ≡ r) e (codec.again r)

  -- what is read is spelled by the body
  pub calls_found : (kind : Kind) (body : List ℕ) (result : Result R BodyFault) → IsBytes body
      → Gives (λ r. r) result (read_as (shape_of kind) (from kind) body) → IfOk result (λ r. Spells shape_of kind_of values_of kind body r)
  calls_found kind body (Ok r) fits gives =
      let a = bind_ok (body_values (shape_of kind) body) (λ vs. Ok (from kind vs)) r gives in
      let found = body_found (shape_of kind) body a.0 fits a.1 in
      let values : values_of (from kind a.0) ≡ a.0 = codec.kept kind a.0 ∙ body_fits (shape_of kind) body a.0 found in
      subst (λ (s : R). Spells shape_of kind_of values_of kind body s) (ok_is (from kind a.0) r a.2)
      (record { named = codec.named kind a.0; body = rw values found })
  calls_found kind body (Err e) fits gives = tt

  -- what the body spells is read
  pub calls_only : (kind : Kind) (body : List ℕ) (result : Result R BodyFault) → IsBytes body
      → Gives (λ r. r) result (read_as (shape_of kind) (from kind) body)
      → (r : R) → Spells shape_of kind_of values_of kind body r → Gives (λ s. s) result (Ok r)
  calls_only kind body result fits gives r h =
      let read : read_as (shape_of kind) (from kind) body ≡ Ok r = rw (
        body_read (shape_of kind) body (values_of r) fits h.body,
        is_again kind r h.named,
      ) refl in
      subst (λ (s : Result R BodyFault). Gives (λ t. t) result s) read gives

  -- what a body can hold is read back from the one that is written, as its values are read
  pub held_again : (kind : Kind) (r : R) → CanHoldAll (shape_of kind) (values_of r)
      → read_as (shape_of kind) (from kind) (body_bytes (values_of r)) ≡ Ok (from kind (map as_read (values_of r)))
  held_again kind r h = rw (body_again (shape_of kind) (values_of r) h) refl

  -- and unchanged where its values are
  pub held_same : (kind : Kind) (r : R) → kind_of r ≡ Some kind → map as_read (values_of r) ≡ values_of r
      → CanHoldAll (shape_of kind) (values_of r) → read_as (shape_of kind) (from kind) (body_bytes (values_of r)) ≡ Ok r
  held_same kind r e same h = rw (body_again (shape_of kind) (values_of r) h, same, is_again kind r e) refl

  -- so is what some body spells
  pub spelled_held : (kind : Kind) (bytes : List ℕ) (r : R) → Spells shape_of kind_of values_of kind bytes r
      → CanHoldAll (shape_of kind) (values_of r)
  spelled_held kind bytes r h = body_ranged (shape_of kind) bytes (values_of r) h.body

  pub spelled_again : (kind : Kind) (bytes : List ℕ) (r : R) → Spells shape_of kind_of values_of kind bytes r
      → read_as (shape_of kind) (from kind) (body_bytes (values_of r)) ≡ Ok r
  spelled_again kind bytes r h = held_same kind r h.named (body_same (shape_of kind) bytes (values_of r) h.body)
      (spelled_held kind bytes r h)

  -- what holds of all that a shape can hold holds of what is read
  pub calls_ranged : (P : R → Type 0) (kind : Kind) (body : List ℕ) (result : Result R BodyFault)
      → ((r : R) → kind_of r ≡ Some kind → CanHoldAll (shape_in shape_of (kind_of r)) (values_of r) → P r)
      → IfOk result (λ r. Spells shape_of kind_of values_of kind body r) → IfOk result P
  calls_ranged P kind body (Ok r) law h = law r h.named (rw h.named (spelled_held kind body r h))
  calls_ranged P kind body (Err e) law h = tt

-- ## What is read by way of a part of the values

module _ {A B : Type 0} (part_of : List Value → A) (make : A → B) (from : List Value → B) where
  same_fault : (e : BodyFault) (read : Result (List Value) BodyFault) → Fails e (read >>= λ vs. Ok (part_of vs))
      → Fails e (read >>= λ vs. Ok (from vs))
  same_fault (Short place) (Err e) h = cc
  same_fault (BadString place) (Err e) h = cc
  same_fault (BadCount place) (Err e) h = cc
  same_fault (Trailing place) (Err e) h = cc
  same_fault OutOfMemory read h = tt
  same_fault (Short place) (Ok vs) h = absurd cc
  same_fault (BadString place) (Ok vs) h = absurd cc
  same_fault (BadCount place) (Ok vs) h = absurd cc
  same_fault (Trailing place) (Ok vs) h = absurd cc

  -- where what is made of the part is what is made of the values
  pub made_of_part : (read : Result (List Value) BodyFault) (result : Result A BodyFault)
      → ((vs : List Value) → make (part_of vs) ≡ from vs) → Gives (λ x. x) result (read >>= λ vs. Ok (part_of vs))
      → Gives make result (read >>= λ vs. Ok (from vs))
  made_of_part (Ok vs) (Ok x) law h = ap (λ (made : B). Ok made) (sym (law vs) ∙ ap make (ok_is (part_of vs) x h))
  made_of_part (Err e) (Ok x) law h = absurd cc
  made_of_part read (Err e) law h = same_fault e read h
