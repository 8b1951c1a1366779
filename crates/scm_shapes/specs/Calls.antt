-- Calls as bodies: what a body asks or tells is made of the values of its shape.
use Rattle.std.specs.Prelude.{◌≡◌, ℕ, List, [], Option, None, Some, Result, Ok}
use Rattle.ndr_body.specs.declared.fault.BodyFault.{BodyFault}
use Rattle.ndr_body.specs.Reading.{◌>>=◌}
use Rattle.scm_shapes.specs.declared.item.Item.{Item}
use Rattle.scm_shapes.specs.declared.item.Value.{Value}
use Rattle.scm_shapes.specs.Shapes.{body_values, fitted}
use Rattle.scm_shapes.specs.Bodies.{IsBody}

-- what a body of a shape is read as, or the first fault
abbrev pub read_as : {R : Type 0} → List Item → (List Value → R) → List ℕ → Result R BodyFault
read_as shape from body = body_values shape body >>= λ vs. Ok (from vs)

-- bytes are a body of this kind, and hold r
pub record Spells {Kind R : Type 0} (shape_of : Kind → List Item) (kind_of : R → Option Kind) (values_of : R → List Value) (kind : Kind)
    (bytes : List ℕ) (r : R) : Type 0 where
  pub named : kind_of r ≡ Some kind
  pub body : IsBody (shape_of kind) bytes (values_of r)

-- the shape of a kind, and what is made of values of that kind; what has no kind here has no values and is left as it is
abbrev pub shape_in : {Kind : Type 0} → (Kind → List Item) → Option Kind → List Item
shape_in shape_of None = []
shape_in shape_of (Some kind) = shape_of kind

abbrev pub made_in : {Kind R : Type 0} → (Kind → List Value → R) → Option Kind → List Value → R → R
made_in from None vs r = r
made_in from (Some kind) vs r = from kind vs

-- Kinds of bodies, what is made of their values, and which values that has: both ways nothing is lost.
pub record Codec {Kind R : Type 0} (shape_of : Kind → List Item) (from : Kind → List Value → R) (kind_of : R → Option Kind) (values_of : R
    → List Value) : Type 0 where
  pub again : (r : R) → made_in from (kind_of r) (values_of r) r ≡ r
  pub kept : (kind : Kind) (vs : List Value) → values_of (from kind vs) ≡ fitted (shape_of kind) vs
  pub named : (kind : Kind) (vs : List Value) → kind_of (from kind vs) ≡ Some kind
