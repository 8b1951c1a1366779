-- What becomes of a buffer that a body is appended to.
use Rattle.std.specs.Prelude.{◌≡◌, ◌≤◌, ◌++◌, ℕ, List, length, Result, IfOk, IfErr, IsOk}
use Rattle.scm_text.specs.Roomed.{Roomed}
use Rattle.scm_shapes.specs.declared.item.Value.{Value}
use Rattle.scm_shapes.specs.Shapes.{body_bytes}

-- the body of the values follows what the buffer held; if memory runs out, the buffer is given back as it was; no memory is taken if
-- there is room
pub record IsWritten {E : Type 0} (vs : List Value) (out : Roomed ℕ) (result : Result (Roomed ℕ) (E × Roomed ℕ)) : Type 0 where
  pub ok : IfOk result (λ written. written.items ≡ out.items ++ body_bytes vs)
  pub err : IfErr result (λ failed. failed.1.items ≡ out.items)
  pub enough : length (body_bytes vs) ≤ out.room → IsOk result
