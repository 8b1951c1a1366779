use Rattle.std.proofs.Common.{ℕ, List, ◌∷◌, map, subst}
use Rattle.scm_shapes.specs.Written.{IsWritten}
use Rattle.scm_shapes.specs.declared.item.Value.TheVariants as value
use Rattle.scm_calls.proofs.calls.put_status.Goals as goal

pub returns : goal.returns
returns c =
    subst (λ (numbers : List ℕ). IsWritten (value.Handle c.args.handle ∷ map value.Number numbers) c.args.out c.write_handle.result)
    c.numbers.ensures c.write_handle.ensures
