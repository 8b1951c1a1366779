use Rattle.std.proofs.Common.{ℕ, ◌∙◌, List, ap, nat_lt}
use Rattle.std.specs.Prelude.{slice_get}
use Rattle.dependency_index.proofs.Reaching.{first_found}
use Rattle.dependency_index.proofs.dependents.first_behind.Goals as goal

pub returns-in-Some : goal.returns-in-Some
returns-in-Some c =
    rw c.in-Some.is (c.copied.ensures ∙ (c.first.ensures.value ∙ (ap (λ (ns : List ℕ). slice_get ns 0) c.above.ensures
    ∙ first_found (nat_lt c.in-Some.last) c.args.numbers.now)))
