-- Numbers of plans that are begun one after another.
use Rattle.std.proofs.Common.{ℕ, ◌≡◌, ◌+◌, ◌++◌, ◌<◌, List, [], ◌∷◌, arith}
use Rattle.std.specs.List.{All}
use Rattle.std.proofs.lemmas.List.Elements.{All-append, All-cons, All-nil}
use Rattle.scm_model.specs.declared.flat.Plan.{Plan}

-- the number after this one is above all plans once the plan with this one is begun
pub below_next : (number : ℕ) (plans : List Plan) (plan : Plan) → plan.number ≡ number → All (λ (p : Plan). p.number < number) plans
    → All (λ (p : Plan). p.number < number + 1) (plans ++ plan ∷ [])
below_next number plans plan is below =
    All-append (λ (p : Plan). p.number < number + 1) plans (plan ∷ []) (λ place default listed. omega (arith, below place default listed))
    (All-cons (λ (p : Plan). p.number < number + 1) plan [] (omega (arith, is)) (All-nil (λ (p : Plan). p.number < number + 1)))
