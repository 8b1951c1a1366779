-- No plan enters a service twice.
use Rattle.std.specs.Prelude.{ℕ, ◌≡◌, true, false, All, IfSome, List}
use Rattle.std.specs.List.{Any}
use Rattle.scm_model.specs.declared.flat.Flat.{Flat}
use Rattle.scm_model.specs.declared.flat.Limits.{Limits}
use Rattle.scm_model.specs.declared.flat.Plan.{Plan}
use Rattle.scm_model.specs.declared.flat.Service.{Service}
use Rattle.scm_model.specs.declared.steps.Answer.{Answer}
use Rattle.scm_model.specs.Entries.{Entry}
use Rattle.scm_rules.specs.Steps.{at_moment, effect_of}
use Rattle.scm_runs.specs.Starts.{is_entered}
use Rattle.scm_text.specs.Numbers.{has}
use Rattle.start_plan.specs.Settle.{settle_all}

-- a plan has tried a service, and had not tried it before; it is undecided, or it succeeded
pub record TriesAnew (befores : List Plan) (service : ℕ) (plan : Plan) : Type 0 where
  pub code : IfSome plan.code (λ code. code ≡ 0)
  pub tried : has plan.tried service ≡ true
  pub new :
      All (λ (before : Plan). before.number ≡ plan.number → has before.tried service ≡ false) befores

-- the plans that a step settles, with those that leave because it decided them
abbrev pub settled_plans : Limits → Flat → Entry → List Plan
settled_plans l before e =
    let effect = (effect_of l (at_moment before e.0 e.1) e.1).flat in (settle_all l effect effect.plans).plans

-- each service that is entered is new in what some plan has tried
abbrev pub IsTriedAnew : Limits → Flat → Entry → Service → Type 0
IsTriedAnew l before e row =
    is_entered before e.1 row ≡ true → Any (TriesAnew before.plans row.number) (settled_plans l before e)

abbrev pub LawOfEntering : Limits → Flat → Entry → Answer → Flat → Type 0
LawOfEntering l before e told after = All (IsTriedAnew l before e) after.services
