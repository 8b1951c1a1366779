-- A step is its effect, then the plans are settled, a start that this decided is answered, and marked services leave.
use Rattle.std.proofs.Common.{ℕ, ◌≡◌, ◌∙◌, ap}
use Rattle.scm_model.specs.declared.flat.Flat.{Flat}
use Rattle.scm_model.specs.declared.flat.Limits.{Limits}
use Rattle.scm_model.specs.declared.steps.Answer.{Answer}
use Rattle.scm_model.specs.declared.steps.Step.{Step}
use Rattle.scm_model.specs.Purge.{purged}
use Rattle.start_plan.specs.Settle.{settled}
use Rattle.scm_rules.specs.Steps.{at_moment, effect_of, finished, step_of}

pub acted : (l after beside : Limits) (f begun done rested last left : Flat) (moment : ℕ) (step : Step) (told : Answer)
    → begun ≡ at_moment f moment step → after ≡ l
    → done ≡ (effect_of after begun step).flat → told ≡ (effect_of after begun step).answer → beside ≡ after
    → rested ≡ settled beside done → last ≡ (finished rested told).flat → left ≡ purged last
    → left ≡ (step_of l f moment step).flat
acted l after beside f begun done rested last left moment step told is same does tells still rests ends leaves =
    let begins : Flat = at_moment f moment step in
    let does_so : done ≡ (effect_of l begins step).flat =
    does ∙ ap (λ (k : Limits). (effect_of k begun step).flat) same ∙ ap (λ (g : Flat). (effect_of l g step).flat) is
    in
    let tells_so : told ≡ (effect_of l begins step).answer =
    tells ∙ ap (λ (k : Limits). (effect_of k begun step).answer) same ∙ ap (λ (g : Flat). (effect_of l g step).answer) is
    in
    let rests_so : rested ≡ settled l (effect_of l begins step).flat =
    rests ∙ ap (λ (k : Limits). settled k done) (still ∙ same) ∙ ap (λ (g : Flat). settled l g) does_so
    in
    leaves ∙ ap purged (ends ∙ ap (λ (g : Flat). (finished g told).flat) rests_so
    ∙ ap (λ (a : Answer). (finished (settled l (effect_of l begins step).flat) a).flat) tells_so)
