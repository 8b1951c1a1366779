use Rattle.std.proofs.Common.{ap, ◌∙◌}
use Rattle.scm_model.specs.declared.flat.Flat.{Flat}
use Rattle.scm_rules.specs.Launches.{with_fallen, without_process}
use Rattle.scm_arms_start.proofs.starting.fail_launch.Goals as goal

pub returns-clause-flat : goal.returns-clause-flat
returns-clause-flat c =
    c.remove_process.ensures.flat
    ∙ ap (λ (f : Flat). without_process f c.args.process)
    (c.fall.ensures.flat ∙ ap (λ (f : Flat). with_fallen f c.args.process c.args.code) c.decide_for.ensures.flat)
