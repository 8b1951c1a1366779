use Rattle.std.proofs.Common.{◌∙◌, List, ap, refl, ℕ}
use Rattle.scm_rules.specs.Opening.{opening}
use Rattle.scm_core.proofs.Opened.{opened_sound, texts_short}
use Rattle.scm_core.proofs.manager.Manager.new.Goals as goal

pub new-requires : goal.new-requires
new-requires c = texts_short c.args.configs c.requires.configs.checked

pub invariant_of-result : goal.invariant_of-result
invariant_of-result c =
    let flat = c.in_ok-new.ensures.flat ∙ ap (λ (groups : List (List ℕ)). opening c.args.limits groups c.args.configs c.args.moment)
    c.as_slice.ensures in
    opened_sound _ c.args.limits c.args.groups c.args.configs c.args.moment flat c.in_ok-new.ensures.limits refl refl c.requires.configs
    c.requires.limits
