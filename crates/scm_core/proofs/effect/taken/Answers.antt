use Rattle.std.proofs.Common.{◌∙◌}
use Rattle.scm_core.proofs.effect.taken.Goals as goal

pub unreachable-requires : goal.unreachable-requires
unreachable-requires c = c.in_default.not-Create c.requires.0 (c.replace-request.ensures.value ∙ c.requires.1)
