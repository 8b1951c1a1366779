use Rattle.std.proofs.Common.{◌∙◌}
use Rattle.service_listing.proofs.Measured.{behind_drop, behind_take}
use Rattle.service_listing.proofs.sizes.fitting.Goals as goal

pub returns-clause-page : goal.returns-clause-page
returns-clause-page c = behind_take c.fitting_of.result c.args.services.now ∙ c.fitting_of.ensures.page

pub returns-clause-left : goal.returns-clause-left
returns-clause-left c = behind_drop c.fitting_of.result c.args.services.now ∙ c.fitting_of.ensures.left
