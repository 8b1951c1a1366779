use Rattle.std.proofs.Common.{◌∙◌, sym}
use Rattle.scm_tables.proofs.Offers.{all_offered, none_offered}
use Rattle.scm_tables.proofs.hosting.first_offered.Goals as goal

pub returns-then-process : goal.returns-then-process
returns-then-process c =
    c.first_sharing_in.ensures ∙ all_offered c.args.process.now c.args.path.now c.args.rows.now.services c.if-process.true

pub returns-else-process : goal.returns-else-process
returns-else-process c = sym (none_offered c.args.process.now c.args.path.now c.args.rows.now.services c.if-process.false)
