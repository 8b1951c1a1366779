use Rattle.std.proofs.Common.{◌∙◌}
use Rattle.scm_tables.proofs.Currents.{asked_count}
use Rattle.scm_tables.proofs.service_rows.count_asked_in.Goals as goal

pub returns-clause-count : goal.returns-clause-count
returns-clause-count c =
    c.count_asked_of.ensures.count
    ∙ asked_count c.args.rows.now.services c.requires c.args.process c.of_process.result.now c.of_process.ensures
