use Rattle.std.proofs.Common.{◌∙◌, None, Some}
use Rattle.scm_tables.specs.Offering.{shares_in}
use Rattle.scm_tables.proofs.Currents.{first_with}
use Rattle.scm_tables.proofs.hosting.first_sharing_in.Goals as goal

pub returns-in_err-pair : goal.returns-in_err-pair
returns-in_err-pair c =
    rw c.from_residual.ensures
    (first_with c.args.rows.now.services c.requires c.args.process c.of_process.result.now c.of_process.ensures
    (shares_in c.args.path.now) None c.in_err-pair.ensures)

pub returns : goal.returns
returns c =
    c.get.ensures
    ∙ first_with c.args.rows.now.services c.requires c.args.process c.of_process.result.now c.of_process.ensures
    (shares_in c.args.path.now) (Some c.in_ok-pair.pair.now) c.in_ok-pair.ensures
