use Rattle.std.proofs.Common.{◌∙◌, None, Some}
use Rattle.scm_tables.specs.Asked.{asked_in}
use Rattle.scm_tables.proofs.Currents.{first_with}
use Rattle.scm_tables.proofs.service_rows.first_asked_in.Goals as goal

pub returns-in_err-pair : goal.returns-in_err-pair
returns-in_err-pair c =
    rw c.from_residual.ensures
    (first_with c.args.rows.now.services c.requires c.args.process c.of_process.result.now c.of_process.ensures asked_in None
    c.in_err-pair.ensures)

pub returns : goal.returns
returns c =
    c.get.ensures
    ∙ first_with c.args.rows.now.services c.requires c.args.process c.of_process.result.now c.of_process.ensures asked_in
    (Some c.in_ok-pair.pair.now) c.in_ok-pair.ensures
