use Rattle.std.proofs.Common.{◌∙◌, ap}
use Rattle.record_table.specs.Recorded.{Recorded}
use Rattle.scm_model.specs.declared.flat.Service.{Service}
use Rattle.scm_rules.specs.Reports.{moved_by, reported_if}
use Rattle.status_machine.specs.Moves.{take_report}
use Rattle.scm_tables.specs.Turned.{running_as}
use Rattle.scm_tables.proofs.Sleeping.{reported_elsewhere}
use Rattle.scm_tables.proofs.Turns.{altered_is, reported_here}
use Rattle.scm_tables.proofs.service_rows.report_in.Goals as goal

pub returns : goal.returns
returns c =
    let n = c.args.number in
    let report = c.args.report.now in
    ap (λ (t : Recorded). t.services) c.alter-found.ensures.table
    ∙ altered_is n (λ (row : Service). running_as (moved_by row (take_report row.status report)) row) (reported_if n report)
    (reported_here n report) (reported_elsewhere n report) c.args.rows.now.services
