use Rattle.child_link.proofs.Kept.{kept_control, kept_report}
use Rattle.child_link.proofs.cutting.kept_lines_are_read.Goals as goal

pub returns-clause-reports : goal.returns-clause-reports
returns-clause-reports c = kept_report

pub returns-clause-controls : goal.returns-clause-controls
returns-clause-controls c = kept_control
