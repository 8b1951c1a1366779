use Rattle.child_link.proofs.Reports.{read_back, read_only}
use Rattle.child_link.proofs.lines.reports_are_read.Goals as goal

pub returns-clause-read : goal.returns-clause-read
returns-clause-read c = read_back

pub returns-clause-only : goal.returns-clause-only
returns-clause-only c = read_only
