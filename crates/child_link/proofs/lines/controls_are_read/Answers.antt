use Rattle.child_link.proofs.Controls.{control_back, control_only}
use Rattle.child_link.proofs.lines.controls_are_read.Goals as goal

pub returns-clause-read : goal.returns-clause-read
returns-clause-read c = control_back

pub returns-clause-only : goal.returns-clause-only
returns-clause-only c = control_only
