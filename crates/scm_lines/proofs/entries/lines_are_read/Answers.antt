use Rattle.scm_lines.proofs.Again.{read_again}
use Rattle.scm_lines.proofs.entries.lines_are_read.Goals as goal

pub returns : goal.returns
returns c = read_again
