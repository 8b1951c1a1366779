use Rattle.opening_lines.proofs.Again.{config_again, group_again, limits_again, moment_again}
use Rattle.opening_lines.proofs.law.heads_are_read.Goals as goal

pub returns-clause-limits : goal.returns-clause-limits
returns-clause-limits c = limits_again

pub returns-clause-moment : goal.returns-clause-moment
returns-clause-moment c = moment_again

pub returns-clause-group : goal.returns-clause-group
returns-clause-group c = group_again

pub returns-clause-config : goal.returns-clause-config
returns-clause-config c = config_again
