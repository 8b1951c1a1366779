use Rattle.trail_text.proofs.Right.{first_wrong, front_leads, right}
use Rattle.trail_text.proofs.law.lines_are_judged.Goals as goal

pub returns-clause-right : goal.returns-clause-right
returns-clause-right c = right

pub returns-clause-wrong : goal.returns-clause-wrong
returns-clause-wrong c = first_wrong

pub returns-clause-fronts : goal.returns-clause-fronts
returns-clause-fronts c = front_leads
