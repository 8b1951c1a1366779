use Rattle.trail_text.proofs.Right.{counted, none_wrong, untold, whole_told}
use Rattle.trail_text.proofs.law.texts_are_judged.Goals as goal

pub returns-clause-whole : goal.returns-clause-whole
returns-clause-whole c = whole_told

pub returns-clause-counted : goal.returns-clause-counted
returns-clause-counted c = counted

pub returns-clause-none_wrong : goal.returns-clause-none_wrong
returns-clause-none_wrong c = none_wrong

pub returns-clause-unfinished : goal.returns-clause-unfinished
returns-clause-unfinished c = untold
