use Rattle.trail_text.proofs.OneLine.{lines_clean, one_split}
use Rattle.trail_text.proofs.law.texts_are_split.Goals as goal

pub returns-clause-one_line : goal.returns-clause-one_line
returns-clause-one_line c = lines_clean

pub returns-clause-split : goal.returns-clause-split
returns-clause-split c = one_split
