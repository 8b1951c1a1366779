use Rattle.std.proofs.Common.{◌==◌}
use Rattle.std.proofs.lemmas.List.Splits.{slice_split_none}
use Rattle.child_link.proofs.Splits.{split_part}
use Rattle.child_link.proofs.words.first_word.Goals as goal

pub returns-in-Some : goal.returns-in-Some
returns-in-Some c = split_part c.args.text.now c.in-Some.place c.in-Some.ensures.space.0 c.in-Some.ensures.space.1

pub returns-in-None : goal.returns-in-None
returns-in-None c = slice_split_none (λ b. b == 32) c.args.text.now c.in-None.ensures.none
