use Rattle.number_pairs.proofs.Under.{numbers_rise}
use Rattle.number_pairs.proofs.pairs.NumberPairs.at.Goals as goal

pub returns-clause-rising : goal.returns-clause-rising
returns-clause-rising c = rw (← c.self.view_is) (numbers_rise c.args.key c.self.inside.list.items c.self.invariant)
