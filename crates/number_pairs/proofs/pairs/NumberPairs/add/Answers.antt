use Rattle.std.proofs.Common.{◌≤◌, ◌+◌, ◌∙◌, ap, length, arith}
use Rattle.number_pairs.specs.Keyed.{numbers_under}
use Rattle.number_pairs.proofs.Placing.{one_more}
use Rattle.number_pairs.proofs.Under.{put_under}
use Rattle.number_pairs.proofs.pairs.NumberPairs.add.Goals as goal

pub returns-clause-under : goal.returns-clause-under
returns-clause-under c other =
    ap (numbers_under other) c.add_to.ensures.items
    ∙ rw (← c.self.view_is) (put_under c.self.inside.list.items c.args.pair c.self.invariant other)

pub returns-clause-room : goal.returns-clause-room
returns-clause-room c =
    let few : length c.add_to.new.list.items ≤ length c.self.inside.list.items + 1 =
    rw c.add_to.ensures.items (one_more c.self.inside.list.items c.args.pair) in
    rw (← c.self.view_is) (omega (arith, few, c.add_to.ensures.capacity))
