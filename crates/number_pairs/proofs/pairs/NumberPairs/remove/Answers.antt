use Rattle.std.proofs.Common.{◌≡◌, ◌≤◌, ◌+◌, ◌∙◌, ap, length, arith, true}
use Rattle.number_pairs.specs.Keyed.{numbers_under, has_pair}
use Rattle.number_pairs.proofs.Placing.{no_more, fewer}
use Rattle.number_pairs.proofs.Under.{drop_under}
use Rattle.number_pairs.proofs.pairs.NumberPairs.remove.Goals as goal

pub returns-clause-under : goal.returns-clause-under
returns-clause-under c other =
    ap (numbers_under other) c.drop_from.ensures.items
    ∙ rw (← c.self.view_is) (drop_under c.self.inside.list.items c.args.pair other)

pub returns-clause-room : goal.returns-clause-room
returns-clause-room c =
    let few : length c.drop_from.new.list.items ≤ length c.self.inside.list.items =
    rw c.drop_from.ensures.items (no_more c.self.inside.list.items c.args.pair) in
    rw (← c.self.view_is) (omega (arith, few, c.drop_from.ensures.capacity))

pub returns-clause-freed : goal.returns-clause-freed
returns-clause-freed c has =
    let there : has_pair c.self.inside.list.items c.args.pair ≡ true = rw (← c.self.view_is) at has in
    let few : length c.drop_from.new.list.items + 1 ≤ length c.self.inside.list.items =
    rw c.drop_from.ensures.items (fewer c.self.inside.list.items c.args.pair there) in
    rw (← c.self.view_is) (omega (arith, few, c.drop_from.ensures.capacity))
