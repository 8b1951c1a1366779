use Rattle.std.proofs.Common.{◌∙◌, sym, subst}
use Rattle.number_pairs.specs.Keyed.{AreSorted}
use Rattle.number_pairs.proofs.Placing.{removed_is, absent_is, rising_without, compare_rising}
use Rattle.number_pairs.proofs.pairs.drop_from.Goals as goal

removed : goal.returns-in-Ok-clause-items
removed c =
    let found = c.in-Ok.ensures in
    c.remove.ensures.items
    ∙ removed_is c.args.list.now.items c.in-Ok.place c.args.pair c.requires.rising
    (rw c.as_slice.ensures.value at found.bound) (rw c.as_slice.ensures.value at found.ok)

pub returns-in-Ok-clause-items : goal.returns-in-Ok-clause-items
returns-in-Ok-clause-items c = removed c

pub returns-in-Ok-clause-rising : goal.returns-in-Ok-clause-rising
returns-in-Ok-clause-rising c = subst AreSorted (sym (removed c)) (rising_without c.args.list.now.items c.args.pair c.requires.rising)

pub returns-in_default-clause-items : goal.returns-in_default-clause-items
returns-in_default-clause-items c =
    let point = rw (c.in_default.is, c.as_slice.ensures.value) at c.binary_search.ensures.position
    (compare_rising c.args.list.now.items c.args.pair c.requires.rising) in
    sym (absent_is c.args.list.now.items c.in_default.field-0 c.args.pair point)
