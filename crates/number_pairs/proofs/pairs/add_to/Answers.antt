use Rattle.std.proofs.Common.{◌≡◌, ◌∙◌, sym, subst, insert}
use Rattle.number_pairs.specs.Keyed.{AreSorted}
use Rattle.number_pairs.proofs.Placing.{inserted_is, with_found, rising_with, absent, compare_rising}
use Rattle.number_pairs.proofs.pairs.add_to.Goals as goal

inserted : goal.returns-in-Err-clause-items
inserted c =
    let xs = c.args.list.now.items in
    let point = rw c.as_slice.ensures.value at c.in-Err.ensures.position (compare_rising xs c.args.pair c.requires.rising) in
    let le = rw c.as_slice.ensures.value at c.in-Err.ensures.bound in
    let ok = c.insert-room.ensures.succeeds (c.requires.room (absent xs c.in-Err.place c.args.pair point)) in
    let is : c.insert-room.new.self.items ≡ insert xs c.in-Err.place c.args.pair = rw ok at c.insert-room.ensures.items in
    is ∙ inserted_is xs c.in-Err.place c.args.pair point le

pub returns-in-Err-clause-items : goal.returns-in-Err-clause-items
returns-in-Err-clause-items c = inserted c

pub returns-in-Err-clause-rising : goal.returns-in-Err-clause-rising
returns-in-Err-clause-rising c = subst AreSorted (sym (inserted c)) (rising_with c.args.list.now.items c.args.pair c.requires.rising)

pub returns-in_default-clause-items : goal.returns-in_default-clause-items
returns-in_default-clause-items c =
    let found = c.in_default.ensures in
    sym (with_found c.args.list.now.items c.in_default.field-0 c.args.pair c.requires.rising
    (rw c.as_slice.ensures.value at found.bound) (rw c.as_slice.ensures.value at found.ok))
