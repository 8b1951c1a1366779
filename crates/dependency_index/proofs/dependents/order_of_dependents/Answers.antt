use Rattle.std.proofs.Common.{arith, ◌∙◌, [], ap, reverse, length}
use Rattle.std.proofs.lemmas.List.{length-reverse}
use Rattle.scm_model.specs.Needs.{numbers_of}
use Rattle.dependency_index.specs.Dependents.{named_by}
use Rattle.dependency_index.proofs.Grown.{all_grow}
use Rattle.dependency_index.proofs.Rooms.{few}
use Rattle.dependency_index.proofs.Sifted.{order_is, sift_is}
use Rattle.dependency_index.proofs.dependents.order_of_dependents.Goals as goal

pub returns-clause-order : goal.returns-clause-order
returns-clause-order c =
    let rows = c.args.index.now.rows in
    let none = c.requires.acyclic in
    let e = c.reach_every.new.done.items in
    let all = c.reach_every.ensures.order in
    let transitive_dependents = sift_is rows none c.args.target [] e (all_grow (named_by rows) (length rows) (numbers_of rows) e all)
    c.reach_every.ensures.room.within.listed in
    let order = order_is rows none c.args.target e all in
    c.reverse.ensures.items ∙ ap reverse (c.sift.ensures.items ∙ transitive_dependents ∙ order)

pub returns-clause-few : goal.returns-clause-few
returns-clause-few c =
    let all = few c.args.index.now.rows c.reach_every.new.done.items c.reach_every.ensures.room.within in
    rw c.reverse.ensures.items (rw length-reverse (omega (arith, all, c.sift.ensures.few)))
