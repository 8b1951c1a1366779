use Rattle.std.proofs.Common.{ℕ, ◌∙◌, cond, List, take, sym, ap}
use Rattle.number_lists.specs.Rising.{with_number}
use Rattle.number_lists.specs.UnderName.{at}
use Rattle.dependency_index.specs.Naming.{is_for}
use Rattle.dependency_index.specs.Kept.{name_it}
use Rattle.dependency_index.proofs.Shelves.{any_more, step_with}
use Rattle.dependency_index.proofs.keeping.enlist.Goals as goal

pub loop-need-preserved : goal.loop-need-preserved
loop-need-preserved c = record {
  at = λ (name : List ℕ).
      step_with (name_it name (take c.loop-need.need-index c.args.needs.now)) (is_for name c.need-item.result) (at c.args.lists.now name)
      (at c.loop-need.lists name) (at c.enlist_one.new.lists name) c.args.number
      (c.loop-need.invariant.at name) (c.enlist_one.ensures.at name)
      ∙ ap (λ b. cond b (with_number (at c.args.lists.now name) c.args.number) (at c.args.lists.now name))
      (sym (any_more (is_for name) c.args.needs.now c.loop-need.need-index c.need-item.result c.loop-need-test.true c.need-item.is));
  room = λ (name : List ℕ) named. c.enlist_one.ensures.room name (c.loop-need.invariant.room name named);
}
