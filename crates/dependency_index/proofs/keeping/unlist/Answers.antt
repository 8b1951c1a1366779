use Rattle.std.proofs.Common.{ℕ, ◌∙◌, cond, List, take, sym, ap, arith}
use Rattle.number_lists.specs.Rising.{without_number}
use Rattle.number_lists.specs.UnderName.{at}
use Rattle.dependency_index.specs.Naming.{is_for}
use Rattle.dependency_index.specs.Kept.{name_it}
use Rattle.dependency_index.proofs.Shelves.{any_more, step_without}
use Rattle.dependency_index.proofs.keeping.unlist.Goals as goal

pub loop-need-preserved : goal.loop-need-preserved
loop-need-preserved c = record {
  at = λ (name : List ℕ).
      step_without (name_it name (take c.loop-need.need-index c.args.needs.now)) (is_for name c.need-item.result)
      (at c.args.lists.now name) (at c.loop-need.lists name) (at c.unlist_one.new.lists name) c.args.number
      (c.loop-need.invariant.at name) (c.unlist_one.ensures.at name)
      ∙ ap (λ b. cond b (without_number (at c.args.lists.now name) c.args.number) (at c.args.lists.now name))
      (sym (any_more (is_for name) c.args.needs.now c.loop-need.need-index c.need-item.result c.loop-need-test.true c.need-item.is));
  room = λ (name : List ℕ). omega (arith, c.loop-need.invariant.room name, c.unlist_one.ensures.room name);
}
