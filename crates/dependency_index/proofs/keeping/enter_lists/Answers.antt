use Rattle.std.proofs.Common.{ℕ, ◌∙◌, cond, List, sym, ap}
use Rattle.number_lists.specs.Rising.{with_number}
use Rattle.dependency_index.specs.Naming.{names}
use Rattle.dependency_index.specs.Kept.{row_has_name, row_in_group, row_from}
use Rattle.dependency_index.proofs.Shelves.{put_lists}
use Rattle.dependency_index.proofs.keeping.enter_lists.Goals as goal

pub returns : goal.returns
returns c rows rising next lists =
    let n = c.args.service in
    let new = row_from c.args.spare.now n in
    let enlisted = rw c.as_slice.ensures at c.enlist.ensures in
    record {
      called = λ (name : List ℕ).
          c.add.ensures.lists name ∙ ap (λ l. cond (row_has_name name new) (with_number l n) l) (lists.called name)
          ∙ sym (put_lists (row_has_name name) rows new rising next);
      named = λ (name : List ℕ).
          enlisted name ∙ ap (λ l. cond (names name new) (with_number l n) l) (lists.named name)
          ∙ sym (put_lists (names name) rows new rising next);
      grouped = λ (group : List ℕ).
          c.add-2.ensures.lists group ∙ ap (λ l. cond (row_in_group group new) (with_number l n) l) (lists.grouped group)
          ∙ sym (put_lists (row_in_group group) rows new rising next);
    }
