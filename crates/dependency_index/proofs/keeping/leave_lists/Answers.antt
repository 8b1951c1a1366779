use Rattle.std.proofs.Common.{ℕ, ◌∙◌, cond, List, sym, ap}
use Rattle.number_lists.specs.Rising.{without_number}
use Rattle.dependency_index.specs.Naming.{names}
use Rattle.dependency_index.specs.Kept.{row_has_name, row_in_group, called_of, naming_of, members_of}
use Rattle.dependency_index.proofs.Shelves.{left, none_leaves}
use Rattle.dependency_index.proofs.keeping.leave_lists.Goals as goal

pub returns-in-Some-clause-lists : goal.returns-in-Some-clause-lists
returns-in-Some-clause-lists c =
    let rows = c.args.rows.now.items in
    let row = c.in-Some.row.now in
    let n = c.args.service in
    let found = sym c.in-Some.ensures in
    let unlisted = rw c.as_slice.ensures at c.unlist.ensures.at in
    record {
      called = λ (name : List ℕ).
          c.remove.ensures.changes.lists name ∙ ap (λ l. cond (row_has_name name row) (without_number l n) l) (c.requires.lists.called name)
          ∙ left (row_has_name name) rows row n c.requires.rising found;
      named = λ (name : List ℕ).
          unlisted name ∙ ap (λ l. cond (names name row) (without_number l n) l) (c.requires.lists.named name)
          ∙ left (names name) rows row n c.requires.rising found;
      grouped = λ (group : List ℕ).
          c.remove-in-Some.ensures.changes.lists group ∙ ap (λ l. cond (row_in_group group row) (without_number l n) l)
          (c.requires.lists.grouped group) ∙ left (row_in_group group) rows row n c.requires.rising found;
    }

pub returns-in_default-clause-lists : goal.returns-in_default-clause-lists
returns-in_default-clause-lists c =
    let rows = c.args.rows.now.items in
    let same = sym (none_leaves c.args.service rows (sym c.in_default.ensures)) in
    record {
      called = λ (name : List ℕ). c.requires.lists.called name ∙ ap (λ rs. called_of rs name) same;
      named = λ (name : List ℕ). c.requires.lists.named name ∙ ap (λ rs. naming_of rs name) same;
      grouped = λ (group : List ℕ). c.requires.lists.grouped group ∙ ap (λ rs. members_of rs group) same;
    }
