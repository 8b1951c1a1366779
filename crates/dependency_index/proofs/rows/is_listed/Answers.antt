use Rattle.std.proofs.Common.{ap, sym, ◌∙◌}
use Rattle.std.specs.Prelude.{is_some}
use Rattle.dependency_index.proofs.Shelves.{copied, found_is}
use Rattle.dependency_index.proofs.rows.is_listed.Goals as goal

pub returns : goal.returns
returns c =
    c.is_some.ensures ∙ sym (copied c.row_of.result) ∙ ap is_some c.row_of.ensures ∙ found_is c.args.number c.args.rows.now.items
