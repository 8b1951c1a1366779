use Rattle.std.proofs.Common.{◌∙◌, ap, not, eqb}
use Rattle.handle_table.specs.Handled.{is_row_of}
use Rattle.handle_table.proofs.Counting.{some_counted}
use Rattle.handle_table.proofs.table.HandleTable.is_open.Goals as goal

pub returns : goal.returns
returns c = ap (λ n. not (eqb n 0)) c.count_of.ensures ∙ some_counted (is_row_of c.args.service) c.args.self.now.rows
