use Rattle.std.proofs.Common.{◌∙◌, sym}
use Rattle.handle_table.specs.Chained.{rows_of}
use Rattle.handle_table.proofs.Chains.{as_many_rows}
use Rattle.handle_table.proofs.Sorting.{rising_is}
use Rattle.handle_table.proofs.rows.HandleRows.len.Goals as goal

pub returns-clause-len : goal.returns-clause-len
returns-clause-len c = rw (← c.self.view_is) (c.len.ensures.len ∙ sym (as_many_rows c.self.inside.nodes.entries))

pub returns-clause-rising : goal.returns-clause-rising
returns-clause-rising c = rw (← c.self.view_is) (rising_is (rows_of c.self.inside.nodes.entries) c.self.invariant.numbered)
