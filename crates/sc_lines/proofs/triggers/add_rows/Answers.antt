use Rattle.std.proofs.Common.{sym, ◌∙◌}
use Rattle.sc_lines.specs.Triggers.{trigger_lines}
use Rattle.sc_lines.proofs.Rows.{row_more, row_end}
use Rattle.sc_lines.proofs.triggers.add_rows.Goals as goal

pub loop-row-preserved : goal.loop-row-preserved
loop-row-preserved c =
    row_more trigger_lines (λ row. row.now) c.args.list.now c.loop-row.row-index _ c.loop-row.text c.add_trigger.new.text
    c.loop-row-test.true c.in_ok-add_trigger.ensures
    ∙ c.loop-row.invariant

pub returns : goal.returns
returns c = sym (row_end trigger_lines (λ row. row.now) c.args.list.now c.loop-row.row-index c.loop-row.text c.loop-row-test.false)
    ∙ c.loop-row.invariant
