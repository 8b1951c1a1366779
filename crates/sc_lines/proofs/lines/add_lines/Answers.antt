use Rattle.std.proofs.Common.{sym, ◌∙◌}
use Rattle.sc_lines.specs.Lines.{field_text, lines, seen_line}
use Rattle.sc_lines.proofs.Rows.{row_more, row_end}
use Rattle.sc_lines.proofs.lines.add_lines.Goals as goal

pub loop-line-preserved : goal.loop-line-preserved
unfolding lines
loop-line-preserved c =
    row_more field_text seen_line c.args.list.now c.loop-line.line-index _ c.loop-line.text c.add_line.new.text c.loop-line-test.true
    c.in_ok-add_line.ensures
    ∙ c.loop-line.invariant

pub returns : goal.returns
unfolding lines
returns c = sym (row_end field_text seen_line c.args.list.now c.loop-line.line-index c.loop-line.text c.loop-line-test.false)
    ∙ c.loop-line.invariant
