use Rattle.std.proofs.Common.{sym, ◌∙◌}
use Rattle.sc_lines.proofs.Ends.{printed_end}
use Rattle.sc_lines.proofs.printing.printed.Goals as goal

pub returns : goal.returns
returns c = sym (printed_end _ c.args.units.now c.loop-at.at c.loop-at-test.false) ∙ c.loop-at.invariant
