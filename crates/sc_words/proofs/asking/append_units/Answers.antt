use Rattle.std.proofs.Common.{sym, ◌∙◌}
use Rattle.sc_words.proofs.Bytes.{units_more, units_end}
use Rattle.sc_words.proofs.asking.append_units.Goals as goal

pub loop-unit-preserved : goal.loop-unit-preserved
loop-unit-preserved c =
    units_more c.loop-unit.bytes c.append.new.self c.args.units.now c.loop-unit.unit-index c.loop-unit-test.true c.in_ok-append.ensures.ok
    ∙ c.loop-unit.invariant

pub returns : goal.returns
returns c = sym (units_end c.loop-unit.bytes c.args.units.now c.loop-unit.unit-index c.loop-unit-test.false) ∙ c.loop-unit.invariant
