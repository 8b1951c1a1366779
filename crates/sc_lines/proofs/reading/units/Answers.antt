use Rattle.std.proofs.Common.{ap, sym, ◌∙◌, arith}
use Rattle.std.specs.Prelude.{◌==◌}
use Rattle.std.proofs.lemmas.Bool.{ne_eqb}
use Rattle.sc_lines.proofs.Rows.{pushed}
use Rattle.sc_lines.proofs.Units.{unit_more, unit_zero, units_end}
use Rattle.sc_lines.proofs.reading.units.Goals as goal

pub returns-then-unit-eq0 : goal.returns-then-unit-eq0
returns-then-unit-eq0 c =
    sym (unit_zero c.args.bytes.now c.loop-place.place c.loop-place.found.items c.loop-place-test.true c.from_le_bytes-unit.result
    c.from_le_bytes-unit.ensures (ap (λ x. x == 0) c.if-unit-eq0.true))
    ∙ c.loop-place.invariant.value

pub loop-place-preserved : goal.loop-place-preserved
loop-place-preserved c = record {
  value =
      unit_more c.args.bytes.now c.loop-place.place c.loop-place.found.items c.loop-place-test.true c.from_le_bytes-unit.result
      c.push.new.self.items c.from_le_bytes-unit.ensures
      (ne_eqb _ 0 (λ e. omega (arith, e, c.if-unit-eq0.false))) (pushed c.push.result _ _ _ c.push.ensures.items
      (sym c.if-is_err.ensures.value))
      ∙ c.loop-place.invariant.value;
  within = omega arith;
}

pub returns : goal.returns
returns c = sym (units_end c.args.bytes.now c.loop-place.place c.loop-place.found.items c.loop-place-test.false)
    ∙ c.loop-place.invariant.value
