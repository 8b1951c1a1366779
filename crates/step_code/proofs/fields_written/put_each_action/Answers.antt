use Rattle.std.proofs.Common.{arith}
use Rattle.std.proofs.lemmas.Grind.{common_steps}
use Rattle.std.proofs.lemmas.List.Elements.{All-more}
use Rattle.step_code.specs.Fits.{IsAction}
use Rattle.step_code.proofs.fields_written.put_each_action.Goals as goal

pub loop-value-preserved : goal.loop-value-preserved
loop-value-preserved c = record {
  bytes = grind (arith, common_steps);
  room = grind (arith, common_steps);
  fit = All-more IsAction c.args.actions.now c.loop-value.value-index _ c.loop-value-test.true c.loop-value.invariant.fit
      c.put_action.ensures.fits;
}
