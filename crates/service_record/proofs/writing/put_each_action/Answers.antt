use Rattle.std.proofs.Common.{arith}
use Rattle.std.proofs.lemmas.Grind.{common_steps}
use Rattle.std.proofs.lemmas.List.Elements.{All-more}
use Rattle.service_record.specs.Spelling.{IsAction}
use Rattle.service_record.proofs.writing.put_each_action.Goals as goal

pub loop-value-preserved : goal.loop-value-preserved
loop-value-preserved c = record {
  bytes = grind (arith, common_steps);
  fit = All-more IsAction c.args.actions.now c.loop-value.value-index _ c.loop-value-test.true c.loop-value.invariant.fit
      (c.in_ok-put_action.ensures.fits);
}
