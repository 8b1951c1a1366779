use Rattle.std.proofs.Common.{arith}
use Rattle.std.proofs.lemmas.Grind.{common_steps}
use Rattle.std.proofs.lemmas.List.Elements.{All-more}
use Rattle.service_record.specs.Spelling.{IsTrigger}
use Rattle.service_record.proofs.writing.put_each_trigger.Goals as goal

pub loop-value-preserved : goal.loop-value-preserved
loop-value-preserved c = record {
  bytes = grind (arith, common_steps);
  fit = All-more IsTrigger c.args.triggers.now c.loop-value.value-index _ c.loop-value-test.true c.loop-value.invariant.fit
      (c.in_ok-put_trigger.ensures.fits);
}
