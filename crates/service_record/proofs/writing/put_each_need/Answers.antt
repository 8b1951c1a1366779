use Rattle.std.proofs.Common.{arith, subst}
use Rattle.std.proofs.lemmas.Grind.{common_steps}
use Rattle.std.proofs.lemmas.List.Elements.{All-more}
use Rattle.service_record.specs.Spelling.{IsNeed}
use Rattle.service_record.proofs.writing.put_each_need.Goals as goal

pub loop-value-preserved : goal.loop-value-preserved
loop-value-preserved c = record {
  bytes = grind (arith, common_steps);
  fit = All-more IsNeed c.args.needs.now c.loop-value.value-index c.value-item.result c.loop-value-test.true c.loop-value.invariant.fit
      (subst IsNeed c.value-item.is c.in_ok-put_need.ensures.fits);
}
