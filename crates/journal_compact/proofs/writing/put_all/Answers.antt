use Rattle.std.proofs.Common.{arith, subst}
use Rattle.std.proofs.lemmas.Grind.{common_steps}
use Rattle.std.proofs.lemmas.List.Elements.{All-more}
use Rattle.journal_compact.specs.Compact.{HasCreated}
use Rattle.journal_compact.proofs.writing.put_all.Goals as goal

pub loop-config-preserved : goal.loop-config-preserved
loop-config-preserved c = record {
  bytes = grind (arith, common_steps);
  fits = All-more HasCreated c.args.configs.now c.loop-config.config-index c.config-item.result c.loop-config-test.true
      c.loop-config.invariant.fits
      (subst HasCreated c.config-item.is c.in_ok-put_created.ensures.fits);
}
