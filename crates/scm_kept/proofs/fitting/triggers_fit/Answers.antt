use Rattle.std.proofs.lemmas.List.Elements.{All-more}
use Rattle.scm_kept.specs.Fitting.{FitsTrigger}
use Rattle.scm_kept.proofs.fitting.triggers_fit.Goals as goal

pub loop-asked-preserved : goal.loop-asked-preserved
loop-asked-preserved c =
    All-more FitsTrigger c.args.list.now c.loop-asked.asked-index _ c.loop-asked-test.true c.loop-asked.invariant c.trigger_fits.ensures
