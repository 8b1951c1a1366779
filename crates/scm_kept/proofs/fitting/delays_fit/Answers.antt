use Rattle.std.proofs.lemmas.List.Elements.{All-more}
use Rattle.scm_kept.specs.Fitting.{FitsDelay}
use Rattle.scm_kept.proofs.fitting.delays_fit.Goals as goal

pub loop-action-preserved : goal.loop-action-preserved
loop-action-preserved c =
    All-more FitsDelay c.args.actions.now c.loop-action.action-index _ c.loop-action-test.true c.loop-action.invariant c.delay_fits.ensures
