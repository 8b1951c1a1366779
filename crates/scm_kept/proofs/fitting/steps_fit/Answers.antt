use Rattle.std.proofs.Common.{All, subst}
use Rattle.std.proofs.lemmas.List.{take_all}
use Rattle.std.proofs.lemmas.List.Elements.{All-more, recursion_from_All}
use Rattle.scm_model.specs.Entries.{Entry}
use Rattle.scm_kept.specs.Fitting.{FitsStep}
use Rattle.scm_kept.proofs.fitting.steps_fit.Goals as goal

pub loop-entry-preserved : goal.loop-entry-preserved
loop-entry-preserved c =
    All-more (λ (e : Entry). FitsStep e.1) c.args.steps.now c.loop-entry.entry-index c.entry-item.result c.loop-entry-test.true
    c.loop-entry.invariant
    (subst (λ (e : Entry). FitsStep e.1) c.entry-item.is c.step_fits.ensures)

pub returns : goal.returns
returns c =
    let Fits = λ (e : Entry). FitsStep e.1 in
    recursion_from_All Fits c.args.steps.now
    (subst (All Fits) (take_all c.loop-entry.entry-index c.args.steps.now c.loop-entry-test.false) c.loop-entry.invariant)
