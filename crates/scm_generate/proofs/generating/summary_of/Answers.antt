use Rattle.scm_generate.specs.Listed.{generated}
use Rattle.scm_generate.proofs.Ends.{open_first, told_of}
use Rattle.scm_generate.proofs.generating.summary_of.Goals as goal

pub summed_up-text-requires-clause-open : goal.summed_up-text-requires-clause-open
summed_up-text-requires-clause-open c = open_first c.args.limits c.args.services c.in_ok-run.run' c.requires.small c.requires.ample
    c.requires.few c.in_ok-run.ensures

pub returns : goal.returns
returns c = told_of c.args.limits c.in_ok-run.run' (generated c.args.services) c.summed_up-text.result c.in_ok-run.ensures
    c.summed_up-text.ensures
