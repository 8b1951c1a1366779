use Rattle.scm_model.specs.declared.flat.Phase.TheVariants as phases
use Rattle.book_tests.proofs.ringing.ends.Goals as goal

pub reports-is_stopped-requires-clause-process : goal.reports-is_stopped-requires-clause-process
reports-is_stopped-requires-clause-process g c =
    c.look-control.ensures.keeps.processes c.args.process phases.Launched c.requires.process
