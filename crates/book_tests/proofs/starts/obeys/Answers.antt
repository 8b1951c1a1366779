use Rattle.scm_model.specs.declared.flat.Phase.TheVariants as phases
use Rattle.book_tests.proofs.starts.obeys.Goals as goal

pub report-is_stopped-requires-clause-process : goal.report-is_stopped-requires-clause-process
report-is_stopped-requires-clause-process g c =
    c.look-control.ensures.keeps.processes c.args.process phases.Launched
    (c.look-none.ensures.keeps.processes c.args.process phases.Launched c.report-is_running.ensures.process)
