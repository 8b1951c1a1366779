use Rattle.scm_model.specs.declared.flat.Phase.TheVariants as phases
use Rattle.scm_book.specs.Passes.{HoldsProcess, IsOf}
use Rattle.book_tests.proofs.starts.report.Given as goal

abbrev pub invariant-loop-state : goal.invariant-loop-state
invariant-loop-state g l = IsOf l.book l.pass × HoldsProcess l.book.opening l.pass l.process phases.Launched
