use Rattle.scm_generate.specs.Listed.{ups}
use Rattle.scm_generate.specs.Progress.{Makes}
use Rattle.scm_generate.proofs.starting.ups.Given as goal

abbrev pub invariant-loop-before : goal.invariant-loop-before
invariant-loop-before l = Makes l.fn.run (ups l.first l.before) l.run
