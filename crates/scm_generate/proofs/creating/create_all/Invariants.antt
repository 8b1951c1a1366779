use Rattle.scm_generate.specs.Listed.{creations}
use Rattle.scm_generate.specs.Progress.{Makes}
use Rattle.scm_generate.proofs.creating.create_all.Given as goal

abbrev pub invariant-loop-before : goal.invariant-loop-before
invariant-loop-before l = Makes l.fn.run (creations l.before) l.run
