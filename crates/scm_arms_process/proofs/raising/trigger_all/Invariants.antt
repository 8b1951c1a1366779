use Rattle.scm_arms_process.proofs.Triggers.{Goes}
use Rattle.scm_arms_process.proofs.raising.trigger_all.Given as goal

-- the services that are left come to what all come to
abbrev pub invariant-loop-place : goal.invariant-loop-place
invariant-loop-place l = Goes l.fn.tables.limits l.subtype l.fn.tables.flat.services l.fn.tables.flat l.place l.tables
