use Rattle.std.proofs.Common.{◌≡◌, take}
use Rattle.std.specs.Prelude.{option_copied}
use Rattle.scm_tables.proofs.Offers.{first_of}
use Rattle.scm_tables.proofs.hosting.first_offering.Given as goal

-- the first of those that live in the processes so far
abbrev pub invariant-loop-process : goal.invariant-loop-process
invariant-loop-process l = option_copied l.first ≡ first_of (take l.process-index l.processes) l.path l.rows.services
