use Rattle.scm_listener.proofs.spare.+can_start_at.Given as goal

abbrev pub decreases-can_start_at : goal.decreases-can_start_at
decreases-can_start_at g l = l.count
