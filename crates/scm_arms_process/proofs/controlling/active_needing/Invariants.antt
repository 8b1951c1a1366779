use Rattle.scm_arms_process.proofs.controlling.active_needing.Given as goal

-- the counter's ledger is the one that the blank is of
abbrev pub ghosts-active_counted : goal.ghosts-active_counted
ghosts-active_counted a = record { name = a.blank.name; parts = a.blank.parts }
