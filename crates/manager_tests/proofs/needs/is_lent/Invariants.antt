use Rattle.manager_tests.proofs.needs.is_lent.Given as goal

-- the counter's ledger is the one that the blank is of
abbrev pub ghosts-active : goal.ghosts-active
ghosts-active a = record { name = a.blank.name; parts = a.blank.parts }
