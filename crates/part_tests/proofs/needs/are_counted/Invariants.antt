use Rattle.part_tests.proofs.needs.are_counted.Given as goal

-- the counter's ledger is the one that the blank is of
abbrev pub ghosts-active : goal.ghosts-active
ghosts-active g = record { name = g.blank.name; parts = g.blank.parts }
