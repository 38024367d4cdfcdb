use Rattle.check_trials.proofs.together_tests.two_routers_of_one_row_close_two_cycles.Given as goal

-- the ledger of the blank
abbrev pub ghosts-two_of_one_row : goal.ghosts-two_of_one_row
ghosts-two_of_one_row g a = record { name = a.blank.name; parts = a.blank.parts }
