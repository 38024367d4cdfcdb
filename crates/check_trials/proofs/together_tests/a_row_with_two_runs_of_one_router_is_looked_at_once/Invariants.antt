use Rattle.check_trials.proofs.together_tests.a_row_with_two_runs_of_one_router_is_looked_at_once.Given as goal

-- the ledger of the blank
abbrev pub ghosts-two_runs_in_one_row : goal.ghosts-two_runs_in_one_row
ghosts-two_runs_in_one_row g a = record { name = a.blank.name; parts = a.blank.parts }
