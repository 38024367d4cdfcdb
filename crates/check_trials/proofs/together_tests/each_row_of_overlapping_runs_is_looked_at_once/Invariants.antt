use Rattle.check_trials.proofs.together_tests.each_row_of_overlapping_runs_is_looked_at_once.Given as goal

-- the ledger of the blank
abbrev pub ghosts-overlapping_runs : goal.ghosts-overlapping_runs
ghosts-overlapping_runs g a = record { name = a.blank.name; parts = a.blank.parts }
