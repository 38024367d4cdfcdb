use Rattle.check_trials.proofs.together_tests.a_cycle_that_two_routers_close_is_kept_once.Given as goal

-- the ledger of the blank
abbrev pub ghosts-closed_by_two : goal.ghosts-closed_by_two
ghosts-closed_by_two g a = record { name = a.blank.name; parts = a.blank.parts }
