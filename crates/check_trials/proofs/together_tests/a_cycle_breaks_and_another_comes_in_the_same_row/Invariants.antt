use Rattle.check_trials.proofs.together_tests.a_cycle_breaks_and_another_comes_in_the_same_row.Given as goal

-- the ledger of the blank
abbrev pub ghosts-broken_and_made : goal.ghosts-broken_and_made
ghosts-broken_and_made g a = record { name = a.blank.name; parts = a.blank.parts }
