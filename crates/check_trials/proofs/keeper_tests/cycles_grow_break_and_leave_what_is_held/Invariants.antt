use Rattle.check_trials.proofs.keeper_tests.cycles_grow_break_and_leave_what_is_held.Given as goal

-- the ledger of the blank
abbrev pub ghosts-cycles_turn : goal.ghosts-cycles_turn
ghosts-cycles_turn g a = record { name = a.blank.name; parts = a.blank.parts }
