use Rattle.check_trials.proofs.keeper_tests.cycles_come_where_none_stood.Given as goal

-- the ledger of the blank
abbrev pub ghosts-cycles_come : goal.ghosts-cycles_come
ghosts-cycles_come g a = record { name = a.blank.name; parts = a.blank.parts }
