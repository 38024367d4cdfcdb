use Rattle.page_trials.proofs.tables_tests.tables_side_by_side_do_what_each_alone_does.Given as goal

-- the ledger of the blank
abbrev pub ghosts-updates_near_any_place : goal.ghosts-updates_near_any_place
ghosts-updates_near_any_place g a = record { name = a.blank.name; parts = a.blank.parts }
