use Rattle.page_trials.proofs.tables_tests.an_update_tells_the_own_addresses_of_its_prefix.Given as goal

-- the ledger of the blank
abbrev pub ghosts-updates_of_one_in_another : goal.ghosts-updates_of_one_in_another
ghosts-updates_of_one_in_another g a = record { name = a.blank.name; parts = a.blank.parts }
