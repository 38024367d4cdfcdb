use Rattle.check_trials.proofs.one_thread.path_alone.Given as goal

-- the ledger of the blank
abbrev pub ghosts-path_counted : goal.ghosts-path_counted
ghosts-path_counted g a = record { name = a.blank.name; parts = a.blank.parts }
