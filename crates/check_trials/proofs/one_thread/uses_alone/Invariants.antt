use Rattle.check_trials.proofs.one_thread.uses_alone.Given as goal

-- the ledger of the blank
abbrev pub ghosts-uses_counted : goal.ghosts-uses_counted
ghosts-uses_counted g a = record { name = a.blank.name; parts = a.blank.parts }
