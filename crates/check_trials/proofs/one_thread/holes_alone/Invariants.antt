use Rattle.check_trials.proofs.one_thread.holes_alone.Given as goal

-- the ledger of the blank
abbrev pub ghosts-holes_counted : goal.ghosts-holes_counted
ghosts-holes_counted g a = record { name = a.blank.name; parts = a.blank.parts }
