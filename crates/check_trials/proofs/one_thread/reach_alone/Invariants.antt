use Rattle.check_trials.proofs.one_thread.reach_alone.Given as goal

-- the ledger of the blank
abbrev pub ghosts-reach_counted : goal.ghosts-reach_counted
ghosts-reach_counted g a = record { name = a.blank.name; parts = a.blank.parts }
