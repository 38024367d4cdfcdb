use Rattle.check_trials.proofs.one_thread.loops_alone.Given as goal

-- the ledger of the blank
abbrev pub ghosts-loops_counted : goal.ghosts-loops_counted
ghosts-loops_counted g a = record { name = a.blank.name; parts = a.blank.parts }
