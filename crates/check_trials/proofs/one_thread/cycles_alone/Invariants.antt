use Rattle.check_trials.proofs.one_thread.cycles_alone.Given as goal

-- the ledger of the blank
abbrev pub ghosts-cycles_counted : goal.ghosts-cycles_counted
ghosts-cycles_counted g a = record { name = a.blank.name; parts = a.blank.parts }
