use Rattle.check_trials.proofs.one_thread.waypoint_alone.Given as goal

-- the ledger of the blank
abbrev pub ghosts-waypoint_counted : goal.ghosts-waypoint_counted
ghosts-waypoint_counted g a = record { name = a.blank.name; parts = a.blank.parts }
