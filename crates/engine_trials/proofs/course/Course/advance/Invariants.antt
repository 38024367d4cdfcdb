use Rattle.engine_trials.proofs.course.Course.advance.Given as goal

-- the ledger of the blank
abbrev pub ghosts-advance_version : goal.ghosts-advance_version
ghosts-advance_version a = record { name = a.blank.name; parts = a.blank.parts }
