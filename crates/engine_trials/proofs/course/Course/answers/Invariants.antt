use Rattle.engine_trials.proofs.course.Course.answers.Given as goal

-- the ledger of the blank
abbrev pub ghosts-by_version : goal.ghosts-by_version
ghosts-by_version a = record { name = a.blank.name; parts = a.blank.parts }
