use Rattle.engine_trials.proofs.course.Course.apply.Given as goal

-- the ledger of the blank
abbrev pub ghosts-apply_version : goal.ghosts-apply_version
ghosts-apply_version a = record { name = a.blank.name; parts = a.blank.parts }
