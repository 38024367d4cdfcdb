use Rattle.store_trials.proofs.questions.answer_of.Given as goal

-- the ledger of the blank
abbrev pub ghosts-answer_by_ledger : goal.ghosts-answer_by_ledger
ghosts-answer_by_ledger a = record { name = a.blank.name; parts = a.blank.parts }
