use Rattle.feed_threads.proofs.ask.outcome_over.Given as goal

-- the ledger of the blank
abbrev pub ghosts-answer_alone : goal.ghosts-answer_alone
ghosts-answer_alone g a = record { name = a.blank.name; parts = a.blank.parts }
