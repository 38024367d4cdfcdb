use Rattle.row_answers.proofs.wide.shown_wide.Given as goal

-- the ledger of the blank
abbrev pub ghosts-shown_alone : goal.ghosts-shown_alone
ghosts-shown_alone g a = record { name = a.blank.name; parts = a.blank.parts }
