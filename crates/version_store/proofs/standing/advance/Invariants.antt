use Rattle.version_store.proofs.standing.advance.Given as goal

-- the ledgers of the blanks
abbrev pub ghosts-keep : goal.ghosts-keep
ghosts-keep a = record { name = a.blank.name; parts = a.blank.parts }

abbrev pub ghosts-update : goal.ghosts-update
ghosts-update a = record { name = a.blank.name; parts = a.blank.parts }
