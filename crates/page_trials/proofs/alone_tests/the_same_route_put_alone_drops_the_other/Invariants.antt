use Rattle.page_trials.proofs.alone_tests.the_same_route_put_alone_drops_the_other.Given as goal

-- the ledger of the blank
abbrev pub ghosts-compare_steps : goal.ghosts-compare_steps
ghosts-compare_steps g a = record { name = a.blank.name; parts = a.blank.parts }
