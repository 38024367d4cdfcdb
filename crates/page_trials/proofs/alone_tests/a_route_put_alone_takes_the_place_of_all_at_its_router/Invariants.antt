use Rattle.page_trials.proofs.alone_tests.a_route_put_alone_takes_the_place_of_all_at_its_router.Given as goal

-- the ledger of the blank
abbrev pub ghosts-compare_steps : goal.ghosts-compare_steps
ghosts-compare_steps g a = record { name = a.blank.name; parts = a.blank.parts }
