use Rattle.story_tests.proofs.tests.losses.expect.Given as goal

abbrev pub ghosts-told_counted : goal.ghosts-told_counted
ghosts-told_counted g a = record { name = a.blank.name; parts = a.blank.parts }
