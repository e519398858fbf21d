use Rattle.lock_tests.proofs.plays.whole_and_part.Goals as goal

pub split-first-requires-clause-rest : goal.split-first-requires-clause-rest
split-first-requires-clause-rest c = (0, c.requires.ids.0, c.single.ensures 0)
