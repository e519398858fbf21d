use Rattle.story_tests.proofs.tests.paths.losses_of.Goals as goal

pub returns : goal.returns
returns c = (let w = c.requires in c.losses.ensures.good w.config w.events w.mets w.walk)
