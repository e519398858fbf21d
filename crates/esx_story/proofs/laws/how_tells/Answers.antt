use Rattle.esx_story.proofs.Hows.{loss_how, gain_how, other_how, losses_changes, gains_changes}
use Rattle.esx_story.proofs.laws.how_tells.Goals as goal

pub returns-clause-lost : goal.returns-clause-lost
returns-clause-lost c = loss_how

pub returns-clause-gained : goal.returns-clause-gained
returns-clause-gained c = gain_how

pub returns-clause-others : goal.returns-clause-others
returns-clause-others c = other_how

pub returns-clause-losses : goal.returns-clause-losses
returns-clause-losses c = losses_changes

pub returns-clause-gains : goal.returns-clause-gains
returns-clause-gains c = gains_changes
