use Rattle.esx_story.proofs.Accounts.{losses_told}
use Rattle.esx_story.proofs.laws.losses_are_told.Goals as goal

pub returns : goal.returns
returns c = losses_told
