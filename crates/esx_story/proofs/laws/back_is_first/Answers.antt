use Rattle.esx_story.proofs.Backs.{back_first, over_first, back_gained, come_gained}
use Rattle.esx_story.proofs.laws.back_is_first.Goals as goal

pub returns-clause-first : goal.returns-clause-first
returns-clause-first c = back_first

pub returns-clause-gained : goal.returns-clause-gained
returns-clause-gained c = back_gained

pub returns-clause-over : goal.returns-clause-over
returns-clause-over c = over_first

pub returns-clause-came : goal.returns-clause-came
returns-clause-came c = come_gained
