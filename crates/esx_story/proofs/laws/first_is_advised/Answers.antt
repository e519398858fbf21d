use Rattle.esx_story.proofs.Ranked.{first_is_named, are_ranked, next_is_first}
use Rattle.esx_story.proofs.laws.first_is_advised.Goals as goal

pub returns-clause-first : goal.returns-clause-first
returns-clause-first c = first_is_named

pub returns-clause-above : goal.returns-clause-above
returns-clause-above c = are_ranked

pub returns-clause-next : goal.returns-clause-next
returns-clause-next c = next_is_first
