use Rattle.esx_passages.proofs.Listed.{changes_listed}
use Rattle.esx_passages.proofs.laws.changes_are_listed.Goals as goal

pub returns : goal.returns
returns c = changes_listed
