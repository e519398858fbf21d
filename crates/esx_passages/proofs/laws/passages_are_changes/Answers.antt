use Rattle.esx_passages.proofs.Complete.{all_passages}
use Rattle.esx_passages.proofs.Once.{each_once}
use Rattle.esx_passages.proofs.laws.passages_are_changes.Goals as goal

pub returns-clause-all : goal.returns-clause-all
returns-clause-all c = all_passages

pub returns-clause-once : goal.returns-clause-once
returns-clause-once c = each_once
