use Rattle.esx_journal.proofs.Reaching.{reached_steady}
use Rattle.esx_journal.proofs.Turning.{turned_rest, turned_jumps, turned_depth}
use Rattle.esx_journal.proofs.laws.turns_add_up.Goals as goal

pub returns-clause-rest : goal.returns-clause-rest
returns-clause-rest c = λ k h after turns r e. (let s = reached_steady k h r in turned_rest turns h after s.tree s.walk e)

pub returns-clause-jumps : goal.returns-clause-jumps
returns-clause-jumps c = λ k h after turns r e. (let s = reached_steady k h r in turned_jumps turns h after s.tree s.walk e)

pub returns-clause-depth : goal.returns-clause-depth
returns-clause-depth c = λ k h after turns r e. (let s = reached_steady k h r in turned_depth turns h after s.tree s.walk e)
