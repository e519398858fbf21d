use Rattle.esx_journal.proofs.Reaching.{reached_steady}
use Rattle.esx_journal.proofs.Turning.{turns_home}
use Rattle.esx_journal.proofs.laws.turns_cancel.Goals as goal

pub returns : goal.returns
returns c = λ k h after turns r e sums. (let s = reached_steady k h r in turns_home h after turns s.tree s.walk e sums)
