use Rattle.esx_journal.proofs.Reaching.{reached_steady}
use Rattle.esx_journal.proofs.Turning.{turns_same}
use Rattle.esx_journal.proofs.laws.turns_meet.Goals as goal

pub returns : goal.returns
returns c = λ k h after other turns others r e f deep. (let s = reached_steady k h r in turns_same h after other turns others s.tree s.walk e f deep)
