use Rattle.esx_journal.proofs.Grows.{redo_done}
use Rattle.esx_journal.proofs.Reaching.{reached_steady}
use Rattle.esx_journal.proofs.laws.event_drops_undone.Goals as goal

pub returns : goal.returns
returns c = λ k h event count r some. (let s = reached_steady k h r in redo_done h event count s.tree s.walk some)
