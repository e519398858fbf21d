use Rattle.esx_journal.proofs.Grows.{here_done}
use Rattle.esx_journal.proofs.laws.event_lengthens.Goals as goal

pub returns : goal.returns
returns c = λ event h. here_done h event
