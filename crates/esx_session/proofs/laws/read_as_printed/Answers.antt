use Rattle.esx_session.proofs.PrintedLemmas.{read_as_printed}
use Rattle.esx_session.proofs.laws.read_as_printed.Goals as goal

pub returns : goal.returns
returns c = λ site entries is none. read_as_printed site entries is none
