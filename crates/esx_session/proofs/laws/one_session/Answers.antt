use Rattle.std.specs.Str.Lines.{lines}
use Rattle.esx_session.proofs.SessionLemmas.{one_session}
use Rattle.esx_session.proofs.laws.one_session.Goals as goal

pub returns : goal.returns
returns c = λ text site other entries others p q. one_session (lines text) site other entries others p q
