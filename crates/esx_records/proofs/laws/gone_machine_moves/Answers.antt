use Rattle.esx_records.proofs.Moved.{gone_given, gone_flipped}
use Rattle.esx_records.proofs.laws.gone_machine_moves.Goals as goal

pub returns-clause-given : goal.returns-clause-given
returns-clause-given c = gone_given

pub returns-clause-flipped : goal.returns-clause-flipped
returns-clause-flipped c = gone_flipped
