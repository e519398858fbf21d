use Rattle.esx_records.proofs.Moved.{admitted_given, admitted_flipped}
use Rattle.esx_records.proofs.laws.admitted_machine_moves.Goals as goal

pub returns-clause-given : goal.returns-clause-given
returns-clause-given c = admitted_given

pub returns-clause-flipped : goal.returns-clause-flipped
returns-clause-flipped c = admitted_flipped
