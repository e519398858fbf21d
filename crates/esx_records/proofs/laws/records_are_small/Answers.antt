use Rattle.esx_records.proofs.Forms.{records_small}
use Rattle.esx_records.proofs.laws.records_are_small.Goals as goal

pub returns : goal.returns
returns c = records_small
