use Rattle.esx_records.proofs.Told.{told}
use Rattle.esx_records.proofs.laws.sizes_are_told.Goals as goal

pub returns : goal.returns
returns c = told
