use Rattle.esx_tables.proofs.Kept.{one_kept, all_kept}
use Rattle.esx_tables.proofs.laws.sizes_stay.Goals as goal

pub returns-clause-one : goal.returns-clause-one
returns-clause-one c = one_kept

pub returns-clause-all : goal.returns-clause-all
returns-clause-all c = all_kept
