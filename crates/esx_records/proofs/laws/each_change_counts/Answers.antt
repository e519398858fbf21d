use Rattle.esx_records.proofs.Together.{changes_counted}
use Rattle.esx_records.proofs.laws.each_change_counts.Goals as goal

pub returns : goal.returns
returns c = changes_counted
