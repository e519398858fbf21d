use Rattle.esx_model.proofs.RowsOfSite.{site_targets}
use Rattle.esx_model.proofs.laws.sites_have_targets.Goals as goal

pub returns : goal.returns
returns c = site_targets
