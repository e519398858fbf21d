use Rattle.esx_sums.proofs.Hosting.{host_is}
use Rattle.esx_sums.proofs.laws.hosts_share.Goals as goal

pub returns : goal.returns
returns c = host_is
