use Rattle.esx_sums.specs.Kept.{sums_of}
use Rattle.esx_sums.proofs.Opened.{opens_so}
use Rattle.esx_sums.proofs.sums.Sums.open.Goals as goal

pub returns : goal.returns
returns c = opens_so c.args.site (sums_of c.in_ok-sums.sums) c.in_ok-sums.ensures
