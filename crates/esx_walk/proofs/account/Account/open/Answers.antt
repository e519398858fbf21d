use Rattle.esx_model.specs.Replay.{opening}
use Rattle.esx_walk.specs.Kept.{account_of}
use Rattle.esx_walk.proofs.Going.{opens_so}
use Rattle.esx_walk.proofs.account.Account.open.Goals as goal

pub returns : goal.returns
returns c = λ config. opens_so config (opening config).site (account_of c.in_ok-account.account) c.in_ok-account.ensures
