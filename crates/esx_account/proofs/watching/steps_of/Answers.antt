use Rattle.esx_account.specs.Surveying.{events_to}
use Rattle.esx_account.proofs.watching.steps_of.Goals as goal

pub returns : goal.returns
returns c = λ site entries is. c.rows_of.ensures site (events_to site entries c.args.path.now) (c.in_ok-watch.ensures site entries is)
