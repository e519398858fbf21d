use Rattle.esx_advice.proofs.AdviceTaken.{rebalance_is_accepted, named_is_accepted}
use Rattle.esx_advice.proofs.laws.advised_event_goes.Goals as goal

pub returns-clause-named : goal.returns-clause-named
returns-clause-named g = named_is_accepted

pub returns-clause-rebalance : goal.returns-clause-rebalance
returns-clause-rebalance g = rebalance_is_accepted
