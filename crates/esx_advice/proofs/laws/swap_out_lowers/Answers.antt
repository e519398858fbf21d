use Rattle.esx_advice.proofs.Scenes.{path_fits}
use Rattle.esx_advice.proofs.Falls.{swap_out_falls, rebalance_stays}
use Rattle.esx_advice.proofs.laws.swap_out_lowers.Goals as goal

pub returns-clause-swap_out : goal.returns-clause-swap_out
returns-clause-swap_out g = λ c t u m word a on_path h. swap_out_falls c t u m word a (path_fits c t on_path) h

pub returns-clause-rebalance : goal.returns-clause-rebalance
returns-clause-rebalance g = λ c t u a on_path h. rebalance_stays c t u a (path_fits c t on_path) h
