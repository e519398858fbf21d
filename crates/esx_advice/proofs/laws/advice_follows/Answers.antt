use Rattle.esx_advice.proofs.Scenes.{path_fits}
use Rattle.esx_advice.proofs.Following.{swap_out_follows, go_follows}
use Rattle.esx_advice.proofs.laws.advice_follows.Goals as goal

pub returns-clause-rebalance : goal.returns-clause-rebalance
returns-clause-rebalance g = λ c t u n page a on_path advised h. swap_out_follows c t u n page a (path_fits c t on_path) advised h

pub returns-clause-replace : goal.returns-clause-replace
returns-clause-replace g = λ c t u n page word a on_path h. go_follows c t u n page word a (path_fits c t on_path) h
