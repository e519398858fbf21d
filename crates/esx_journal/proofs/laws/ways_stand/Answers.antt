use Rattle.esx_journal.proofs.Paths.{alive_fits}
use Rattle.esx_journal.proofs.Reaching.{reached_steady}
use Rattle.esx_journal.proofs.laws.ways_stand.Goals as goal

pub returns-clause-cursor : goal.returns-clause-cursor
returns-clause-cursor c = λ k h node r on. (reached_steady k h r).way node on

pub returns-clause-each : goal.returns-clause-each
returns-clause-each c = λ k h node above r up on. (reached_steady k h r).live node above (alive_fits h.nodes node up) up on
