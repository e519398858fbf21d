use Rattle.std.proofs.Common.{◌∙◌, sym, ap}
use Rattle.esx_model.specs.Replay.{run}
use Rattle.esx_model.specs.History.{here}
use Rattle.esx_journal.proofs.Reaching.{reached_steady, runs_here}
use Rattle.esx_journal.proofs.laws.reached_path_runs.Goals as goal

pub returns-clause-site : goal.returns-clause-site
returns-clause-site c = λ k h r. (reached_steady k h r).config

pub returns-clause-scene : goal.returns-clause-scene
returns-clause-scene c = λ k h r. (let s = reached_steady k h r in ap (λ x. run x (here h)) (sym s.config) ∙ runs_here k h s)
