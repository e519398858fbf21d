use Rattle.esx_laws.proofs.PathLemmas.{run_taken}
use Rattle.esx_laws.proofs.paths.path_begins.Goals as goal

pub returns : goal.returns
returns c = run_taken
