use Rattle.esx_average.proofs.MeansLaws.{means_of_none}
use Rattle.esx_average.proofs.averages.Averages.opened.Goals as goal

pub returns-clause-none : goal.returns-clause-none
returns-clause-none c = means_of_none
