use Rattle.esx_figures.proofs.Every.{sharing_told}
use Rattle.esx_figures.proofs.Tells.{shared_told}
use Rattle.esx_figures.proofs.laws.sharing_is_told.Goals as goal

pub returns-clause-sharing : goal.returns-clause-sharing
returns-clause-sharing c = sharing_told

pub returns-clause-page : goal.returns-clause-page
returns-clause-page c = shared_told
