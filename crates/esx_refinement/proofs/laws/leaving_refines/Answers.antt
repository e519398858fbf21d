use Rattle.esx_refinement.proofs.refines.Leaving.{drop_refines, gone_refines}
use Rattle.esx_refinement.proofs.laws.leaving_refines.Goals as goal

pub returns-clause-drop_page : goal.returns-clause-drop_page
returns-clause-drop_page c = drop_refines

pub returns-clause-gone : goal.returns-clause-gone
returns-clause-gone c = gone_refines
