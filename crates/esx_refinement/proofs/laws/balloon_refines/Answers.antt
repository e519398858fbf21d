use Rattle.esx_refinement.proofs.refines.Balloon.{ask_refines, lend_refines, take_back_refines}
use Rattle.esx_refinement.proofs.laws.balloon_refines.Goals as goal

pub returns-clause-ask : goal.returns-clause-ask
returns-clause-ask c = ask_refines

pub returns-clause-lend : goal.returns-clause-lend
returns-clause-lend c = lend_refines

pub returns-clause-take_back : goal.returns-clause-take_back
returns-clause-take_back c = take_back_refines
