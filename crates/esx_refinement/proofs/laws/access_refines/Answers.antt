use Rattle.esx_refinement.proofs.refines.Access.{read_refines, write_refines}
use Rattle.esx_refinement.proofs.laws.access_refines.Goals as goal

pub returns-clause-read : goal.returns-clause-read
returns-clause-read c = read_refines

pub returns-clause-write : goal.returns-clause-write
returns-clause-write c = write_refines
