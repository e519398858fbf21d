use Rattle.std.proofs.Common.{refl}
use Rattle.esx_reports.proofs.path.fault_of.Goals as goal

pub returns-in_default : goal.returns-in_default
returns-in_default c = (c.in_default.not-OutOfMemory, refl)
