use Rattle.std.proofs.Common.{ap, Err}
use Rattle.esx_reports.proofs.Paths.{no_text}
use Rattle.esx_reports.proofs.path.path_meant.Goals as goal

pub returns-in-Err-clause-none : goal.returns-in-Err-clause-none
returns-in-Err-clause-none g c = no_text c.args.text.now c.args.at c.in-Err.fault c.in-Err.ensures.only (λ same. c.in-Err.ensures.memory (ap (λ e. Err e) same))
