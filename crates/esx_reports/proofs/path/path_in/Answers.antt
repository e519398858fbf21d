use Rattle.std.proofs.Common.{ap, Err}
use Rattle.esx_reports.proofs.Paths.{no_node}
use Rattle.esx_reports.proofs.path.path_in.Goals as goal

pub returns-in-Err : goal.returns-in-Err
returns-in-Err c = record {
  path = λ s past. tt;
  none = λ s past. no_node s c.args.at c.in-Err.refusal c.fault_of.result c.fault_of.ensures (c.in-Err.ensures.err s past) (λ same. c.in-Err.ensures.late s past (ap (λ e. Err e) same));
}
