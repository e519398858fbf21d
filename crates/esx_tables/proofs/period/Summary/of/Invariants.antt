use Rattle.std.proofs.Common.{take}
use Rattle.esx_tables.specs.Summaries.{IsSummary}
use Rattle.esx_tables.proofs.period.Summary.of.Given as goal

abbrev pub invariant-loop-mark : goal.invariant-loop-mark
invariant-loop-mark l = IsSummary l.summary (take l.mark-index l.marks)
