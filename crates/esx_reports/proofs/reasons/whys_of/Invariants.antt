use Rattle.std.proofs.Common.{take}
use Rattle.esx_reports.specs.Reasons.{AreWhysOf}
use Rattle.esx_reports.proofs.reasons.whys_of.Given as goal

abbrev pub invariant-loop-line : goal.invariant-loop-line
invariant-loop-line l = AreWhysOf l.opened l.script.requests (take l.line-index l.lines) l.whys.items
