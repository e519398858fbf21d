use Rattle.esx_formulas.proofs.RowLaws.{AreRowsBelow}
use Rattle.esx_formulas.proofs.targets.are_rows.Given as goal

abbrev pub invariant-loop-i : goal.invariant-loop-i
invariant-loop-i l = AreRowsBelow l.rows l.i
