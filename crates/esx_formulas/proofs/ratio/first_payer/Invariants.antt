use Rattle.esx_formulas.specs.Ratio.{row_at}
use Rattle.esx_formulas.specs.Payers.{IsBestBelow}
use Rattle.esx_formulas.proofs.ratio.first_payer.Given as goal

abbrev pub invariant-loop-i : goal.invariant-loop-i
invariant-loop-i l = IsBestBelow l.rows (λ k. (row_at l.rows k).pages) l.i l.best
