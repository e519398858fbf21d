use Rattle.std.proofs.Common.{slice_index}
use Rattle.esx_formulas.specs.Payers.{IsBestBelow}
use Rattle.esx_formulas.proofs.targets.next_payer.Given as goal

abbrev pub invariant-loop-i : goal.invariant-loop-i
invariant-loop-i l = IsBestBelow l.rows (λ k. slice_index l.targets k) l.i l.best
