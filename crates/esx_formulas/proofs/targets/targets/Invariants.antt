use Rattle.esx_formulas.specs.Targets.{AreTargets}
use Rattle.esx_formulas.proofs.targets.targets.Given as goal

abbrev pub invariant-loop-taken : goal.invariant-loop-taken
invariant-loop-taken l = AreTargets l.rows l.taken l.targets.items
