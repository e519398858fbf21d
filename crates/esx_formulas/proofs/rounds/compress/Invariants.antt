use Rattle.std.proofs.Common.{◌≡◌, ◌*◌, List, ℕ}
use Rattle.sha2.specs.Sha256.{rounds}
use Rattle.esx_formulas.specs.Lanes.{AreSums}
use Rattle.esx_formulas.proofs.rounds.compress.Given as goal

abbrev pub invariant-rounds : goal.invariant-rounds
invariant-rounds l = (ws : List ℕ) → AreSums l.sums l.lane ws 64 → l.v ≡ rounds l.state ws (8 * l.turn)
