use Rattle.std.proofs.Common.{◌*◌, ◌<◌, ℕ}
use Rattle.sha2.specs.Sha256.{schedule}
use Rattle.esx_formulas.specs.Lanes.{block, IsLane}
use Rattle.esx_formulas.proofs.lanes.schedules.Given as goal

abbrev pub invariant-load : goal.invariant-load
invariant-load l = (j : ℕ) → j < 4 → IsLane l.w l.sums j (schedule (block l.blocks j) 48) l.t

abbrev pub invariant-next : goal.invariant-next
invariant-next l = (j : ℕ) → j < 4 → IsLane l.w l.sums j (schedule (block l.blocks j) 48) (8 * l.turn)
