use Rattle.std.proofs.Common.{◌*◌}
use Rattle.sha2.specs.Sha256.{schedule}
use Rattle.esx_formulas.specs.Lanes.{IsLane}
use Rattle.esx_formulas.proofs.block.schedule.Given as goal

abbrev pub invariant-load : goal.invariant-load
invariant-load l = IsLane l.w l.sums 0 (schedule l.block 48) l.t

abbrev pub invariant-next : goal.invariant-next
invariant-next l = IsLane l.w l.sums 0 (schedule l.block 48) (4 * l.turn)
