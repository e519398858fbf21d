use Rattle.std.proofs.Common.{◌-◌, length}
use Rattle.esx_keys.proofs.Walks.{Walks}
use Rattle.esx_keys.proofs.arena.find.Given as goal

abbrev pub invariant-loop-passed : goal.invariant-loop-passed
invariant-loop-passed l = Walks (length l.chains - 1) l.slots l.chains l.key l.kind l.at l._passed
