use Rattle.std.proofs.Common.{◌-◌, length}
use Rattle.esx_keys.proofs.Walked.{Walked}
use Rattle.esx_keys.proofs.index.Index.find.Given as goal

abbrev pub invariant-loop-at : goal.invariant-loop-at
invariant-loop-at l = Walked l.self l.kind l.number l.at

abbrev pub decreases-loop-at : goal.decreases-loop-at
decreases-loop-at l = length l.self.listings - l.at
