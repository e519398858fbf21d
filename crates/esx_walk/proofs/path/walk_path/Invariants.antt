use Rattle.std.proofs.Common.{[], take}
use Rattle.esx_walk.specs.Walks.{IsWalk}
use Rattle.esx_walk.proofs.path.walk_path.Given as goal

abbrev pub invariant-loop-at : goal.invariant-loop-at
invariant-loop-at l = IsWalk l.fn.site (take l._at l.events) [] l.walk
