use Rattle.std.proofs.Common.{◌≡◌, map, take}
use Rattle.esx_work.specs.Sites.{told_of, wanted_of}
use Rattle.esx_work.proofs.site.machines_of.Given as goal

abbrev pub invariant-loop-guest : goal.invariant-loop-guest
invariant-loop-guest l = map told_of l.machines.items ≡ map (λ g. wanted_of g.now) (take l.guest-index l.guests)
