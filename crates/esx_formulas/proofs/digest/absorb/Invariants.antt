use Rattle.std.proofs.Common.{◌≡◌}
use Rattle.sha2.specs.Sha256.{hash_after}
use Rattle.esx_formulas.proofs.digest.absorb.Given as goal

abbrev pub invariant-lanes : goal.invariant-lanes
invariant-lanes l = l.state ≡ hash_after l.fn.state l.blocks l.lane
