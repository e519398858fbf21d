use Rattle.std.proofs.Common.{◌≡◌, ◌*◌}
use Rattle.sha2.specs.Sha256.{hash_after, initial_hash_256}
use Rattle.esx_formulas.proofs.digest.final_hash.Given as goal

abbrev pub invariant-groups : goal.invariant-groups
invariant-groups l = l.state ≡ hash_after initial_hash_256 l.bytes (4 * l.i)
