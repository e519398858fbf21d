use Rattle.std.proofs.Common.{length}
use Rattle.bench_site.proofs.digest.Digest.add.Given as goal

abbrev pub decreases-loop-eight : goal.decreases-loop-eight
decreases-loop-eight l = length l.rest
