use Rattle.std.proofs.lemmas.Nat.{and_mask}
use Rattle.esx_keys.proofs.arena.head_of.Goals as goal

pub returns : goal.returns
returns c = rw c.requires.1 (and_mask c.args.key c.requires.0)
