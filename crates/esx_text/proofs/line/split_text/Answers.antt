use Rattle.std.proofs.Common.{arith}
use Rattle.std.proofs.lemmas.Str.{IsCharBoundary-before_ascii, IsCharBoundary-after_ascii}
use Rattle.esx_text.proofs.line.split_text.Goals as goal

pub split_at-requires : goal.split_at-requires
split_at-requires c = IsCharBoundary-before_ascii c.args.text.now c.args.at c.requires.within (omega (arith, c.requires.feed))

pub split_at-requires-2 : goal.split_at-requires-2
split_at-requires-2 c = IsCharBoundary-after_ascii c.args.text.now c.args.at c.utf8.text c.requires.within (omega (arith, c.requires.feed))
