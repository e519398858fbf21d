use Rattle.std.proofs.Common.{arith}
use Rattle.esx_explained.proofs.WordLemmas.{sample_draws, sample_ends}
use Rattle.esx_explained.proofs.operand.sample_operand.Goals as goal

pub returns-then-at-lt-MOST_WORDS : goal.returns-then-at-lt-MOST_WORDS
returns-then-at-lt-MOST_WORDS c = sample_draws c.args.at (omega arith) c.if-at-lt-MOST_WORDS.true

pub returns-else-at-lt-MOST_WORDS : goal.returns-else-at-lt-MOST_WORDS
returns-else-at-lt-MOST_WORDS c = sample_ends c.args.at (omega arith) c.if-at-lt-MOST_WORDS.false
