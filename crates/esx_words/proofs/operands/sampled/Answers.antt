use Rattle.std.proofs.Common.{rules}
use Rattle.esx_words.proofs.MemoryLemmas.{numbers_read}
use Rattle.esx_reading.proofs.Results.{on_err}
use Rattle.esx_words.proofs.operands.sampled.Goals as goal

pub returns-in_err-words-2-clause-memory : goal.returns-in_err-words-2-clause-memory
returns-in_err-words-2-clause-memory c =
    let found = rw c.in-Some-2.is at c.in_ok-words.ensures.found in
    on_err c.from_residual-in_err-words-2.result (
      c.in-Some.vm,
      _,
      c.in-Some.ensures.some.0,
      c.in-Some.ensures.some.1,
      (c.in-Some-number.number, _, search rules, c.in-Some-number.ensures.some, numbers_read c.in-Some-2.words.items _ found.1 found.2),
    )
