use Rattle.std.proofs.Common.{w64}
use Rattle.std.proofs.lemmas.Nat.Bits.{bit_at_set_same, bit_at_set_other, bit_at_clear_same, bit_at_clear_other}
use Rattle.esx_index.proofs.word.with_mark.Goals as goal

pub returns-then-marked : goal.returns-then-marked
returns-then-marked c = rw c.if-marked.true (record { same = bit_at_set_same w64 _ _ c.requires; others = λ k _ ne. bit_at_set_other w64 _ _ c.requires k ne })

pub returns-else-marked : goal.returns-else-marked
returns-else-marked c = rw c.if-marked.false (record { same = bit_at_clear_same w64 _ _ c.requires; others = bit_at_clear_other w64 _ _ c.requires })
