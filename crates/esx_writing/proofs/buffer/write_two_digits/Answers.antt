use Rattle.std.proofs.Common.{◌+◌, take, arith}
use Rattle.esx_writing.proofs.WritingLemmas.{last_digit}
use Rattle.esx_writing.proofs.buffer.write_two_digits.Goals as goal

pub returns : goal.returns
returns c =
    last_digit (take c.args.count c.args.bytes.now) _ _ (c.args.count + 1) _ c.args.number c.requires.least (omega (arith, c.requires.most)) (omega arith) c.write_digit.ensures c.write_digit-2.ensures
