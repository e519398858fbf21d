use Rattle.std.proofs.Common.{arith}
use Rattle.std.proofs.lemmas.Fmt.{length-decimal-le}
use Rattle.esx_writing.proofs.WritingLemmas.{utf8_number}
use Rattle.esx_writing.proofs.line.push_digits.Goals as goal

pub returns-clause-fits : goal.returns-clause-fits
returns-clause-fits c = length-decimal-le 20 c.args.number (omega arith) (omega (arith, c.ranges.number.fits)) c.ranges.number.fits

pub returns-clause-utf8 : goal.returns-clause-utf8
returns-clause-utf8 c = utf8_number c.args.number c.ranges.number.fits
