use Rattle.std.proofs.Common.{arith}
use Rattle.esx_reading.proofs.HexTable.{low_read, low_of_digit}
use Rattle.esx_reading.proofs.written.low_of.Goals as goal

pub returns-clause-small : goal.returns-clause-small
returns-clause-small c = (low_read c.args.byte (omega (arith, c.ranges.byte.fits))).0

pub returns-clause-some : goal.returns-clause-some
returns-clause-some c = (low_read c.args.byte (omega (arith, c.ranges.byte.fits))).1

pub returns-clause-none : goal.returns-clause-none
returns-clause-none c = λ full v small e. omega (arith, full, low_of_digit c.args.byte v small e)
