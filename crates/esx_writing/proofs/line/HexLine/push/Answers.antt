use Rattle.std.proofs.Common.{arith}
use Rattle.hex.specs.Hex.{lower_digits}
use Rattle.hex.proofs.HexLemmas.{length-encode_with}
use Rattle.esx_writing.proofs.WritingLemmas.{utf8_hex}
use Rattle.esx_writing.proofs.line.HexLine.push.Goals as goal

pub returns-clause-fits : goal.returns-clause-fits
returns-clause-fits c = omega (arith, length-encode_with lower_digits c.args.self.now.bytes.now)

pub returns-clause-utf8 : goal.returns-clause-utf8
returns-clause-utf8 c = utf8_hex c.args.self.now.bytes.now
