use Rattle.hex.specs.Hex.{encode_lower}
use Rattle.esx_writing.proofs.WritingLemmas.{utf8_hex, utf8_at_success}
use Rattle.esx_writing.proofs.line.HexLine.put_parts.Goals as goal

pub returns-clause-utf8 : goal.returns-clause-utf8
returns-clause-utf8 g c = utf8_at_success (encode_lower c.args.self.now.bytes.now) c.put_hex.result (utf8_hex c.args.self.now.bytes.now)
