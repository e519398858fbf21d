use Rattle.std.proofs.Common.{arith}
use Rattle.esx_reading.proofs.HexField.{length_of_hex}
use Rattle.esx_reading.proofs.Results.{on_err}
use Rattle.esx_reading.proofs.written.many_written_bytes.Goals as goal

pub returns-in_err-from_bytes-in-Some-clause-memory : goal.returns-in_err-from_bytes-in-Some-clause-memory
returns-in_err-from_bytes-in-Some-clause-memory c =
    let found = rw c.in-Some.is at c.in_ok-bytes.ensures.found in
    let h = length_of_hex c.args.field.now c.in-Some.bytes found.1 in
    on_err c.from_residual-in_err-from_bytes-in-Some.result (omega (arith, h, found.0.few), omega (arith, h))
