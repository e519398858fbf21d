use Rattle.std.proofs.lemmas.Simd.{zip2_splat}
use Rattle.esx_reading.proofs.digits.values.Goals as goal

pub returns : goal.returns
returns c = zip2_splat _ c.args.bytes.now 16 48 c.told-bytes
