use Rattle.esx_reading.proofs.HexLanes.{length_values, values_are}
use Rattle.esx_reading.proofs.hex_digits.hex_values.Goals as goal

pub returns : goal.returns
returns c = record { lanes = length_values 16 c.args.bytes c.fits-bytes.0; values = values_are 16 c.args.bytes c.fits-bytes.0 c.fits-bytes.1 }
