use Rattle.esx_reading.proofs.HexLanes.{no_bytes, eight_are}
use Rattle.esx_reading.proofs.hex_digits.eight_bytes.Goals as goal

pub returns-then-values-ne0-clause-none : goal.returns-then-values-ne0-clause-none
returns-then-values-ne0-clause-none c = λ bytes are e.
    let values = c.hex_values-values.ensures in
    no_bytes c.args.digits.now c.hex_values-values.result bytes c.told-digits values.lanes values.values c.if-values-ne0.true are e

pub returns-clause-some : goal.returns-clause-some
returns-clause-some c =
    let values = c.hex_values-values.ensures in
    eight_are c.args.digits.now c.hex_values-values.result c.told-digits values.lanes values.values c.if-values-ne0.false
