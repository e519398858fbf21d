use Rattle.esx_reading.proofs.LaneLemmas.{mask_is, none_stops, some_stops}
use Rattle.esx_reading.proofs.digits.digits_len.Goals as goal

pub returns-then-stops-eq0-clause-digits : goal.returns-then-stops-eq0-clause-digits
returns-then-stops-eq0-clause-digits c = none_stops c.args.values _ c.fits-values.0 (mask_is c.args.values c.fits-values.0) c.if-stops-eq0.true

pub returns-clause-within : goal.returns-clause-within
returns-clause-within c = (some_stops c.args.values _ c.fits-values.0 (mask_is c.args.values c.fits-values.0) c.if-stops-eq0.false).0

pub returns-clause-digits : goal.returns-clause-digits
returns-clause-digits c = (some_stops c.args.values _ c.fits-values.0 (mask_is c.args.values c.fits-values.0) c.if-stops-eq0.false).1
