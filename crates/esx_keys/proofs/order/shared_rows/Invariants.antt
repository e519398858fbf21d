use Rattle.std.proofs.Common.{◌≡◌, take}
use Rattle.esx_types.specs.Listings.{shared_from}
use Rattle.esx_keys.proofs.order.shared_rows.Given as goal

abbrev pub invariant-loop-frame : goal.invariant-loop-frame
invariant-loop-frame l = l.rows.items ≡ shared_from 0 (take l.frame l.listings)
