use Rattle.std.proofs.Common.{◌∙◌, sym}
use Rattle.esx_keys.proofs.Rows.{shared_from-used}
use Rattle.esx_keys.proofs.listings.Listings.shared.Goals as goal

pub returns : goal.returns
returns c = rw (← shared_from-used c.used.result.now c.args.self.now _ (sym c.self.view_is ∙ c.used.ensures)) c.shared_in_order.ensures
