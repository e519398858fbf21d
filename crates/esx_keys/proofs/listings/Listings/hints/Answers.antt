use Rattle.std.proofs.Common.{◌∙◌, sym}
use Rattle.esx_keys.proofs.Rows.{hints_of-used}
use Rattle.esx_keys.proofs.listings.Listings.hints.Goals as goal

pub returns : goal.returns
returns c = rw (← hints_of-used c.used.result.now c.args.self.now _ (sym c.self.view_is ∙ c.used.ensures)) c.hints_in_order.ensures
