use Rattle.std.proofs.Common.{◌∙◌, ap, set}
use Rattle.std.proofs.lemmas.List.{set-set}
use Rattle.esx_keys.proofs.listings.Listings.trade.Goals as goal

pub returns-then-frame-len-clause-listings : goal.returns-then-frame-len-clause-listings
returns-then-frame-len-clause-listings c =
    c.enlist.ensures ∙ ap (λ xs. set xs c.args.frame c.args.listing.now) c.unlist-before.ensures.listings ∙ set-set c.args.self.now c.args.frame _ c.args.listing.now
