use Rattle.std.proofs.Common.{◌∙◌, ap}
use Rattle.std.proofs.lemmas.Option.{unwrap_or-slice_get}
use Rattle.std.specs.Option.{unwrap_or}
use Rattle.esx_types.specs.declared.table.Listing.TheVariants.{Unlisted}
use Rattle.esx_types.specs.Listings.{listing_at}
use Rattle.esx_keys.proofs.listings.Listings.get.Goals as goal

pub returns-in-None : goal.returns-in-None
returns-in-None c =
    ap (λ o. unwrap_or o Unlisted) c.in-None.ensures ∙ unwrap_or-slice_get c.self.inside.index.listings c.args.frame Unlisted
    ∙ ap (λ rows. listing_at rows c.args.frame) c.self.view_is
