use Rattle.std.proofs.Common.{◌≡◌, ◌+◌, ◌-◌, ◌<◌, ◌^◌, length, count_by, ap, sym, ◌∙◌, arith}
use Rattle.esx_types.specs.declared.table.Listing.TheVariants.{Unlisted}
use Rattle.esx_types.specs.Listings.{listing_at}
use Rattle.esx_lists.specs.Counts.{one}
use Rattle.esx_lists.proofs.Counts.{count_by-set-fits}
use Rattle.esx_keys.specs.Index.{is_listed}
use Rattle.esx_keys.proofs.listings.Listings.enlist.Goals as goal

pub overflow_add-self : goal.overflow_add-self
overflow_add-self c =
    let xs = c.self.inside.index.listings in
    let within : c.args.frame < length xs = rw c.self.view_is c.requires.frame in
    let none : listing_at xs c.args.frame ≡ Unlisted = rw c.self.view_is c.requires.unlisted in
    let before : one (is_listed (listing_at xs c.args.frame)) ≡ 0 = ap (λ l. one (is_listed l)) none in
    let now : one (is_listed c.args.listing) ≡ 1 = ap one (sym c.is_listed.ensures ∙ c.if-is_listed.true) in
    let fits : count_by is_listed xs - one (is_listed (listing_at xs c.args.frame)) + one (is_listed c.args.listing) < 2 ^ 32 =
    count_by-set-fits is_listed xs c.args.frame c.args.listing Unlisted (2 ^ 32) within c.self.invariant.0.fits in
    omega (arith, fits, before, now, c.self.invariant.1)
