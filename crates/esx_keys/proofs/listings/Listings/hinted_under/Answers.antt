use Rattle.esx_keys.proofs.Found.{tells_hinted}
use Rattle.esx_keys.proofs.listings.Listings.hinted_under.Goals as goal

pub returns : goal.returns
returns c =
    let least = rw c.from.ensures at c.find.ensures in
    let tells = tells_hinted c.args.short c.self.inside.index.listings c.find.result least in
    rw (← c.self.view_is) (record { least = least; found = tells.found; within = tells.within; none = tells.none })
