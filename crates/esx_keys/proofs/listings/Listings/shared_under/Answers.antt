use Rattle.esx_keys.proofs.Found.{tells_shared}
use Rattle.esx_keys.proofs.listings.Listings.shared_under.Goals as goal

pub returns : goal.returns
returns c =
    let tells = tells_shared c.args.key c.self.inside.index.listings c.find.result c.find.ensures in
    rw (← c.self.view_is) (record { least = c.find.ensures; found = tells.found; within = tells.within; none = tells.none })
